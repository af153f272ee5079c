-- An act of a legal history is refused for nothing but memory.
use Rattle.std.proofs.Common.{◌≡◌, ◌≢◌, inl, inr, ◌<◌, ℕ, zero, suc, List, [], ◌∷◌, Some, length, take, slice_get, get_or, arith, refl, sym, ap, ◌∙◌, subst}
use Rattle.std.proofs.lemmas.Option.{slice_get-get_or}
use Rattle.keybits.specs.declared.shape.Shape.{Shape}
use Rattle.keybits.specs.Shapes.{callers}
use Rattle.seqpool.specs.Pool.{Pool, Allowed, LegalFrom, IsLegal, lane_of, after, fresh, pool_from, pool_after}
use Rattle.seqpool.specs.Refusals.{Wrong, Refused}
use Rattle.seqpool.specs.declared.act.Act.{Act}
use Rattle.seqpool.specs.declared.act.Act.TheVariants.{Publish, Get, Release, Clear, Reclaim, Home, Collect}
use Rattle.seqpool.specs.declared.fault.ApplyFault.{ApplyFault}
use Rattle.seqpool.specs.declared.fault.ApplyFault.TheVariants.{NotWithLane, WrongGeneration, WrongReply, NotHeld, StillHeld, NotMarked, NotHome, Memory}
use Rattle.seqpool.proofs.Ranks.{current-key}

-- nothing is wrong with an act that is allowed
allowed-not-wrong : (z : Shape) (P : Pool) (act : Act) (fault : ApplyFault) → Allowed z P act → Wrong z P act fault → ⊥
allowed-not-wrong z P (Publish lane key content with_ref) NotWithLane (current, with_lane) (inl outside) =
    let key-is = (current-key z P key current).0 in absurd (cc (key-is, outside))
allowed-not-wrong z P (Publish lane key content with_ref) NotWithLane (current, with_lane) (inr other) = other with_lane
allowed-not-wrong z P (Publish lane key content with_ref) WrongGeneration (current, with_lane) wrong = wrong.2 (current-key z P key current).1
allowed-not-wrong z P (Get lane key reply) WrongReply is wrong = wrong is
allowed-not-wrong z P (Release lane key) NotHeld held none = absurd (omega (arith, held, none))
allowed-not-wrong z P (Clear lane key reply) WrongReply is wrong = wrong is
allowed-not-wrong z P (Reclaim lane key) NotMarked (current, marked, free) (inl outside) = absurd (cc (current, outside))
allowed-not-wrong z P (Reclaim lane key) NotMarked (current, marked, free) (inr unmarked) = absurd (cc (marked, unmarked))
allowed-not-wrong z P (Reclaim lane key) StillHeld (current, marked, free) (_, _, (other, held)) = absurd (omega (arith, held, free other))
allowed-not-wrong z P (Home lane place) NotWithLane allowed wrong = wrong allowed
allowed-not-wrong z P (Collect lane places) NotHome allowed wrong = wrong allowed
allowed-not-wrong z P act fault allowed wrong = wrong

-- the act of this index of a legal history is of a caller of the shape, and allowed behind those before it
legal-at : (z : Shape) (P : Pool) (history : List Act) (at : ℕ) (act : Act) → LegalFrom z P history → slice_get history at ≡ Some act
    → (lane_of act < callers z) × Allowed z (pool_from z P (take at history)) act
legal-at z P [] at act legal is = absurd (cc is)
legal-at z P (first ∷ more) zero act legal is =
    let here : first ≡ act = cc is in
    subst (λ (a : Act). (lane_of a < callers z) × Allowed z P a) here (legal.0, legal.1)
legal-at z P (first ∷ more) (suc at) act legal is = legal-at z (after z first P) more at act legal.2 is

-- the act of this index of a legal history, where there are no guests, isn't refused
legal-unrefused : (z : Shape) (history : List Act) (at : ℕ) (act : Act) (fault : ApplyFault) → z.guests ≡ 0 → IsLegal z history → slice_get history at ≡ Some act
    → Refused z (pool_after z (take at history)) act fault → ⊥
legal-unrefused z history at act fault alone legal is (inl (beyond, _)) =
    let low = (legal-at z fresh history at act legal is).0 in absurd (omega (arith, low, alone, beyond))
legal-unrefused z history at act fault alone legal is (inr (_, wrong)) =
    allowed-not-wrong z (pool_after z (take at history)) act fault (legal-at z fresh history at act legal is).1 wrong

-- what isn't refused for anything else is refused for memory
only-memory : (fault : ApplyFault) → (fault ≢ Memory → ⊥) → fault ≡ Memory
only-memory Memory never = refl
only-memory NotWithLane never = absurd (never (λ is. absurd (cc is)))
only-memory fault never = absurd (never (λ is. absurd (cc is)))

-- a refusal of the act of this index of a legal history is for memory
pub legal-memory : (z y : Shape) (P : Pool) (history : List Act) (at : ℕ) (act : Act) (fault : ApplyFault) → z.guests ≡ 0 → IsLegal z history
    → at < length history
    → act ≡ get_or history at act → y ≡ z → P ≡ pool_after z (take at history) → (fault ≢ Memory → Refused y P act fault) → fault ≡ Memory
legal-memory z y P history at act fault alone legal below is shapes pools refused = only-memory fault (λ other.
    legal-unrefused z history at act fault alone legal (slice_get-get_or history at act below ∙ ap Some (sym is))
    (subst (λ (Q : Pool). Refused z Q act fault) pools (subst (λ (x : Shape). Refused x P act fault) shapes (refused other))))
