-- A legal history has the laws, and grows act by act.
use Rattle.std.proofs.Common.{arith, ◌≡◌, ◌≢◌, ℕ, ◌+◌, ◌<◌, List, [], ◌∷◌, ◌++◌, length, get_or, take, Some, sym, ap, ◌∙◌, subst}
use Rattle.std.proofs.lemmas.List.{take_more}
use Rattle.std.proofs.lemmas.Option.{slice_get-get_or}
use Rattle.keybits.specs.declared.shape.Shape.{Shape}
use Rattle.seqpool.specs.declared.act.Act.{Act}
use Rattle.seqpool.specs.Pool.{Pool, lane_of, Allowed, after, fresh, pool_after, IsLegal}
use Rattle.seqpool.specs.declared.fault.ApplyFault.{ApplyFault}
use Rattle.seqpool.specs.declared.fault.ApplyFault.TheVariants.{Memory}
use Rattle.seqpool.specs.Refusals.{Refused}
use Rattle.seqpool.specs.Checker.{HasLaws, IsIllegalAt}
use Rattle.seqpool.proofs.Growth.{pool-snoc, legal-snoc}
use Rattle.seqpool.proofs.Gets.{get-law, alone-law, once-law, retired-law}
use Rattle.seqpool.proofs.Tallies.{reclaim-law}

pub has-laws : (z : Shape) (history : List Act) → IsLegal z history → HasLaws z history
has-laws z history legal = record {
  gets = get-law z history legal;
  reclaims = reclaim-law z history legal;
  alone = alone-law z history legal;
  once = once-law z history legal;
  retired = retired-law z history legal;
}

-- the acts of a list up to the next one
pub one-more : (acts : List Act) (i : ℕ) (act : Act) → i < length acts → act ≡ get_or acts i act → take (i + 1) acts ≡ take i acts ++ act ∷ []
one-more acts i act below is = take_more acts i act below ∙ ap (λ (a : Act). take i acts ++ a ∷ []) (sym is)

pub legal-more : (z y : Shape) (P : Pool) (acts : List Act) (i : ℕ) (act : Act) → i < length acts → act ≡ get_or acts i act → y ≡ z → P ≡ pool_after z (take i acts)
    → IsLegal z (take i acts) → lane_of act < y.lanes → Allowed y P act → IsLegal z (take (i + 1) acts)
legal-more z y P acts i act below is shapes pools legal inside ok =
    subst (IsLegal z) (sym (one-more acts i act below is))
    (legal-snoc z fresh (take i acts) act legal (let within : lane_of act < z.lanes = subst (λ (x : Shape). lane_of act < x.lanes) shapes inside in omega arith)
    (subst (λ (Q : Pool). Allowed z Q act) pools (subst (λ (x : Shape). Allowed x P act) shapes ok)))

pub pool-more : (z y : Shape) (P Q : Pool) (acts : List Act) (i : ℕ) (act : Act) → i < length acts → act ≡ get_or acts i act → y ≡ z → P ≡ pool_after z (take i acts)
    → Q ≡ after y act P → Q ≡ pool_after z (take (i + 1) acts)
pool-more z y P Q acts i act below is shapes pools made =
    made ∙ (ap (λ (x : Shape). after x act P) shapes ∙ (ap (after z act) pools
    ∙ (sym (pool-snoc z fresh (take i acts) act) ∙ ap (pool_after z) (sym (one-more acts i act below is)))))

-- the first act that is refused
pub illegal-here : (z y : Shape) (P : Pool) (acts : List Act) (here i : ℕ) (act : Act) (why fault : ApplyFault) → here < length acts → act ≡ get_or acts here act
    → y ≡ z → P ≡ pool_after z (take here acts) → IsLegal z (take here acts) → why ≢ Memory → Refused y P act why → i ≡ here → fault ≡ why → IsIllegalAt z acts i fault
illegal-here z y P acts here i act why fault below is shapes pools legal other refused at same =
    subst (λ (n : ℕ). IsIllegalAt z acts n fault) (sym at) (subst (λ (f : ApplyFault). IsIllegalAt z acts here f) (sym same) (
      legal,
      other,
      (
        act,
        slice_get-get_or acts here act below ∙ ap Some (sym is),
        subst (λ (Q : Pool). Refused z Q act why) pools (subst (λ (x : Shape). Refused x P act why) shapes refused),
      ),
    ))
