-- Share, over a reclaim.
use Rattle.poolsteps.specs.Spot.{Spot as Standing}
use Rattle.keybits.specs.Shapes.{callers}
use Rattle.std.proofs.Common.{◌≡◌, ◌≢◌, ℕ, ◌+◌, ◌<◌, Bool, true, false, cond, eqb, List, Option, Some, refl, ap, sym, ◌∙◌, subst}
use Rattle.keybits.specs.declared.shape.Shape.{Shape}
use Rattle.keybits.specs.Keys.{place_of}
use Rattle.seqpool.specs.declared.act.Act.TheVariants as acts
use Rattle.seqpool.specs.Pool.{Phase, with, published, home, retired, Spot, spot, references_in, is_marked, pool_after}
use Rattle.steplaws.specs.Facts.{put_at, is_home}
use Rattle.steplaws.proofs.Updates.{at-here, at-else}
use Rattle.poolsteps.specs.declared.view.Stored.{Stored}
use Rattle.poolsteps.specs.declared.view.Status.{Status}
use Rattle.poolsteps.specs.declared.view.Status.TheVariants.{Untouched, Emptied, InHand, Whole}
use Rattle.poolsteps.specs.Shares.{reclaimer, room_of, HasAll, IsKept, Slots, StandsAs}
use Rattle.poolsteps.specs.ShareLaws.{ReclaimShareLaw}
use Rattle.poolsteps.proofs.shares.HeldContents.{kept_in}
use Rattle.poolsteps.proofs.shares.Phases.{none-marked}
use Rattle.poolsteps.proofs.shares.PlaceShares.{SharedAt, shared-each}
use Rattle.poolsteps.proofs.shares.Restocking.{restock-keeps}

-- ---- a marked place

marked-away : (f : Phase) → is_marked f ≡ true → is_home f ≡ false
marked-away (with owner) is = refl
marked-away (published content references mark) is = refl
marked-away home is = absurd (cc is)
marked-away retired is = refl

marked-room : (c : Stored) (room : ℕ) (f : Phase) → is_marked f ≡ true → IsKept c room f → c.room ≡ room
marked-room c room (with owner) is kept = absurd (cc is)
marked-room c room (published content references mark) is kept = kept.1
marked-room c room home is kept = absurd (cc is)
marked-room c room retired is kept = absurd (cc is)

pub marked-content : (c : Stored) (room : ℕ) (f : Phase) → is_marked f ≡ true → IsKept c room f → kept_in f ≡ Some c.content
marked-content c room (with owner) is kept = absurd (cc is)
marked-content c room (published content references mark) is kept = ap (λ (bytes : List ℕ). let o : Option (List ℕ) = Some bytes in o) (sym kept.0)
marked-content c room home is kept = absurd (cc is)
marked-content c room retired is kept = absurd (cc is)

-- ---- the place that a lane reclaimed: with the lane, or retired

abbrev pub reclaimed : Bool → Spot → ℕ → Phase
reclaimed ends s lane = (cond ends (spot s.generation retired) (spot (s.generation + 1) (with lane))).phase

reclaimed-away : (ends : Bool) (s : Spot) (lane : ℕ) → is_home (reclaimed ends s lane) ≡ false
reclaimed-away true s lane = refl
reclaimed-away false s lane = refl

reclaimed-all : (ends : Bool) (s : Spot) (lane last l : ℕ) → last ≡ lane → HasAll last l (reclaimed ends s lane) → lane ≡ l
reclaimed-all true s lane last l e a = sym e ∙ a
reclaimed-all false s lane last l e a = a

reclaimed-kept : (ends : Bool) (s : Spot) (lane : ℕ) (c : Stored) (room : ℕ) → IsKept c room (reclaimed ends s lane)
reclaimed-kept true s lane c room = tt
reclaimed-kept false s lane c room = tt

-- ---- the law

-- a slot that no lane can have touched is untouched
else-untouched : (status : Status) → (status ≢ Untouched → ⊥) → status ≡ Untouched
else-untouched Untouched none = refl
else-untouched Emptied none = absurd (none (λ e. cc e))
else-untouched InHand none = absurd (none (λ e. cc e))
else-untouched Whole none = absurd (none (λ e. cc e))

module _ {T : Type 0} (content : T → List ℕ) (room : T → ℕ) (spots : ℕ → Standing) (z : Shape) (slots : Slots T)
    (place last room_kept : ℕ) (status : ℕ → ℕ → Status) (c : Stored) (knows : ℕ → Stored) (s : Spot)
    (marked : is_marked s.phase ≡ true) (none : (l : ℕ) → references_in s.phase l ≡ 0)
    (old : SharedAt content room spots z slots place s.phase last room_kept status c knows) where
  -- all shares of the place are in their slots
  all-untouched : (number : ℕ) → number < (callers z) → (l : ℕ) → l < (callers z) → status l number ≡ Untouched
  all-untouched number below l less = else-untouched (status l number) (λ n. none-marked last l number s.phase marked (none l) (old.touched l number less below n).0)

  -- it is with the lane, or retired
  reclaimed-at : (ends : Bool) (lane last_now : ℕ) (now : ℕ → Stored) → last_now ≡ lane → now lane ≡ c
      → SharedAt content room spots z slots place (reclaimed ends s lane) last_now room_kept status c now
  reclaimed-at ends lane last_now now by known = record {
    untouched = λ number inside below all.
        subst (StandsAs content room spots z slots place number c) (marked-away s.phase marked ∙ sym (reclaimed-away ends s lane)) (old.untouched number inside below all);
    emptied = old.emptied;
    whole = old.whole;
    touched = λ l number less below n. absurd (n (all-untouched number below l less));
    owned = λ l less a. ap now (sym (reclaimed-all ends s lane last_now l by a)) ∙ known;
    contents = reclaimed-kept ends s lane c room_kept;
  }

pub reclaim-share-law : {T : Type 0} (content : T → List ℕ) (room : T → ℕ) (spots : ℕ → Standing) → ReclaimShareLaw content room spots
reclaim-share-law content room spots z history kept slots q lane key same legal s less ok =
    let one : ℕ = place_of key in
    let t : Spot = pool_after z history one in
    let last : ℕ = reclaimer history one in
    let room_then : ℕ = room_of history kept one in
    let status : ℕ → ℕ → Status = λ l number. q.status l one number in
    let old = shared-each content room spots z slots history kept q s one in (
      marked-room (q.stored one) room_then t.phase ok.1 old.contents,
      all-untouched content room spots z slots one last room_then status (q.stored one) (λ l. q.knows l one) t ok.1 ok.2 old,
      restock-keeps content room spots z slots history kept q same s (acts.Reclaim lane key) one lane 0 (q.stored one)
          (λ x. refl) (λ p n. at-else (reclaimer history) one lane p n) (λ p n. refl)
          (λ knows known. reclaimed-at content room spots z slots one last room_then status (q.stored one) (λ l. q.knows l one) t ok.1 ok.2 old
          (eqb t.generation z.last_generation) lane (put_at (reclaimer history) one lane one) knows (at-here (reclaimer history) one lane one refl) known),
    )
