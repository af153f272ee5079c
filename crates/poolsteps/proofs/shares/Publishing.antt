-- Share, over a publish.
use Rattle.poolsteps.specs.Spot.{Spot}
use Rattle.keybits.specs.Shapes.{callers}
use Rattle.std.proofs.Common.{◌≡◌, ◌≢◌, ◌⊎◌, ⊎_elim, ℕ, ◌<◌, Bool, true, false, cond, List, refl, ap, sym, ◌∙◌, subst, arith}
use Rattle.keybits.specs.declared.shape.Shape.{Shape}
use Rattle.keybits.specs.Keys.{place_of}
use Rattle.seqpool.specs.declared.act.Act.TheVariants as acts
use Rattle.seqpool.specs.Pool.{Phase, with, published, put}
use Rattle.seqpool.proofs.Tallies.{put-here}
use Rattle.steplaws.specs.Facts.{put_at}
use Rattle.steplaws.proofs.Updates.{at-here, at-else}
use Rattle.poolsteps.specs.declared.view.Stored.{Stored}
use Rattle.poolsteps.specs.declared.view.Status.{Status}
use Rattle.poolsteps.specs.declared.view.Status.TheVariants.{Untouched, Emptied, InHand, Whole}
use Rattle.poolsteps.specs.Shares.{reclaimer, room_of, Slots, HasShare}
use Rattle.poolsteps.specs.ShareLaws.{PublishShareLaw}
use Rattle.poolsteps.proofs.shares.PlaceShares.{SharedAt, shared-each}
use Rattle.poolsteps.proofs.shares.Restocking.{restock-keeps}

-- the lane took the share out of its slot
abbrev pub IsOut : Status → Type 0
IsOut status = (status ≡ Emptied) ⊎ (status ≡ InHand)

out-stands : (status : Status) → IsOut status → status ≡ Untouched → ⊥
out-stands status out is = ⊎_elim (λ (e : status ≡ Emptied). let bad : Emptied ≡ Untouched = sym e ∙ is in cc bad)
    (λ (e : status ≡ InHand). let bad : InHand ≡ Untouched = sym e ∙ is in cc bad) out

out-whole : (status : Status) → IsOut status → status ≡ Whole → ⊥
out-whole status out is = ⊎_elim (λ (e : status ≡ Emptied). let bad : Emptied ≡ Whole = sym e ∙ is in cc bad)
    (λ (e : status ≡ InHand). let bad : InHand ≡ Whole = sym e ∙ is in cc bad) out

-- a lane that gets its reference has one
one-reference : (lane l : ℕ) (with_ref : Bool) → l ≡ lane → with_ref ≡ true → 0 < put (λ _. 0) lane (cond with_ref 1 0) l
one-reference lane l true e gets = let now = put-here (λ _. 0) lane 1 l e in omega arith
one-reference lane l false e gets = absurd (cc gets)

module _ {T : Type 0} (content : T → List ℕ) (room : T → ℕ) (spots : ℕ → Spot) (z : Shape) (slots : Slots T) where
  -- the place that is published
  published-at : (place lane last room_kept room_now : ℕ) (status : ℕ → ℕ → Status) (old c : Stored) (knows now : ℕ → Stored) (with_ref : Bool)
      → lane < (callers z) → room_now ≡ c.room → (c ≡ old) ⊎ ((number : ℕ) → number < (callers z) → IsOut (status lane number))
      → ((number : ℕ) → number < (callers z) → status lane number ≢ Untouched → (number ≡ lane) × (with_ref ≡ true)) → now lane ≡ c
      → SharedAt content room spots z slots place (with lane) last room_kept status old knows
      → SharedAt content room spots z slots place (published c.content (put (λ _. 0) lane (cond with_ref 1 0)) false) last room_now status c now
  published-at place lane last room_kept room_now status old c knows now with_ref less room_is may back known s = record {
    untouched = λ number inside below none. as_new number number (callers z) below
        (λ out. out-stands (status lane number) out (none lane less)) (s.untouched number inside below none);
    emptied = s.emptied;
    whole = λ l number small inside below e.
        let is = mine l number small below (whole-touched (status l number) e) in
        as_new number 0 1 below (λ out. out-whole (status lane number) out (subst (λ (m : ℕ). status m number ≡ Whole) is e))
        (s.whole l number small inside below e);
    touched = λ l number small below n.
        let is = mine l number small below n in
        let own = back number below (subst (λ (m : ℕ). status m number ≢ Untouched) is n) in
        ((own.0 ∙ sym is, one-reference lane l with_ref is own.1), ap now is ∙ known);
    owned = λ l small a. absurd a;
    contents = (refl, sym room_is);
  }
    where
      -- a share that stands in a slot is of the cell as it is now
      as_new : (number k n : ℕ) → number < (callers z) → (IsOut (status lane number) → ⊥)
          → HasShare content room spots slots place number old k n → HasShare content room spots slots place number c k n
      as_new number k n below stands has = ⊎_elim (λ (e : c ≡ old). subst (λ (x : Stored). HasShare content room spots slots place number x k n) (sym e) has)
          (λ (out : (number : ℕ) → number < (callers z) → IsOut (status lane number)). absurd (stands (out number below))) may

      -- only the lane touched the slots
      mine : (l number : ℕ) → l < (callers z) → number < (callers z) → status l number ≢ Untouched → l ≡ lane
      mine l number small below n = sym (s.touched l number small below n).0

      whole-touched : (status : Status) → status ≡ Whole → status ≢ Untouched
      whole-touched status e is = let bad : Whole ≡ Untouched = sym e ∙ is in cc bad

pub publish-share-law : {T : Type 0} (content : T → List ℕ) (room : T → ℕ) (spots : ℕ → Spot) → PublishShareLaw content room spots
publish-share-law content room spots z history kept slots q lane key c with_ref same legal s less ok may back =
    let one : ℕ = place_of key in
    let last : ℕ = reclaimer history one in
    let room_then : ℕ = room_of history kept one in
    let status : ℕ → ℕ → Status = λ l number. q.status l one number in
    let old = subst (λ (f : Phase). SharedAt content room spots z slots one f last room_then status (q.stored one) (λ l. q.knows l one)) ok.1
    (shared-each content room spots z slots history kept q s one) in
    restock-keeps content room spots z slots history kept q same s (acts.Publish lane key c.content with_ref) one lane c.room c
    (λ x. refl) (λ p n. refl) (λ p n. at-else (room_of history kept) one c.room p n)
    (λ knows known. published-at content room spots z slots one lane last room_then (put_at (room_of history kept) one c.room one) status (q.stored one) c
    (λ l. q.knows l one) knows with_ref less (at-here (room_of history kept) one c.room one refl) may back known old)
