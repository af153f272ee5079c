-- Keys whose place has gone on.
use Rattle.std.proofs.Common.{◌≡◌, ℕ, zero, suc, ◌+◌, ◌*◌, ◌<◌, ◌≤◌, Bool, true, cond, List, [], ◌∷◌, ◌++◌, length, take, Option, Some, None, sym, ap, ◌∙◌, subst, arith, inl, inr}
use Rattle.std.proofs.lemmas.Bool.{cases_Bool}
use mathlib.Core.List.{IsPrefix}
use Rattle.keybits.specs.declared.shape.Shape.{Shape}
use Rattle.keybits.specs.Keys.{place_of, generation_of}
use Rattle.seqpool.specs.declared.act.Act.{Act}
use Rattle.seqpool.specs.Pool.{Pool, content_in, is_current, found, after, fresh, pool_from, pool_after, LegalFrom, IsLegal}
use Rattle.seqpool.specs.Histories.{IsPresentAt}
use Rattle.seqpool.proofs.Growth.{legal-take}
use Rattle.seqpool.proofs.Gets.{shown-before}
use Rattle.seqpool.proofs.Ranks.{rank, level-le, current-key, rank-rises}
use Rattle.seatcalls.specs.Sightings.{HasPassed}
use Rattle.poollaws.specs.GuestLaws.{PassedGoneLaw, GuestPassedLaw}
use Rattle.poollaws.specs.Laws.{PassedLaw}
use Rattle.poollaws.proofs.Ends.{end-law}

-- the rank of a place never falls
rises : (z : Shape) (P : Pool) (xs more : List Act) (i place : ℕ) → LegalFrom z P (xs ++ more) → length xs ≤ i
    → rank (pool_from z P xs place) ≤ rank (pool_from z P (take i (xs ++ more)) place)
rises z P [] more i place legal low = rank-rises z P (take i more) place (legal-take z P more i legal)
rises z P (x ∷ xs) more zero place legal low = absurd (omega (arith, low))
rises z P (x ∷ xs) more (suc i) place legal low = rises z (after z x P) xs more i place legal.2 (omega (arith, low))

-- a key that is found is of the generation that its place has
found-now : (z : Shape) (P : Pool) (key : ℕ) (content : List ℕ) → found z P key ≡ Some content → (P (place_of key)).generation ≡ generation_of key
found-now z P key content shows = elim (cases_Bool (is_current z P key)) [
  | inl here ↦ (current-key z P key here).1
  | inr gone ↦ let bad : None ≡ Some content = ap (λ (b : Bool). cond b (content_in (P (place_of key)).phase) None) (sym gone) ∙ shows in absurd (cc bad)
]

-- a key whose place has gone on isn't found behind that
none-behind : (z : Shape) (beginning more : List Act) (key i : ℕ) (content : List ℕ) → IsLegal z (beginning ++ more) → HasPassed z beginning key
    → IsPresentAt (beginning ++ more) i key content → length beginning ≤ i → ⊥
none-behind z beginning more key i content legal passed present behind =
    let P : Pool = pool_from z fresh (take i (beginning ++ more)) in
    let now = found-now z P key content ((shown-before z (beginning ++ more) i key content legal).1 present) in
    let up = rises z fresh beginning more i (place_of key) legal behind in
    let most = level-le (P (place_of key)).phase in omega (arith, now, up, most, passed)

behind : (z : Shape) (beginning history : List Act) (key i : ℕ) (content : List ℕ) → IsPrefix beginning history → IsLegal z history
    → HasPassed z beginning key → IsPresentAt history i key content → length beginning ≤ i → ⊥
behind z beginning history key i content (more, is) legal passed present low =
    none-behind z beginning more key i content (subst (IsLegal z) (sym is) legal) passed
    (subst (λ (h : List Act). IsPresentAt h i key content) (sym is) present) low

pub guest-passed : GuestPassedLaw
guest-passed key old new goes legal passed found =
    behind old.shape old.book.seen new.book.seen key found.get.position found.content goes legal passed found.present found.get.behind

pub passed-law : PassedLaw
passed-law key old new goes legal passed found =
    behind old.shape old.book.seen new.book.seen key found.get.position found.content goes legal passed found.present found.get.behind

pub passed-gone : PassedGoneLaw
passed-gone z history key legal passed content was = elim (end-law z history key content legal was).0 [
  | inl cleared ↦ cleared
  | inr present ↦ let now = (current-key z (pool_after z history) key present.0).1 in absurd (omega (arith, now, passed))
]
