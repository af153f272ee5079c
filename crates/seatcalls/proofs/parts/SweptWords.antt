-- The words that a clear finds whose steps are one operation.
use mathlib.Core.Logic.{dite}
use native.Mathlib.Decide.{ℕ_discrete}
use Rattle.std.proofs.lemmas.Bool.{and_parts, eqb-true}
use Rattle.std.proofs.Common.{◌≢◌, false, ne_eqb, ◌≡◌, ◌&&◌, ℕ, ◌+◌, ◌%◌, ◌^◌, ◌≤◌, Bool, true, eqb, refl, ap, ◌∙◌, arith, eq-eqb}
use Rattle.keybits.specs.Keys.{generation_of}
use Rattle.keybits.specs.Words.{state_in, count_in, generation_in, claimable}
use Rattle.keybits.proofs.KeyLemmas.{generation_of-lt}
use Rattle.steplaws.specs.Calls.{is_hit, owes_claim}
use Rattle.poolsteps.specs.AtOnce.{unreferred}

both-true : (a b : Bool) → a ≡ true → b ≡ true → (a && b) ≡ true
both-true a b e f = ap (λ (x : Bool). x && b) e ∙ f

-- the words of a sweep
module _ (key : ℕ) where
  abbrev pub first : ℕ
  first = unreferred (generation_of key)

  pub hit : is_hit key first ≡ true
  hit = let below = generation_of-lt key in
      both-true (eqb (generation_in first) (generation_of key)) (eqb (state_in first) 1) (eq-eqb (generation_in first) (generation_of key) (omega arith)) (eq-eqb (state_in first) 1 (omega arith))

  pub owes : owes_claim (first + 6) ≡ true
  owes = let below = generation_of-lt key in
      both-true (eqb (state_in (first + 6)) 3) (eqb (count_in (first + 6)) 1) (eq-eqb (state_in (first + 6)) 3 (omega arith)) (eq-eqb (count_in (first + 6)) 1 (omega arith))

  pub of : generation_of key ≡ generation_in (first + 6)
  of = let below = generation_of-lt key in omega arith

  pub won : first + 2 ≡ claimable (generation_of key)
  won = omega arith

  pub present : eqb (state_in (first + 4)) 1 ≡ true
  present = eq-eqb (state_in (first + 4)) 1 (omega arith)

both-false : (a b : Bool) → b ≡ false → (a && b) ≡ false
both-false true b e = e
both-false false b e = refl

module _ (key word : ℕ) (hits : is_hit key word ≡ true) where
  here : (generation_in word ≡ generation_of key) × (state_in word ≡ 1)
  here = let both = and_parts (eqb (generation_in word) (generation_of key)) (eqb (state_in word) 1) hits in
      (eqb-true (generation_in word) (generation_of key) both.0, eqb-true (state_in word) 1 both.1)

  -- its word isn't that of a key that nobody refers to
  pub referred-so : word ≢ unreferred (generation_of key) → 1 ≤ count_in word
  referred-so other = let is = here in
      dite (ℕ_discrete (count_in word) 0) (λ none. let same : word ≡ unreferred (generation_of key) = omega (arith, is.0, is.1) in absurd (other same)) (λ some. omega arith)

  pub marks-present : eqb (state_in (word + 4)) 1 ≡ true
  marks-present = let is = here in eq-eqb (state_in (word + 4)) 1 (omega (arith, is.1))

  pub owes-nothing : 1 ≤ count_in word → owes_claim (word + 6) ≡ false
  owes-nothing some = let is = here in
      both-false (eqb (state_in (word + 6)) 3) (eqb (count_in (word + 6)) 1) (ne_eqb (count_in (word + 6)) 1 (λ one. omega (arith, is.1)))

-- what is owed is told by the lowest bits
pub owes-low : (word : ℕ) → owes_claim ((word + 4) % 2 ^ 64) ≡ owes_claim (word + 4)
owes-low word =
    let state : state_in ((word + 4) % 2 ^ 64) ≡ state_in (word + 4) = omega arith in
    let count : count_in ((word + 4) % 2 ^ 64) ≡ count_in (word + 4) = omega arith in
    ap (λ (n : ℕ). eqb n 3 && eqb (count_in ((word + 4) % 2 ^ 64)) 1) state ∙ ap (λ (n : ℕ). eqb (state_in (word + 4)) 3 && eqb n 1) count
