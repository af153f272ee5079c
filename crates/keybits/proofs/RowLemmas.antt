-- The word of a row, and the places whose bits it has.
use Rattle.std.proofs.Common.{◌≡◌, ◌≢◌, ⊎_elim, ℕ, zero, suc, ◌+◌, ◌-◌, ◌^◌, ◌<◌, ◌≤◌, Bool, true, false, cond, nat_le, List, [], ◌∷◌, refl, ap, sym, ◌∙◌, subst, arith}
use Rattle.std.proofs.lemmas.Bool.{cases_Bool, leb-true, le-leb}
use mathlib.Core.Logic.{dite}
use native.Mathlib.Decide.{ℕ_discrete}
use Rattle.keybits.specs.Counts.{times}
use Rattle.keybits.specs.Rows.{row_place, bits_word, row_places, set_places}
use Rattle.keybits.proofs.CountLemmas.{one_at, none_at, sum-at, sum-none, sum-same}

-- what a bit adds
abbrev pub bit_value : (ℕ → Bool) → ℕ → ℕ
bit_value set bit = cond (set bit) (2 ^ bit) 0

pub value-set : (set : ℕ → Bool) (bit : ℕ) → set bit ≡ true → bit_value set bit ≡ 2 ^ bit
value-set set bit is = ap (λ (b : Bool). cond b (2 ^ bit) 0) is

pub value-clear : (set : ℕ → Bool) (bit : ℕ) → set bit ≡ false → bit_value set bit ≡ 0
value-clear set bit is = ap (λ (b : Bool). cond b (2 ^ bit) 0) is

twice : (n : ℕ) → 2 ^ suc n ≡ 2 ^ n + 2 ^ n
twice n = omega arith

-- the lowest n bits are less than the next one
pub bits-low : (n : ℕ) (set : ℕ → Bool) → bits_word n set < 2 ^ n
bits-low zero set = omega arith
bits-low (suc n) set =
    let rest : bits_word n set < 2 ^ n = bits-low n set in
    let double = twice n in ⊎_elim
    (λ (on : set n ≡ true). let last = value-set set n on in omega arith)
    (λ (off : set n ≡ false). let last = value-clear set n off in omega arith)
    (cases_Bool (set n))

-- no bit is set: the word is 0, and else it isn't
pub bits-none : (n : ℕ) (set : ℕ → Bool) → ((bit : ℕ) → bit < n → set bit ≡ false) → bits_word n set ≡ 0
bits-none n set none = sum-same n (bit_value set) (λ k. 0) (λ k below. value-clear set k (none k below)) ∙ sum-none n

-- one bit is set that wasn't, and no other changes
pub bits-one : (n bit : ℕ) (set after : ℕ → Bool) → bit < n → set bit ≡ false → after bit ≡ true → ((k : ℕ) → k ≢ bit → after k ≡ set k)
    → bits_word n after ≡ bits_word n set + 2 ^ bit
bits-one n bit set after below was is same =
    let whole = sum-at n bit (bit_value after) (bit_value set) below (λ k less other. ap (λ (b : Bool). cond b (2 ^ k) 0) (same k other)) in
    let old = value-clear set bit was in
    let new = value-set after bit is in
    omega arith

pub bits-same : (n : ℕ) (set after : ℕ → Bool) → ((k : ℕ) → k < n → after k ≡ set k) → bits_word n after ≡ bits_word n set
bits-same n set after same = sum-same n (bit_value after) (bit_value set) (λ k less. ap (λ (b : Bool). cond b (2 ^ k) 0) (same k less))

-- ---- the places of a word

le-no : (a b : ℕ) → b < a → nat_le a b ≡ false
le-no a b high = ⊎_elim (λ (low : nat_le a b ≡ true). let bad = leb-true a b low in absurd (omega arith)) (λ (not : nat_le a b ≡ false). not) (cases_Bool (nat_le a b))

module _ (shard row : ℕ) where
  -- the next bit is set, or it isn't
  places-set : (n : ℕ) (set : ℕ → Bool) → set n ≡ true
      → row_places shard row (bits_word (suc n) set) (suc n) ≡ row_place shard row n ∷ row_places shard row (bits_word n set) n
  places-set n set on =
      let value : bits_word (suc n) set ≡ bits_word n set + 2 ^ n = ap (λ (k : ℕ). bits_word n set + k) (value-set set n on) in
      let less : bits_word (suc n) set - 2 ^ n ≡ bits_word n set = omega arith in
      ap (λ (b : Bool). cond b (row_place shard row n ∷ row_places shard row (bits_word (suc n) set - 2 ^ n) n) (row_places shard row (bits_word (suc n) set) n))
      (le-leb (2 ^ n) (bits_word (suc n) set) (omega arith))
      ∙ ap (λ (word : ℕ). row_place shard row n ∷ row_places shard row word n) less

  places-clear : (n : ℕ) (set : ℕ → Bool) → set n ≡ false
      → row_places shard row (bits_word (suc n) set) (suc n) ≡ row_places shard row (bits_word n set) n
  places-clear n set off =
      let value : bits_word (suc n) set ≡ bits_word n set = ap (λ (k : ℕ). bits_word n set + k) (value-clear set n off) ∙ omega arith in
      let low = bits-low n set in
      ap (λ (b : Bool). cond b (row_place shard row n ∷ row_places shard row (bits_word (suc n) set - 2 ^ n) n) (row_places shard row (bits_word (suc n) set) n))
      (le-no (2 ^ n) (bits_word (suc n) set) (omega arith))
      ∙ ap (λ (word : ℕ). row_places shard row word n) value

  -- a place of the row whose bit is among the lowest so many and set
  pub record IsSet (n : ℕ) (set : ℕ → Bool) (q : ℕ) : Type 0 where
    pub bit : ℕ
    pub below : bit < n
    pub is : q ≡ row_place shard row bit
    pub set_is : set bit ≡ true

  -- what is among the places has its bit set
  pub places-from : (n : ℕ) (set : ℕ → Bool) (q : ℕ) → 0 < times q (row_places shard row (bits_word n set) n) → IsSet n set q
  places-from zero set q some = absurd (omega arith)
  places-from (suc n) set q some = ⊎_elim
      (λ (on : set n ≡ true).
      let more : 0 < times q (row_place shard row n ∷ row_places shard row (bits_word n set) n) = subst (λ (xs : List ℕ). 0 < times q xs) (places-set n set on) some in
      dite (ℕ_discrete (row_place shard row n) q)
      (λ here. record { bit = n; below = omega arith; is = sym here; set_is = on })
      (λ other. let none = none_at (row_place shard row n) q other in
      let r = places-from n set q (omega arith) in let low = r.below in record { bit = r.bit; below = omega arith; is = r.is; set_is = r.set_is }))
      (λ (off : set n ≡ false).
      let more : 0 < times q (row_places shard row (bits_word n set) n) = subst (λ (xs : List ℕ). 0 < times q xs) (places-clear n set off) some in
      let r = places-from n set q more in let low = r.below in record { bit = r.bit; below = omega arith; is = r.is; set_is = r.set_is })
      (cases_Bool (set n))

  -- a place whose bit is set is among them once
  pub places-once : (n : ℕ) (set : ℕ → Bool) (bit : ℕ) → bit < n → set bit ≡ true → times (row_place shard row bit) (row_places shard row (bits_word n set) n) ≡ 1
  places-once zero set bit below is = absurd (omega arith)
  places-once (suc n) set bit below is = ⊎_elim
      (λ (on : set n ≡ true). ap (times (row_place shard row bit)) (places-set n set on) ∙ dite (ℕ_discrete n bit)
      (λ here.
      let one = one_at (row_place shard row n) (row_place shard row bit) (ap (row_place shard row) here) in
      let none : times (row_place shard row bit) (row_places shard row (bits_word n set) n) ≡ 0 = past n set bit (omega arith) in
      omega arith)
      (λ other.
      let none = none_at (row_place shard row n) (row_place shard row bit) (λ e. other (omega arith)) in
      let rest = places-once n set bit (omega arith) is in
      omega arith))
      (λ (off : set n ≡ false). ap (times (row_place shard row bit)) (places-clear n set off)
      ∙ places-once n set bit (let apart : n ≢ bit = λ e. let bad : true ≡ false = sym is ∙ (ap set (sym e) ∙ off) in cc bad in omega arith) is)
      (cases_Bool (set n))
    where
      past : (n : ℕ) (set : ℕ → Bool) (bit : ℕ) → n ≤ bit → times (row_place shard row bit) (row_places shard row (bits_word n set) n) ≡ 0
      past n set bit high = dite (ℕ_discrete (times (row_place shard row bit) (row_places shard row (bits_word n set) n)) 0) (λ none. none)
          (λ some. let r = places-from n set (row_place shard row bit) (omega arith) in let low = r.below in let e = r.is in absurd (omega arith))

  -- a word other than 0 has a bit
  pub places-some : (n : ℕ) (set : ℕ → Bool) → bits_word n set ≢ 0 → row_places shard row (bits_word n set) n ≢ []
  places-some zero set some e = some refl
  places-some (suc n) set some e = ⊎_elim
      (λ (on : set n ≡ true). let bad : row_place shard row n ∷ row_places shard row (bits_word n set) n ≡ [] = sym (places-set n set on) ∙ e in cc bad)
      (λ (off : set n ≡ false).
      let value : bits_word (suc n) set ≡ bits_word n set = ap (λ (k : ℕ). bits_word n set + k) (value-clear set n off) ∙ omega arith in
      places-some n set (λ none. some (value ∙ none)) (sym (places-clear n set off) ∙ e))
      (cases_Bool (set n))

pub set-places-are : (shard row word : ℕ) → set_places shard row word ≡ row_places shard row word 64
unfolding set_places
set-places-are shard row word = refl
