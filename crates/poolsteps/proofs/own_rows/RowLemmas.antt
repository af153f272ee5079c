-- What stands in a row after a write, in a row of one value, and in the beginning of a row.
use Rattle.std.proofs.Common.{◌≡◌, ◌≢◌, ℕ, zero, suc, ◌+◌, ◌<◌, ◌≤◌, List, [], ◌∷◌, ◌++◌, length, map, replicate, refl, sym, ap, ◌∙◌, subst, arith, Some, get_or}
use Rattle.std.specs.Prelude.{slice_get, slice_set, take}
use Rattle.std.proofs.lemmas.Option.{same_Some, none-some, slice_get-get_or, slice_get_within}
use Rattle.std.proofs.lemmas.List.{length-take-le, take-map, length_push}

module _ {X : Type 0} where
  -- what holds of each entry after a write
  pub set-each : (P : ℕ → X → Type 0) (xs : List X) (i : ℕ) (y : X) → P i y → ((j : ℕ) (z : X) → j ≢ i → slice_get xs j ≡ Some z → P j z)
      → (j : ℕ) (z : X) → slice_get (slice_set xs i y) j ≡ Some z → P j z
  set-each P [] i y new old j z at = absurd (none-some z at)
  set-each P (x ∷ xs) zero y new old zero z at = subst (P zero) (same_Some y z at) new
  set-each P (x ∷ xs) zero y new old (suc j) z at = old (suc j) z (λ (same : suc j ≡ zero). omega arith) at
  set-each P (x ∷ xs) (suc i) y new old zero z at = old zero z (λ (same : zero ≡ suc i). omega arith) at
  set-each P (x ∷ xs) (suc i) y new old (suc j) z at =
      set-each (λ k. P (suc k)) xs i y new (λ k w other there. old (suc k) w (λ (same : suc k ≡ suc i). other (let e : k ≡ i = omega arith in e)) there) j z at

  -- each entry of a row of one value is that
  pub replicate-each : (n : ℕ) (y : X) (j : ℕ) (z : X) → slice_get (replicate n y) j ≡ Some z → z ≡ y
  replicate-each zero y j z at = absurd (none-some z at)
  replicate-each (suc n) y zero z at = sym (same_Some y z at)
  replicate-each (suc n) y (suc j) z at = replicate-each n y j z at

  module _ {Y : Type 0} (f : X → Y) (b : Y) where
    -- a function that gives one value at each entry
    pub map-same : (xs : List X) → ((j : ℕ) (z : X) → slice_get xs j ≡ Some z → f z ≡ b) → map f xs ≡ replicate (length xs) b
    map-same [] same = refl
    map-same (x ∷ xs) same = λ i. same zero x refl i ∷ map-same xs (λ j z at. same (suc j) z at) i

  -- what is taken out of an entry stood there
  pub stands : (xs : List X) (i : ℕ) (now x y : X) → i < length xs → now ≡ get_or xs i now → x ≡ now → x ≡ y → slice_get xs i ≡ Some y
  stands xs i now x y low is taken same = slice_get-get_or xs i now low ∙ ap Some (sym is ∙ (sym taken ∙ same))

  -- an entry of a beginning
  pub get-take : (n j : ℕ) (xs : List X) → j < n → slice_get (take n xs) j ≡ slice_get xs j
  get-take zero j xs low = absurd (omega (arith, low))
  get-take (suc n) j [] low = refl
  get-take (suc n) zero (x ∷ xs) low = refl
  get-take (suc n) (suc j) (x ∷ xs) low = get-take n j xs (omega (arith, low))

  -- an entry of a row that goes on, and the one at its end
  pub get-first : (xs ys : List X) (j : ℕ) (z : X) → slice_get xs j ≡ Some z → slice_get (xs ++ ys) j ≡ Some z
  get-first [] ys j z at = absurd (none-some z at)
  get-first (x ∷ xs) ys zero z at = at
  get-first (x ∷ xs) ys (suc j) z at = get-first xs ys j z at

  pub one-less : (all xs : List X) (z : X) → all ≡ xs ++ z ∷ [] → length all ≡ length xs + 1
  one-less all xs z is = ap length is ∙ length_push xs z

  pub get-end : (xs : List X) (z : X) → slice_get (xs ++ z ∷ []) (length xs) ≡ Some z
  get-end [] z = refl
  get-end (x ∷ xs) z = get-end xs z

  -- a function that gives one value at each entry of a beginning
  module _ {Y : Type 0} (f : X → Y) (b : Y) where
    pub take-same : (places : ℕ) (all : List X) → places ≤ length all
        → ((j : ℕ) (z : X) → slice_get all j ≡ Some z → j < places → f z ≡ b) → take places (map f all) ≡ replicate places b
    take-same places all room same =
        let long = length-take-le places all room in
        take-map f places all ∙ (map-same f b (take places all) (λ j z at.
        let low = slice_get_within (take places all) j z at in
        let within : j < places = omega (arith, low, long) in
        same j z (sym (get-take places j all within) ∙ at) within)
        ∙ ap (λ (n : ℕ). replicate n b) long)
