-- What a contract sees of the shares of a cell.
use Rattle.std.specs.Prelude.{◌≡◌, ℕ, zero, suc, ◌<◌, List, [], ◌∷◌, ◌++◌, map, Option, Some, None, IfSome, refl}
use Rattle.std.specs.Coded.{Coded, code_by, coded×, coded_ℕ}
use Rattle.std.specs.List.{All}
use Rattle.std.specs.List.Sorted.{IsPermutation}

-- which cell the share is of, its number, of how many, and the object that it shows
pub record Share (T : Type 0) : Type 0 where
  pub cell : ℕ
  pub number : ℕ
  pub of : ℕ
  pub object : T

-- a code for shares, by one for their objects
abbrev pub share_code : {T : Type 0} → Coded T → Coded (Share T)
share_code {T} code = code_by ((ℕ × ℕ)
    × (ℕ × T)) (coded× (coded× coded_ℕ coded_ℕ) (coded× coded_ℕ code)) (λ s. ((s.cell, s.number), (s.of, s.object)))
    (λ p. record { cell = p.0.0; number = p.0.1; of = p.1.0; object = p.1.1 }) (λ _. refl)

-- the labels of the n shares of a cell whose number is below k, by rising number: the cell, n and the number
abbrev pub labels_below : ℕ → ℕ → ℕ → List (Option (ℕ × (ℕ × ℕ)))
labels_below cell n zero = []
labels_below cell n (suc k) = labels_below cell n k ++ Some (cell, (n, k)) ∷ []

module _ {T : Type 0} where
  -- share i of the n shares of a cell that holds x
  abbrev pub share_of : ℕ → ℕ → T → ℕ → Share T
  share_of cell n x i = record { cell = cell; number = i; of = n; object = x }

  -- the shares of a cell whose number is below k, by rising number
  abbrev pub shares_below : ℕ → ℕ → T → ℕ → List (Option (Share T))
  shares_below cell n x zero = []
  shares_below cell n x (suc k) = shares_below cell n x k ++ Some (share_of cell n x k) ∷ []

  -- a share without its object
  abbrev pub label : Option (Share T) → Option (ℕ × (ℕ × ℕ))
  label None = None
  label (Some s) = Some (s.cell, (s.of, s.number))

  -- these are all the shares of one cell, each once, in any order
  abbrev pub AreAllShares : List (Option (Share T)) → Type 0
  AreAllShares shares = (cell : ℕ) × (n : ℕ) × (0 < n) × IsPermutation (labels_below cell n n) (map label shares)

  -- each of these shows x
  abbrev pub AllShow : T → List (Option (Share T)) → Type 0
  AllShow x = All (λ o. IfSome o (λ s. s.object ≡ x))
