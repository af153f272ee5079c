-- What is among the items of a list, and how many things there are of a kind.
use Rattle.std.specs.Prelude.{◌≡◌, ⊤, ◌⊎◌, ℕ, List, [], ◌∷◌, length}

-- an item of a list
abbrev pub IsIn : {A : Type 0} → A → List A → Type 0
IsIn item [] = ⊥
IsIn item (other ∷ more) = (item ≡ other) ⊎ IsIn item more

-- no item stands twice
abbrev pub AreOnce : {A : Type 0} → List A → Type 0
AreOnce [] = ⊤
AreOnce (item ∷ more) = (IsIn item more → ⊥) × AreOnce more

-- these are all the things of a kind, each once
pub record AreAll (A : Type 0) (such : A → Type 0) (items : List A) : Type 0 where
  pub each : (item : A) → IsIn item items → such item
  pub whole : (item : A) → such item → IsIn item items
  pub once : AreOnce items

-- there are so many of a kind
abbrev pub IsCount : {A : Type 0} → (A → Type 0) → ℕ → Type 0
IsCount {A} such count = (items : List A) × AreAll A such items × (length items ≡ count)
