-- The fillings that a lane keeps for its callers.
use Rattle.std.specs.Prelude.{◌≡◌, ◌≢◌, ◌==◌, ℕ, ◌≤◌, List, [], ◌∷◌, ◌++◌, sum_by, if◌then◌else◌}
use Rattle.std.specs.List.{All}
use Rattle.std.specs.List.Sorted.{IsPermutation}
use Rattle.shardpool.specs.Tokens.{LaneOf, FillingOf}
use Rattle.shardpool.specs.Lanes.{Made}
use Rattle.lanestore.specs.declared.kept.Kept.{Kept}

-- the lane made each
abbrev pub AreMade : {T : Type 0} → LaneOf → List (Kept T) → Type 0
AreMade lane kept = All (λ one. Made lane one.filling) kept

-- how many have this key
abbrev pub times : {T : Type 0} → ℕ → List (Kept T) → ℕ
times key kept = sum_by (λ one. if one.filling.key == key then 1 else 0) kept

-- no two have one key
abbrev pub AreDistinct : {T : Type 0} → List (Kept T) → Type 0
AreDistinct kept = (key : ℕ) → times key kept ≤ 1

-- none has this key
abbrev pub HaveNot : {T : Type 0} → ℕ → List (Kept T) → Type 0
HaveNot key kept = All (λ one. one.filling.key ≢ key) kept

-- this filling came to them, behind the others
abbrev pub Gain : {T : Type 0} → FillingOf T → List (Kept T) → List (Kept T) → Type 0
Gain {T} filling old new = (one : Kept T) × (one.filling ≡ filling) × (new ≡ old ++ one ∷ [])

-- this filling is gone, and no other has its key; the others stay, in some order
abbrev pub Lose : {T : Type 0} → FillingOf T → List (Kept T) → List (Kept T) → Type 0
Lose {T} filling old new = (one : Kept T) × (one.filling ≡ filling) × IsPermutation old (one ∷ new) × HaveNot filling.key new

-- this filling became that one; the others stay, in some order
abbrev pub Turn : {T : Type 0} → FillingOf T → FillingOf T → List (Kept T) → List (Kept T) → Type 0
Turn {T} was now old new = (rest : List (Kept T)) × Lose was old rest × Gain now rest new
