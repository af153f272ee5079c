-- What is said of a task.
use Rattle.std.specs.Prelude.{◌≡◌, ◌⊎◌, ℕ, List, []}
use Rattle.streams.specs.Shown.{IsSafeLine}

-- one line that can be printed, or nothing
abbrev pub IsLineOrNone : List ℕ → Type 0
IsLineOrNone text = (text ≡ []) ⊎ IsSafeLine text
