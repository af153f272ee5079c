-- What is asked of replays of which commands are left out.
use Rattle.std.specs.Prelude.{ℕ, Bool, List, Option}
use Rattle.keybits.specs.declared.shape.Shape.{Shape}
use Rattle.traces.specs.declared.script.Command.{Command}

-- their shape and scripts, the word and whether it is of decoded lines, the schedule, how many entries of schedules may still be replayed, and
-- where that is given in how many replays
pub record Choosing : Type 0 where
  pub shape : Shape
  pub scripts : List (List Command)
  pub word : List ℕ
  pub decoded : Bool
  pub schedule : List ℕ
  pub left : ℕ
  pub tries : Option ℕ
