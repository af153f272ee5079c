-- What decides a trace.
use Rattle.std.specs.Prelude.{◌≡◌, ℕ, List}
use Rattle.keybits.specs.declared.shape.Shape.{Shape}
use Rattle.seqpool.specs.Pool.{pool_after, IsLegal}
use Rattle.traces.specs.declared.script.Command.{Command}
use Rattle.traces.specs.declared.trace.Turn.{Turn}
use Rattle.traces.specs.Lawful.{World, IsLawful, AreTurns, world_from}

-- scripts have one lawful trace over a schedule
abbrev pub OneTraceLaw : Type 0
OneTraceLaw = (z : Shape) (scripts : List (List Command)) (schedule : List ℕ) (trace other : List Turn)
    → IsLawful z scripts schedule trace → IsLawful z scripts schedule other → trace ≡ other

-- the pool, the words and the books are the same, whatever histories led to them
pub record IsSameStanding (z : Shape) (w v : World) : Type 0 where
  pub pool : pool_after z w.history ≡ pool_after z v.history
  pub words : w.words ≡ v.words
  pub books : w.books ≡ v.books

-- these are turns of a schedule from a world on, and the history of their acts is legal
pub record GoOn (z : Shape) (w : World) (schedule : List ℕ) (turns : List Turn) : Type 0 where
  pub made : AreTurns z w schedule turns
  pub legal : IsLegal z (world_from z w turns).history

-- turns that go on from a world go on from every other one with a legal history that stands the same, and both stand the same behind them
abbrev pub OnwardLaw : Type 0
OnwardLaw = (z : Shape) (w v : World) (schedule : List ℕ) (turns : List Turn) → IsSameStanding z w v → IsLegal z v.history
    → GoOn z w schedule turns
    → GoOn z v schedule turns × IsSameStanding z (world_from z w turns) (world_from z v turns)
