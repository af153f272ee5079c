-- The laws of lawful traces.
use Rattle.std.specs.Prelude.{◌≡◌, ℕ, ◌^◌, ◌<◌, List}
use Rattle.keybits.specs.declared.shape.Shape.{Shape}
use Rattle.keybits.specs.Shapes.{IsShape}
use Rattle.traces.specs.declared.script.Command.{Command}
use Rattle.traces.specs.declared.trace.Turn.{Turn}
use Rattle.traces.specs.Lawful.{first_world, world_of, IsLawful}
use Rattle.traces.specs.Parts.{StandsThroughout}
use Rattle.traces.specs.Owning.{Holds}

-- whatever the schedule, after each turn of a lawful trace, and before the first, each place is in one part, and Count, State, Owed claim and Home hold;
-- and where all lanes are finished, every marked key has a reference
abbrev pub StandsLaw : Type 0
StandsLaw = (z : Shape) (scripts : List (List Command)) (schedule : List ℕ) (trace : List Turn) → IsShape z → z.guests ≡ 0
    → z.last_generation < 2 ^ 32
    → IsLawful z scripts schedule trace → StandsThroughout z (first_world scripts) trace

-- and then each lane's book and the pool tell the same of its places and references
abbrev pub HoldsLaw : Type 0
HoldsLaw = (z : Shape) (scripts : List (List Command)) (schedule : List ℕ) (trace : List Turn) → IsShape z → z.guests ≡ 0
    → z.last_generation < 2 ^ 32
    → IsLawful z scripts schedule trace → Holds z (world_of z scripts trace)
