-- What is told of a replay that left something undone.
use Rattle.std.specs.Prelude.{ℕ, List}
use Rattle.explanations.specs.HalfRuns.{half_text}
use Rattle.poolprogram.specs.declared.replayed.Replayed.{Replayed}

-- the line that tells what the replay left undone
abbrev pub half_line : Replayed → List ℕ
half_line made = half_text made.lanes made.schedule.items made.counts.items made.trace
