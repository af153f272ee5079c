-- The tracks of the trace-event form.
use Rattle.std.specs.Prelude.{ℕ, ◌+◌, List, ◌++◌, codes, decimal}

-- the track of a lane, at a turn
abbrev pub track_fields : ℕ → ℕ → List ℕ
track_fields lane number = codes ",\"pid\":1,\"tid\":" ++ decimal (lane + 1) ++ (codes ",\"ts\":" ++ decimal number)
