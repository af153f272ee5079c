-- How a lane counts its references while it runs.
use Rattle.std.specs.Prelude.{◌≡◌, ◌==◌, ℕ, ◌+◌, true, List, length, Some, slice_get, if◌then◌else◌}
use Rattle.keybits.specs.Keys.{is_key, place_of, generation_of}
use Rattle.poolsteps.specs.Layout.{slot_start, slot_row}
use Rattle.shardpool.specs.Tokens.{LaneOf}
use Rattle.shardpool.specs.Lanes.{holds}
use Rattle.poolhandle.specs.declared.counting_lane.KeyCount.{KeyCount}

-- how many references a place's row counts to a key of it
abbrev pub counted : KeyCount → ℕ → ℕ
counted row key = if generation_of key == row.generation then row.count else 0

-- the row with one reference more, to the key of this generation
abbrev pub gained : ℕ → KeyCount → KeyCount
gained generation row = record { generation = generation; count = if generation == row.generation then row.count + 1 else 1 }

-- where a place stands there is a row of it, which counts the references that the lane has to its keys
pub record CountsAs (lane : LaneOf) (rows : List KeyCount) : Type 0 where
  pub wide : length rows ≡ slot_row lane.shape
  pub each : (key : ℕ) (row : KeyCount) → is_key lane.shape key ≡ true → slice_get rows (slot_start lane.shape (place_of key)) ≡ Some row
      → holds lane key ≡ counted row key
