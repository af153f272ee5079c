-- What a watched writer knows of its writes.
use Rattle.std.specs.Prelude.{ℕ, ◌==◌, ◌&&◌, List, length, Bool, true, false, not, Result, Ok, Err}
use Rattle.std.specs.IoError.{error_kind}
use Rattle.std.specs.declared.io.Error.{Error}
use Rattle.streams.specs.Reasons.{unwritable_by}
use Rattle.streams.specs.declared.write_failed.Unwritable.{Unwritable}
use Rattle.streams.specs.declared.write_failed.Unwritable.TheVariants.{Other}

-- a write failed that answered this of these bytes: it answered an error, or took none of some bytes
abbrev pub write_failed : {E : Type 0} → List ℕ → Result ℕ E → Bool
write_failed bytes (Ok taken) = taken == 0 && not (length bytes == 0)
write_failed bytes (Err error) = true

-- why a write or a flush failed that answered this; where it took nothing, no reason is told
abbrev pub why_failed : {A : Type 0} → Result A Error → Unwritable
why_failed (Ok taken) = Other
why_failed (Err error) = unwritable_by (error_kind error)

-- the reason that is remembered where a write fails for this one: that of the first which failed
abbrev pub first_why : Bool → Unwritable → Unwritable → Unwritable
first_why true first why = first
first_why false first why = why

-- the reason that is remembered behind a write or a flush, which failed for this one or didn't
abbrev pub why_after : Bool → Unwritable → Bool → Unwritable → Unwritable
why_after failed first true why = first_why failed first why
why_after failed first false why = first
