use Rattle.std.proofs.Common.{◌≡◌, ◌++◌, length, map}
use Rattle.schedules.specs.Parts.{parts_of}
use Rattle.explanations.proofs.acts_fields.fields_of.Given as goal

-- the fields so far, and those of the rest
abbrev pub invariant-loop-field : goal.invariant-loop-field
invariant-loop-field l = map (λ field. field.now) l.fields.items ++ parts_of 32 l.rest ≡ parts_of 32 l.line

abbrev pub decreases-loop-field : goal.decreases-loop-field
decreases-loop-field l = length l.rest
