use Rattle.std.proofs.Common.{◌≡◌, length}
use Rattle.std.specs.List.{list_all}
use Rattle.schedules.specs.Parts.{parts_of}
use Rattle.explanations.specs.ActsFields.{is_place_number}
use Rattle.explanations.proofs.acts_fields.are_places.Given as goal

-- it is for the rest to say
abbrev pub invariant-loop-place : goal.invariant-loop-place
invariant-loop-place l = list_all is_place_number (parts_of 44 l.rest) ≡ list_all is_place_number (parts_of 44 l.text)

abbrev pub decreases-loop-place : goal.decreases-loop-place
decreases-loop-place l = length l.rest
