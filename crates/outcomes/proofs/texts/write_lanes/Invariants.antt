use Rattle.std.proofs.Common.{◌≡◌, ◌+◌, ◌++◌, length}
use Rattle.outcomes.specs.Texts.{replies_text}
use Rattle.outcomes.proofs.texts.write_lanes.Given as goal

-- the text so far, and that of the lanes that are left
abbrev pub invariant-loop-replies : goal.invariant-loop-replies
invariant-loop-replies l = record {
  text : l.text.items ++ replies_text l.lane l.rest ≡ l.fn.text.items ++ replies_text 0 l.lanes;
  lane : l.lane + length l.rest ≡ length l.lanes;
}

abbrev pub decreases-loop-replies : goal.decreases-loop-replies
decreases-loop-replies l = length l.rest
