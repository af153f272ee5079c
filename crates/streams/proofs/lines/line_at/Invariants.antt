use Rattle.std.proofs.Common.{◌≡◌}
use Rattle.streams.specs.Lines.{after_lines}
use Rattle.streams.proofs.lines.line_at.Given as goal

-- the rest goes on as the whole text does
abbrev pub invariant-loop-left : goal.invariant-loop-left
invariant-loop-left l = after_lines l.left l.rest ≡ after_lines l.before l.fn.text

abbrev pub decreases-loop-left : goal.decreases-loop-left
decreases-loop-left l = l.left
