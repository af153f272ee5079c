use Rattle.std.proofs.Common.{◌≡◌, None, length}
use Rattle.std.specs.Prelude.{option_copied}
use Rattle.standings.specs.Behind.{content_behind}
use Rattle.standings.proofs.contents.latest_content.Given as goal

abbrev pub invariant-loop-turn : goal.invariant-loop-turn
invariant-loop-turn l = content_behind l.place (option_copied l.latest) l.rest ≡ content_behind l.place None l.turns

abbrev pub decreases-loop-turn : goal.decreases-loop-turn
decreases-loop-turn l = length l.rest
