use Rattle.std.proofs.Common.{◌≡◌, drop}
use Rattle.json.specs.Value.{members_view}
use Rattle.explanations.specs.Wanted.{extra_in}
use Rattle.explanations.proofs.wanted.extra_in.Given as goal

-- what isn't known is behind the members so far
abbrev pub invariant-loop-member : goal.invariant-loop-member
invariant-loop-member l = extra_in l.owner (members_view (drop l.member-index l.members)) ≡ extra_in l.owner (members_view l.members)
