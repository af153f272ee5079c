use Rattle.std.proofs.Common.{◌≡◌, ◌∷◌, take, drop}
use Rattle.traceviews.specs.Turns.{turns_from, turns_of}
use Rattle.traceviews.proofs.turns.count_following.Given as goal

abbrev pub invariant-loop-line : goal.invariant-loop-line
invariant-loop-line l = record {
  counted : l.count ≡ l.line-index;
  turns : turns_from (l.first ∷ take l.line-index l.more) l.first.lane l.stepped (drop l.line-index l.more) ≡ turns_of (l.first ∷ l.more);
}
