use Rattle.std.proofs.Common.{◌≡◌, ◌++◌, take, drop}
use Rattle.traceviews.specs.Turns.{front, behind}
use Rattle.traceviews.proofs.turns.count_front.Given as goal

abbrev pub invariant-loop-line : goal.invariant-loop-line
invariant-loop-line l = record {
  counted : l.count ≡ l.line-index;
  front : front l.turn ≡ take l.line-index l.turn ++ front (drop l.line-index l.turn);
  behind : behind l.turn ≡ behind (drop l.line-index l.turn);
}
