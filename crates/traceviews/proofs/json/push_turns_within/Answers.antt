use Rattle.std.proofs.Common.{arith}
use Rattle.traceviews.specs.Json.{line_within}
use Rattle.traceviews.proofs.PageLemmas.{turns_next, turns_all}
use Rattle.traceviews.proofs.json.push_turns_within.Goals as goal

pub loop-turn-preserved : goal.loop-turn-preserved
loop-turn-preserved c =
    let at = c.loop-turn in
    record {
      few = omega (arith, c.in-Some.ensures.shorter);
      grows = λ new rest. at.invariant.grows new
          (turns_next (line_within c.args.first c.args.count) at.number at.rest.now c.in-Some.turn.now c.in-Some.behind.now at.out c.push_line_within.new.out new c.in-Some.ensures c.push_line_within.ensures rest);
    }

pub returns : goal.returns
returns c = c.loop-turn.invariant.grows c.loop-turn.out (turns_all (line_within c.args.first c.args.count) c.loop-turn.number c.loop-turn.rest.now c.loop-turn.out c.in_default.ensures)
