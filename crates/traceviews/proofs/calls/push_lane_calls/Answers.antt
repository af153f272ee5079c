use Rattle.std.proofs.Common.{arith}
use Rattle.traceviews.proofs.CallLemmas.{calls_next, calls_all}
use Rattle.traceviews.proofs.calls.push_lane_calls.Goals as goal

pub loop-turn-preserved : goal.loop-turn-preserved
loop-turn-preserved c =
    let at = c.loop-turn in
    record {
      few = omega (arith, c.in-Some.ensures.shorter);
      grows = λ new rest. at.invariant.grows new
          (calls_next c.args.lane at.begun c.push_call_at-begun.result at.number at.rest.now c.in-Some.turn.now c.in-Some.behind.now at.out c.push_call_at-begun.new.out new c.in-Some.ensures c.push_call_at-begun.ensures.text c.push_call_at-begun.ensures.begun rest);
    }

pub returns : goal.returns
returns c = c.loop-turn.invariant.grows c.push_open_call.new.out
    (calls_all c.args.lane c.loop-turn.begun c.loop-turn.number c.loop-turn.rest.now c.loop-turn.out c.push_open_call.new.out c.in_default.ensures c.push_open_call.ensures)
