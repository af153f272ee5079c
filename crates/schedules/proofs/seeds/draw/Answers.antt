use Rattle.schedules.proofs.Drawing.{drawn-next, drawn-all}
use Rattle.schedules.proofs.seeds.draw.Goals as goal

pub loop-preserved : goal.loop-preserved
loop-preserved c =
    rw c.in_ok-push.ensures.items (drawn-next c.args.lanes c.args.n c.loop.counter c.next_word-word.result c.loop.generator c.next_word-word.new.self c.loop.entries.items _ c.loop-test.true c.next_word-word.ensures c.loop.invariant)

pub returns-clause-drawn : goal.returns-clause-drawn
returns-clause-drawn c =
    drawn-all c.args.lanes c.args.n c.loop.counter c.loop.generator c.loop.entries.items _ c.loop-test.false c.loop.invariant
