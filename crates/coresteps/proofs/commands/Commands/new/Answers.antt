-- The rows have the writes of one command more, and at the end those of all.
use Rattle.std.proofs.Common.{arith}
use Rattle.coresteps.proofs.WriteLemmas.{writes_more, writes_all}
use Rattle.coresteps.proofs.commands.Commands.new.Goals as goal

pub note_write-requires : goal.note_write-requires
note_write-requires c = c.loop-index.invariant.count

pub loop-index-preserved : goal.loop-index-preserved
loop-index-preserved c =
    writes_more c.args.script c.as_slice-command-items.result.now c.loop-index.writes.items c.note_write.new.rows.items c.loop-index.index
    c.command-item.result c.as_slice-command-items.ensures c.loop-index-test.true c.command-item.is
    c.loop-index.invariant c.in_ok-note_write.ensures

pub invariant_of-result : goal.invariant_of-result
invariant_of-result c =
    writes_all c.args.script c.as_slice-command-items.result.now c.loop-index.writes.items c.loop-index.index c.as_slice-command-items.ensures
    (omega arith) c.loop-index.invariant
