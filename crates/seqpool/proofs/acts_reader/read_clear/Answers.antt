use Rattle.std.proofs.Common.{arith}
use Rattle.seqpool.proofs.ActRefusals.{clear-unkeyed, clear-no_reply}
use Rattle.seqpool.proofs.acts_reader.read_clear.Goals as goal

pub returns-in_default : goal.returns-in_default
returns-in_default c = clear-unkeyed c.args.lane c.args.operands.now (omega arith) c.in_default.ensures

pub returns-in_default-read_truth : goal.returns-in_default-read_truth
returns-in_default-read_truth c =
    clear-no_reply c.args.lane c.in-Some.key c.args.operands.now c.in-Some.reply.now (omega arith) c.in-Some.ensures c.in_default-read_truth.ensures
