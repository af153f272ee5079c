use Rattle.std.proofs.Common.{arith}
use Rattle.std.proofs.lemmas.Result.{err_from_is_err_and}
use Rattle.seqpool.specs.declared.act.ActName.TheVariants as names
use Rattle.seqpool.specs.ReadTexts.{IsReply, HasOperands}
use Rattle.seqpool.proofs.Parts.{refuses-as}
use Rattle.seqpool.proofs.ActRefusals.{get-unkeyed, get-no_reply}
use Rattle.seqpool.proofs.acts_reader.read_get.Goals as goal

pub returns-in_default : goal.returns-in_default
returns-in_default c = get-unkeyed c.args.lane c.args.operands.now (omega arith) c.in_default.ensures

pub returns-in_err-reply : goal.returns-in_err-reply
returns-in_err-reply c =
    let p = err_from_is_err_and c.from_residual.result c.from_residual.ensures.1 in
    rw (p.1, p.2)
    (refuses-as IsReply (HasOperands c.args.lane names.Get) c.in-Some.reply.now c.args.operands.now
    (get-no_reply c.args.lane c.in-Some.key c.args.operands.now c.in-Some.reply.now (omega arith) c.in-Some.ensures)
    c.in_err-reply.field-0.0 (c.in_err-reply.ensures {u = tt}))
