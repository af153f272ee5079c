use Rattle.traces.proofs.TextLemmas.{prefix_before, on_err}
use Rattle.traces.proofs.text.write_replies.Goals as goal

pub returns-in_err-write_reply_line-clause-err : goal.returns-in_err-write_reply_line-clause-err
returns-in_err-write_reply_line-clause-err c = on_err _ (prefix_before _ _ _ _ c.loop-reply.invariant c.in_err-write_reply_line.ensures.err)
