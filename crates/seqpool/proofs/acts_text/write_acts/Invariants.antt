use Rattle.std.proofs.Common.{take, string_bytes}
use Rattle.seqpool.specs.ActsText.{IsTextOf}
use Rattle.seqpool.proofs.acts_text.write_acts.Given as goal

abbrev pub invariant-loop-act : goal.invariant-loop-act
invariant-loop-act l = IsTextOf l.shape (take l.act-index l.acts) (string_bytes l.text)
