use Rattle.std.proofs.Common.{arith}
use Rattle.seqpool.proofs.Numbers.{uncut-unled, no-number-unled}
use Rattle.seqpool.proofs.acts_fields.read_u32_before.Goals as goal

pub returns-in_default : goal.returns-in_default
returns-in_default c = uncut-unled 4294967295 c.args.text.now c.in_default.ensures

pub returns-in_default-read_u32 : goal.returns-in_default-read_u32
returns-in_default-read_u32 c =
    no-number-unled 4294967295 c.args.text.now c.in-Some.number.now c.in-Some.rest.now (omega arith) c.in-Some.ensures
    c.in_default-read_u32.ensures
