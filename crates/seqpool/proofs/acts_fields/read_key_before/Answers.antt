use Rattle.std.proofs.Common.{arith}
use Rattle.seqpool.proofs.Numbers.{uncut-unled, no-number-unled}
use Rattle.seqpool.proofs.acts_fields.read_key_before.Goals as goal

pub returns-in_default : goal.returns-in_default
returns-in_default c = uncut-unled 18446744073709551615 c.args.text.now c.in_default.ensures

pub returns-in_default-read_key : goal.returns-in_default-read_key
returns-in_default-read_key c =
    no-number-unled 18446744073709551615 c.args.text.now c.in-Some.key.now c.in-Some.rest.now (omega arith) c.in-Some.ensures
    c.in_default-read_key.ensures
