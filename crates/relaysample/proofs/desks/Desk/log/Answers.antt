-- What is told of is what was put.
use Rattle.std.proofs.Common.{length, ap}
use Rattle.relaysample.specs.Lines.{numbers_of}
use Rattle.relaysample.proofs.desks.Desk.log.Goals as goal

pub returns : goal.returns
returns g c = c.tell.ensures.content (numbers_of c.args.line) c.in_ok-key.ensures.published

pub invariant_of-result : goal.invariant_of-result
invariant_of-result g c = record { is_line = ap length (c.tell.ensures.content (numbers_of c.args.line) c.in_ok-key.ensures.published) }
