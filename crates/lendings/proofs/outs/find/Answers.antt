-- No row is under the key.
use Rattle.std.proofs.Common.{arith}
use Rattle.lendings.proofs.Rows.{none-of}
use Rattle.lendings.proofs.outs.find.Goals as goal

pub returns-clause-none : goal.returns-clause-none
returns-clause-none g c = λ is. none-of c.args.out.now c.args.key (λ k d low. c.loop-index.invariant k d (omega (arith, low)))
