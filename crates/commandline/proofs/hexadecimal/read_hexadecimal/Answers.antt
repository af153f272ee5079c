use Rattle.std.proofs.Common.{arith}
use Rattle.commandline.proofs.HexLemmas.{digit-more, of-sixteen}
use Rattle.commandline.proofs.hexadecimal.read_hexadecimal.Goals as goal

pub overflow_mul-number : goal.overflow_mul-number
overflow_mul-number c =
    let at = c.loop-byte in
    let below = of-sixteen _ _ (digit-more at.number 0 at.byte-index at.invariant.low (omega arith)) (omega (arith, at.invariant.within)) in
    omega (arith, below)

pub overflow_add-number : goal.overflow_add-number
overflow_add-number c =
    let at = c.loop-byte in
    let below = of-sixteen _ _ (digit-more at.number c.in_ok-digit.digit at.byte-index at.invariant.low c.in_ok-digit.ensures.bound) (omega (arith, at.invariant.within)) in
    omega (arith, below)
