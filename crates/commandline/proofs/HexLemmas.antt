-- Numbers of hexadecimal digits stay below the powers of 16.
use Rattle.std.proofs.Common.{◌≡◌, ◌∙◌, ℕ, ◌+◌, ◌*◌, ◌^◌, ◌<◌, ◌≤◌, ap, arith, add-one}
use Rattle.std.proofs.Math.Nat.{pow-le-pow_right, pow-succ'}

-- one digit more
pub digit-more : (number digit count : ℕ) → number < 16 ^ count → digit < 16 → 16 * number + digit < 16 ^ (count + 1)
digit-more number digit count low small =
    let next : 16 ^ (count + 1) ≡ 16 * 16 ^ count = ap (λ (n : ℕ). 16 ^ n) (add-one count) ∙ pow-succ' 16 count in
    omega (arith, next)

-- a number of at most sixteen digits has 64 bits
pub of-sixteen : (number count : ℕ) → number < 16 ^ count → count ≤ 16 → number < 18446744073709551616
of-sixteen number count low within =
    let top : 16 ^ count ≤ 16 ^ 16 = pow-le-pow_right (omega arith) within in omega (arith, top)
