-- The keys of a place: the numbers that a tag and a generation from 1 to the last make, one behind the other.
use Rattle.std.proofs.Common.{◌≡◌, ℕ, ◌+◌, ◌-◌, ◌*◌, ◌/◌, ◌%◌, ◌<◌, ◌≤◌, arith}

-- how far a number is behind the first key of its place, where what is in front of it wraps
abbrev pub behind : ℕ → ℕ → ℕ
behind head tag = (head + (18446744073709551616 - (4294967296 * tag + 1))) % 18446744073709551616

pub behind-tag : (head tag last : ℕ) → head < 1099511627776 → tag ≤ 255 → last < 4294967296 → behind head tag < last → head / 4294967296 ≡ tag
behind-tag head tag last h t l is = omega arith

pub behind-low : (head tag last : ℕ) → head < 1099511627776 → tag ≤ 255 → last < 4294967296 → behind head tag < last → 1 ≤ head % 4294967296
behind-low head tag last h t l is = omega arith

pub behind-high : (head tag last : ℕ) → head < 1099511627776 → tag ≤ 255 → last < 4294967296 → behind head tag < last → head % 4294967296 ≤ last
behind-high head tag last h t l is = omega arith

pub behind-key : (head tag last : ℕ) → head < 1099511627776 → tag ≤ 255 → head / 4294967296 ≡ tag → 1 ≤ head % 4294967296 → head % 4294967296 ≤ last → behind head tag < last
behind-key head tag last h t same low high = omega arith
