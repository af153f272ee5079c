use Rattle.std.proofs.Common.{◌≡◌, ◌<◌, ◌≤◌, ◌^◌, length, drop}
use Rattle.commandline.specs.Hexadecimal.{with_hex_digits}
use Rattle.commandline.proofs.hexadecimal.read_hexadecimal.Given as goal

-- the number so far, with the digits that are left, is that of all; and it is below the power of its digits
abbrev pub invariant-loop-byte : goal.invariant-loop-byte
invariant-loop-byte l = record {
  within : length l.digits ≤ 16;
  low : l.number < 16 ^ l.byte-index;
  reads : with_hex_digits l.number (drop l.byte-index l.digits) ≡ with_hex_digits 0 l.digits;
}
