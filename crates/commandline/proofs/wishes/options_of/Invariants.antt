use Rattle.std.proofs.Common.{◌≡◌, ◌++◌, map, take, drop, string_bytes}
use Rattle.commandline.specs.Wishes.{options_of}
use Rattle.commandline.proofs.wishes.options_of.Given as goal

-- the words so far, and those of the rest before its first --, are those of all
abbrev pub invariant-loop-count : goal.invariant-loop-count
invariant-loop-count l =
    map string_bytes (take l.count l.words) ++ options_of (map string_bytes (drop l.count l.words)) ≡ options_of (map string_bytes l.words)
