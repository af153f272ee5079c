use Rattle.std.proofs.Common.{◌≡◌, ◌++◌, map, drop, string_bytes}
use Rattle.std.specs.Prelude.{if◌then◌else◌}
use Rattle.commandline.specs.Wishes.{plain_words}
use Rattle.commandline.proofs.wishes.plain_words.Given as goal

-- the words so far, and the rest as they are read now, are all as they are read
abbrev pub invariant-loop-word : goal.invariant-loop-word
invariant-loop-word l =
    let rest = map string_bytes (drop l.word-index l.words) in
    map string_bytes l.plain.items ++ (if l.ended then rest else plain_words rest) ≡ plain_words (map string_bytes l.words)
