use Rattle.std.proofs.Common.{◌≡◌, map, drop, string_bytes}
use Rattle.commandline.specs.Wishes.{wish_in}
use Rattle.commandline.proofs.wishes.wish_in.Given as goal

-- the words that are left say what all do
abbrev pub invariant-loop-word : goal.invariant-loop-word
invariant-loop-word l = wish_in l.matter (map string_bytes (drop l.word-index l.words)) ≡ wish_in l.matter (map string_bytes l.words)
