use Rattle.std.proofs.Common.{◌≡◌, map, drop, find, string_bytes}
use Rattle.std.specs.Str.{bytes_eq}
use Rattle.commandline.proofs.hints.word_of.Given as goal

-- the path stands among the words that are left where it does among all
abbrev pub invariant-loop-word : goal.invariant-loop-word
invariant-loop-word l = find (λ word. bytes_eq word l.path) (map string_bytes (drop l.word-index l.words)) ≡ find (λ word. bytes_eq word l.path) (map string_bytes l.words)
