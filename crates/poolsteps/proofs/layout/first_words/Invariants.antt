use Rattle.std.proofs.Common.{◌≡◌, length}
use Rattle.poolsteps.specs.Layout.{word_count}
use Rattle.poolsteps.proofs.FirstWords.{AreFirstTo}
use Rattle.poolsteps.proofs.layout.first_words.Given as goal

-- the words before this one have their first value
abbrev pub invariant-loop-start : goal.invariant-loop-start
invariant-loop-start l = record { count : length l.words.items ≡ word_count l.shape; first : AreFirstTo l.shape l.start l.words.items }
