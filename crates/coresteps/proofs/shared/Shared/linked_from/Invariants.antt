use Rattle.std.proofs.Common.{ℕ, ◌-◌, ◌++◌, List, length}
use Rattle.keybits.specs.Links.{Leads}
use Rattle.seqpool.specs.Pool.{Pool, NoRepeats, AllHome}
use Rattle.steplaws.specs.Facts.{Words}
use Rattle.coresteps.specs.Kept.{IsTable}
use Rattle.coresteps.proofs.shared.Shared.linked_from.Given as goal

-- the places found so far and the rest, to which the word leads
abbrev pub invariant-loop-word : goal.invariant-loop-word
invariant-loop-word l = (words : Words) × (rest : List ℕ) × (pool : Pool) × IsTable l.self.shape words l.self.words
    × Leads words.link l.shard l.stack (l.places.items ++ rest) × NoRepeats (l.places.items ++ rest) × AllHome l.self.shape pool l.shard (l.places.items ++ rest)
    × Leads words.link l.shard l.word rest

-- there are less than 2 to the power 24 places
abbrev pub decreases-loop-word : goal.decreases-loop-word
decreases-loop-word l = 16777216 - length l.places.items
