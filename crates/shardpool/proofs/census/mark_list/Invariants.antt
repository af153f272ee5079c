-- The places that came off the list are marked.
use Rattle.std.proofs.Common.{◌≡◌, List, ◌++◌, map, length}
use Rattle.keybits.specs.declared.place.Place.{Place}
use Rattle.keybits.specs.Places.{number_of}
use Rattle.shardpool.specs.Marks.{Blanks}
use Rattle.shardpool.proofs.census.mark_list.Given as goal

abbrev pub invariant-loop-place : goal.invariant-loop-place
invariant-loop-place l = (done : List Place) × (l.initial.free.own ≡ done ++ l.free.own) × Blanks l.shape (map number_of done) l.initial.words l.words × (l.free.chain ≡ l.initial.free.chain)

abbrev pub decreases-loop-place : goal.decreases-loop-place
decreases-loop-place l = length l.free.own
