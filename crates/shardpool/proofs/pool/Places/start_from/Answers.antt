-- The start of its page tells where a place stands.
use Rattle.std.proofs.Common.{◌≡◌, ℕ, ◌+◌, ◌/◌, ◌%◌, ◌<◌, true, slice_index_or, sym, subst, ◌∙◌, arith}
use Rattle.keybits.specs.Places.{shard_of, page_of}
use Rattle.keybits.specs.Shapes.{is_place, page_start}
use Rattle.keybits.proofs.ShapeLemmas.{is_place-parts}
use Rattle.poolsteps.specs.Layout.{slot_start, slot_row, shard_start}
use Rattle.poolsteps.proofs.SlotLemmas.{in-row, row-small}
use Rattle.shardpool.proofs.free.Starts.{start-in, start-is}
use Rattle.shardpool.specs.declared.pool.Places.{Places}
use Rattle.shardpool.proofs.pool.Places.start_from.Goals as goal

-- the start of the place's page
begins : (s : Places) (place : ℕ) → is_place s.shape place ≡ true → slice_index_or s.starts (place % 65536 / 4096) 0 ≡ page_start s.shape (page_of place)
begins s place inside =
    let page : place % 65536 / 4096 ≡ page_of place = omega arith in
    let below : page_of place < s.shape.pages = (is_place-parts s.shape place inside).1 in
    (λ i. slice_index_or (s.starts_are i) (page i) 0) ∙ start-in s.shape s.shape.pages (page_of place) 0 below

stands : (s : Places) (place first : ℕ) → is_place s.shape place ≡ true → first ≡ shard_start s.shape (shard_of place)
    → first + slice_index_or s.starts (place % 65536 / 4096) 0 + place % 4096 ≡ slot_start s.shape place
stands s place first inside shard = start-is s.shape place first (slice_index_or s.starts (place % 65536 / 4096) 0) shard (begins s place inside)

pub overflow_add-result : goal.overflow_add-result
overflow_add-result c = let s = c.args.self.now in omega (arith, stands s c.args.place c.args.first c.requires.place c.requires.first, in-row s.shape c.args.place c.requires.place, row-small s.shape s.checked)

pub overflow_add-result-2 : goal.overflow_add-result-2
overflow_add-result-2 c = let s = c.args.self.now in omega (arith, stands s c.args.place c.args.first c.requires.place c.requires.first, in-row s.shape c.args.place c.requires.place, row-small s.shape s.checked)

pub returns-clause-start : goal.returns-clause-start
returns-clause-start c = stands c.args.self.now c.args.place c.args.first c.requires.place c.requires.first

pub returns-clause-below : goal.returns-clause-below
returns-clause-below c = subst (λ n. n < slot_row c.args.self.now.shape) (sym (stands c.args.self.now c.args.place c.args.first c.requires.place c.requires.first)) (in-row c.args.self.now.shape c.args.place c.requires.place)
