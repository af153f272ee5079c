use Rattle.std.proofs.Common.{◌≡◌, ℕ, ◌+◌, ◌-◌, ◌*◌, ◌%◌, true, refl, arith}
use Rattle.keybits.specs.Places.{place_at, shard_of}
use Rattle.keybits.specs.Shapes.{page_start, is_place, index_of}
use Rattle.keybits.proofs.ShapeLemmas.{is_place-from_index}
use Rattle.keybits.proofs.shape.Shape.place_in_shard.Goals as goal
use Rattle.keybits.proofs.shape.Shape.place_in_shard.Goals.{After-places_before}

found : (c : After-places_before) (n : ℕ) → n ≡ c.args.shard * 65536 % 4294967296 + c.page_at-page.result * 4096 % 4294967296 + (c.args.index - c.places_before.result)
    → (is_place c.args.self.now n ≡ true) × (shard_of n ≡ c.args.shard) × (index_of c.args.self.now n ≡ c.args.index)
found c n e =
    let inside = c.page_at-page.ensures in
    let made : n ≡ place_at c.args.shard c.page_at-page.result (c.args.index - page_start c.args.self.now c.page_at-page.result) =
    omega (arith, e, c.places_before.ensures, inside.opened, c.requires.shape.pages.1, c.requires.shard, c.requires.shape.lanes.1) in
    is_place-from_index c.args.self.now c.requires.shape c.args.shard c.page_at-page.result c.args.index n c.requires.shard inside made

pub places_before-requires-clause-page : goal.places_before-requires-clause-page
places_before-requires-clause-page c =
    omega (arith, c.page_at-page.ensures.opened, c.requires.shape.pages.1)

pub returns-clause-place : goal.returns-clause-place
returns-clause-place c = (found c _ refl).0

pub returns-clause-shard : goal.returns-clause-shard
returns-clause-shard c = (found c _ refl).1

pub returns-clause-index : goal.returns-clause-index
returns-clause-index c = (found c _ refl).2
