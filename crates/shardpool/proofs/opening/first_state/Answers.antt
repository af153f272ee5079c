-- What the lane keeps is what a lane begins with.
use Rattle.std.proofs.Common.{rules, ℕ, replicate, refl, ap, ◌∙◌, arith}
use Rattle.shardpool.proofs.calls.Openings.{first_row, unendowed-are, within-row}
use Rattle.keybits.proofs.ShapeLemmas.{shape_bounds}
use Rattle.keybits.specs.declared.shape.Shape.{Shape}
use Rattle.keybits.specs.Shapes.{IsShape}
use Rattle.freelists.specs.Shards.{shape_of}
use Rattle.shardpool.proofs.opening.first_state.Goals as goal

-- the shape of a lane's lists is within its limits too
is-shape : (z : Shape) → IsShape z → IsShape (shape_of z.first_page z.pages)
is-shape z shape = record { lanes = (omega arith, omega arith); first_page = shape.first_page; pages = shape.pages; generations = omega arith; tag = omega arith; guests = omega arith }

-- ---- memory was refused

pub returns-in_err-last_pushed : goal.returns-in_err-last_pushed
returns-in_err-last_pushed g c = rw c.from_residual.ensures tt

pub returns-in_err-free : goal.returns-in_err-free
returns-in_err-free g c = rw c.from_residual-in_err-free.ensures tt

pub returns-in_err-rows : goal.returns-in_err-rows
returns-in_err-rows g c = rw c.from_residual-in_err-rows.ensures tt

pub returns-in_err-objects : goal.returns-in_err-objects
returns-in_err-objects g c = rw c.from_residual-in_err-objects.ensures tt

-- ---- the shape is within its limits, and the number is one of its lanes

pub of-requires : goal.of-requires
of-requires g c = c.requires.shape

pub slot_row-requires : goal.slot_row-requires
slot_row-requires g c = c.requires.shape

pub shard_places-requires : goal.shard_places-requires
shard_places-requires g c = c.requires.shape

pub shard_start-requires-clause-shape : goal.shard_start-requires-clause-shape
shard_start-requires-clause-shape g c = c.requires.shape

pub shard_start-requires-clause-shard : goal.shard_start-requires-clause-shard
shard_start-requires-clause-shard g c = c.requires.number

pub new-requires-clause-shard : goal.new-requires-clause-shard
new-requires-clause-shard g c = let low = c.requires.number in let most = c.requires.shape.lanes.1 in omega (arith, low, most)

pub new-requires-3-clause-shard : goal.new-requires-3-clause-shard
new-requires-3-clause-shard g c = let low = c.requires.number in let most = c.requires.shape.lanes.1 in omega (arith, low, most)

pub new-requires-clause-shape : goal.new-requires-clause-shape
new-requires-clause-shape g c = is-shape c.args.shape.now c.requires.shape

pub new-requires-3-clause-shape : goal.new-requires-3-clause-shape
new-requires-3-clause-shape g c = is-shape c.args.shape.now c.requires.shape

pub new-requires-2 : goal.new-requires-2
new-requires-2 g c =
    let z = c.args.shape.now in
    let fits = within-row z c.args.number c.requires.number in
    let first = c.shard_start.ensures in
    let places = c.shard_places.ensures in
    let bounds = shape_bounds z c.requires.shape in
    let all = bounds.all in
    let lanes = bounds.lanes in
    omega (arith, fits, first, places, all, lanes)

-- ---- what is made

pub returns : goal.returns
returns g c = record {
  shape_is = refl;
  number_is = refl;
  references = refl;
  rows = c.in_ok-rows.ensures ∙ ap (λ (n : ℕ). replicate n first_row) c.slot_row.ensures;
  last_pushed = search rules;
  free = c.in_ok-free.ensures.empty;
  pages = c.new-3.ensures;
  objects = unendowed-are c.args.shape.now c.args.number c.args.directory.ptr c.in_ok-objects.objects c.shard_places.result c.shard_start.result
      c.shard_places.ensures c.shard_start.ensures c.in_ok-objects.ensures;
  places = c.of.ensures;
}
