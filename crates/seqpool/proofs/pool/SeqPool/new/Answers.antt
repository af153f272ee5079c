use Rattle.std.proofs.Common.{◌≡◌, ◌*◌, ◌/◌, ◌<◌, ℕ, vec_len, length, refl, subst, sym, arith}
use Rattle.std.proofs.lemmas.Nat.{div_below}
use Rattle.keybits.specs.Shapes.{all_places}
use Rattle.keybits.proofs.ShapeLemmas.{shape_bounds}
use Rattle.seqpool.proofs.Fresh.{AreFresh, no-rows, more-rows, fresh-rows}
use Rattle.seqpool.proofs.pool.SeqPool.new.Goals as goal

pub returns-clause-fresh : goal.returns-clause-fresh
returns-clause-fresh c =
    let size : length c.loop-position.rows.items ≡ all_places c.args.shape = omega arith in
    fresh-rows c.args.shape c.loop-position.rows.items size (subst (λ (n : ℕ). AreFresh n c.loop-position.rows.items) c.shard_places-shard_places.ensures c.loop-position.invariant.rows)

pub loop-position-preserved : goal.loop-position-preserved
loop-position-preserved c =
    let pushed = c.in_ok-push.ensures {u = tt} in
    let before : length c.loop-position.rows.items ≡ c.loop-position.position = omega arith in
    record {
      len = omega arith;
      rows = subst (AreFresh c.shard_places-shard_places.result) (sym pushed.items)
          (more-rows c.shard_places-shard_places.result c.loop-position.rows.items c.loop-position.position before c.loop-position.invariant.rows);
    }

pub all_places-places-requires : goal.all_places-places-requires
all_places-places-requires c = c.requires.0

pub shard_places-shard_places-requires : goal.shard_places-shard_places-requires
shard_places-shard_places-requires c = c.requires.0

pub loop-position-init : goal.loop-position-init
loop-position-init c =
    let is = c.in_ok-rows.ensures {u = tt} in
    record {
      len = is.len;
      rows = subst (AreFresh c.shard_places-shard_places.result) (sym is.items) (no-rows c.shard_places-shard_places.result);
    }

pub nonzero_div-lane : goal.nonzero_div-lane
nonzero_div-lane c = omega (arith, (shape_bounds c.args.shape c.requires.0).shard.0)

pub overflow_cast-lane : goal.overflow_cast-lane
overflow_cast-lane c =
    let bounds = shape_bounds c.args.shape c.requires.0 in
    let inside : c.loop-position.position < c.args.shape.lanes * c.shard_places-shard_places.result =
    subst (λ (n : ℕ). c.loop-position.position < c.args.shape.lanes * n) (sym c.shard_places-shard_places.ensures)
    (subst (λ (n : ℕ). c.loop-position.position < n) c.all_places-places.ensures c.loop-position-test.true) in
    let lane : c.loop-position.position / c.shard_places-shard_places.result < c.args.shape.lanes =
    div_below c.loop-position.position c.shard_places-shard_places.result c.args.shape.lanes (omega (arith, bounds.shard.0)) inside in
    omega (arith, bounds.lanes)

pub invariant_of-result : goal.invariant_of-result
invariant_of-result c =
    let size : vec_len c.loop-position.rows ≡ all_places c.args.shape = omega arith in
    record { checked = c.requires.0; narrow = c.requires.1; alone = c.requires.3; whole = size }

pub returns-clause-shape : goal.returns-clause-shape
returns-clause-shape c = refl
