use Rattle.std.proofs.Common.{◌≡◌, ℕ, ◌+◌, ◌*◌, ◌<◌, slice_set, refl, ap, ◌∙◌, arith}
use Rattle.keybits.specs.Places.{page_of, slot_of}
use Rattle.keybits.specs.Shapes.{page_start}
use Rattle.keybits.proofs.ShapeLemmas.{shape_bounds}
use Rattle.shardpool.proofs.free.Starts.{start-set}
use Rattle.shardpool.proofs.pool.page_starts.Goals as goal

pub loop-page-init : goal.loop-page-init
loop-page-init c = refl

pub overflow_cast-starts : goal.overflow_cast-starts
overflow_cast-starts c = omega (arith, c.index.ensures.below, (shape_bounds c.args.shape.now c.requires).shard.1)

pub loop-page-preserved : goal.loop-page-preserved
loop-page-preserved c =
    let z = c.args.shape.now in let page = c.loop-page.page in
    let low : page < 16 = omega (arith, c.loop-page-test.true, c.requires.pages.1) in
    let of : page_of (page * 4096) ≡ page = omega (arith, low) in
    let first : slot_of (page * 4096) ≡ 0 = omega (arith, low) in
    let begins : c.index.result ≡ page_start z page = c.index.ensures.index
    ∙ (ap (λ (n : ℕ). page_start z n + slot_of (page * 4096)) of ∙ omega (arith, first)) in
    (λ i. slice_set (c.loop-page.invariant i) page (begins i)) ∙ start-set z page low
