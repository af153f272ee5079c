-- Each shard's rows give back their shares.
use Rattle.std.proofs.Common.{◌≡◌, ◌*◌, ℕ, ap, ◌∙◌, subst, arith}
use Rattle.keybits.specs.Shapes.{shard_places}
use Rattle.shardpool.specs.Remains.{GivesTo}
use Rattle.shardpool.proofs.at_close.ReturnedShares.{none-back, all-back}
use Rattle.shardpool.proofs.returned_shares.give_back.Goals as goal

pub loop-shard-init : goal.loop-shard-init
loop-shard-init g c =
    let z = c.args.shape.now in
    let none : 0 ≡ 0 * shard_places z = omega arith in
    subst (λ (n : ℕ). GivesTo z c.args.number c.args.rows.items n c.args.rows.items c.args.slots.now c.args.slots.now) none
    (none-back z c.args.number c.args.rows.items c.args.slots.now c.requires.row)

pub give_shard-requires : goal.give_shard-requires
give_shard-requires g c = let h = c.loop-shard.invariant in
    record { shape = c.requires.shape; lanes = (c.requires.number, c.loop-shard-test.true); wide = h.wide ∙ c.requires.wide; row = h.row }

pub loop-shard-preserved : goal.loop-shard-preserved
loop-shard-preserved g c = c.give_shard.ensures.gives c.args.rows.items c.args.slots.now c.loop-shard.invariant

pub returns : goal.returns
returns g c =
    let z = c.args.shape.now in
    let most = c.loop-shard.auto.shard-end in
    let over = c.loop-shard-test.false in
    let end : c.loop-shard.shard ≡ z.lanes = omega (arith, most, over) in
    all-back z c.args.number c.args.rows.items (c.loop-shard.shard * shard_places z) c.loop-shard.rows.items c.args.slots.now c.loop-shard.slots (ap (λ (n : ℕ). n * shard_places z) end)
    c.loop-shard.invariant
