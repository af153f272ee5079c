use Rattle.std.proofs.Common.{◌≡◌, ◌<◌, true, sym, ◌∙◌, subst}
use Rattle.keybits.specs.declared.shape.Shape.{Shape}
use Rattle.keybits.specs.Keys.{place_of, is_key}
use Rattle.seqpool.specs.Pool.{pool_after}
use Rattle.poolsteps.specs.Layout.{slot_start}
use Rattle.poolsteps.specs.Views.{the_lane}
use Rattle.poolsteps.specs.Told.{references_seen}
use Rattle.shardpool.proofs.references.RowChanges.{key-now}
use Rattle.shardpool.proofs.pool.Lane.read.Goals as goal

pub start_of-requires : goal.start_of-requires
start_of-requires g c =
    let s = c.self.inside.state in let z = s.shape in let v = c.self.inside.hand.me.0 in let key = c.args.reference.now.key in
    let some : 0 < references_seen z v key = rw (← c.self.view_is) at c.requires in
    subst (λ (y : Shape). is_key y key ≡ true) (sym c.self.invariant.1.placed) (key-now z (pool_after z v.seen) (the_lane v).lane key some).0

pub read_at-requires-clause-start : goal.read_at-requires-clause-start
read_at-requires-clause-start g c =
    rw (← c.self.view_is) (c.start_of.ensures ∙ (λ i. slot_start (c.self.invariant.1.placed i) (place_of (sym c.reference.view_is i).key)))
