-- The first lane is the pool's.
use Rattle.std.proofs.Common.{◌≡◌, ◌∙◌, sym, subst, List}
use Rattle.std.specs.Vec.Iter.{into_iter_items}
use Rattle.shardpool.specs.Tokens.{LaneOf}
use Rattle.guards.specs.Rows.{AreLanesOf}
use Rattle.pooltests.proofs.PoolRows.{lanes_next, first_are}
use Rattle.pooltests.proofs.test_claimed.first_of.Goals as goal

pub returns : goal.returns
returns g c =
    lanes_next c.next.result (into_iter_items c.next.new.self)
    (subst (λ (lanes : List LaneOf). AreLanesOf c.args.pool.now lanes) (sym c.into_iter.ensures.rest ∙ c.next.ensures.items) (first_are c.requires))
