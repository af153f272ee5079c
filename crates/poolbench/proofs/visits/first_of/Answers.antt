-- The first lane of those of a pool that was just opened is the pool's.
use Rattle.std.proofs.Common.{◌≡◌, ◌∙◌, sym, subst, List}
use Rattle.std.specs.Vec.Iter.{into_iter_items}
use Rattle.shardpool.specs.Tokens.{LaneOf}
use Rattle.poolbench.proofs.Fresh.{AreFresh, fresh-first, fresh-next}
use Rattle.poolbench.proofs.visits.first_of.Goals as goal

pub returns : goal.returns
returns c = record {
  owns = fresh-next c.next.result (into_iter_items c.next.new.self)
      (subst (λ (lanes : List LaneOf). AreFresh c.args.pool.now lanes) (sym c.into_iter.ensures.rest ∙ c.next.ensures.items) (fresh-first c.requires.first));
}
