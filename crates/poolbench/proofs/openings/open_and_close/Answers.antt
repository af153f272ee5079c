-- The lanes that a pool is opened with are all its lanes, and one of them stays the same lane.
use Rattle.std.proofs.Common.{sym, ap, ◌∙◌, subst}
use Rattle.keybits.specs.declared.shape.Shape.{Shape}
use Rattle.shardpool.specs.Closings.{AreLanes}
use Rattle.shardpool.specs.Opened.{AreFirstLanes}
use Rattle.poolbench.proofs.Fresh.{last-owned, last-stays}
use Rattle.poolbench.proofs.openings.open_and_close.Goals as goal

pub put_many-requires : goal.put_many-requires
put_many-requires c =
    last-owned c.pop.new.self.items c.in-Some.lane (subst (AreFirstLanes c.in-Ok.pool) c.in-Some.ensures.items c.in-Ok.ensures.lanes)

pub close-census-requires : goal.close-census-requires
close-census-requires c =
    let first = subst (AreFirstLanes c.in-Ok.pool) c.in-Some.ensures.items c.in-Ok.ensures.lanes in
    record {
      lanes = subst (AreLanes c.in-Ok.pool) (sym c.push_reserved.ensures.items)
          (last-stays c.pop.new.self.items c.in-Some.lane c.put_many.new.lane
          (ap (λ (shape : Shape). shape.guests) c.in-Ok.ensures.pool ∙ c.requires) first c.put_many.ensures);
    }
