-- The lanes that are here are the pool's, and all of them where none is missing.
use Rattle.std.proofs.Common.{ap, subst, arith}
use Rattle.keybits.specs.declared.shape.Shape.{Shape}
use Rattle.shardpool.specs.Tokens.{PoolOf}
use Rattle.shardpool.specs.Closings.{AreLanes}
use Rattle.guards.proofs.Slots.{in-row-of, same-pool}
use Rattle.guards.proofs.lanes.Opened.close.Goals as goal

pub close-requires : goal.close-requires
close-requires g c =
    let opened = c.args.self in record {
      lanes = subst (λ (pool : PoolOf). AreLanes pool c.into_row.result.items) (same-pool opened.lanes.pool opened.pool opened.table opened.directory opened.shape) c.into_row.ensures.lanes;
    }

pub returns-in-None-clause-closes : goal.returns-in-None-clause-closes
returns-in-None-clause-closes g c =
    let opened = c.args.self in (
      c.into_row.result.items,
      c.into_row.ensures.slots,
      c.close.ensures.closes,
      subst (λ (pool : PoolOf). AreLanes pool c.into_row.result.items) (same-pool opened.lanes.pool opened.pool opened.table opened.directory opened.shape) c.into_row.ensures.lanes,
      in-row-of opened.lanes c.into_row.result.items c.into_row.ensures.slots,
    )

pub returns-in-Some-clause-all : goal.returns-in-Some-clause-all
returns-in-Some-clause-all g c = λ here.
    let missing = c.in-Some.ensures.some in
    let same = ap (λ (shape : Shape). shape.lanes) c.args.self.shape in
    let low = missing.below in
    let there = here c.in-Some.number (omega (arith, low, same)) in
    let one = there.1 in
    let none = missing.missing in absurd (cc (one, none))
