use Rattle.std.proofs.Common.{[], arith}
use Rattle.seatcalls.specs.Visitors.{GuestOf}
use Rattle.seatcalls.proofs.parts.Sighting.{ends-settled}
use Rattle.seatcalls.proofs.ended.settle_owed.Goals as goal

pub returns : goal.returns
returns g c =
    let old : GuestOf = record { table = c.args.hand.table_id; shape = c.args.grid.now.shape; number = c.args.number; book = c.args.hand.me.0 } in
    ends-settled g.T.Clear.content g.T.Clear.room c.args.grid.now.objects.ptr c.args.spot.place [] 1 2 2 4 old c.settle.result c.end.result
    c.end.ensures c.settle.ensures.free c.settle.ensures.kept (omega arith) (omega arith)
