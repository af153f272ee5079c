use Rattle.std.proofs.Common.{arith}
use Rattle.poolsteps.specs.Layout.{spots_at}
use Rattle.keybits.specs.declared.shape.Shape.{Shape}
use Rattle.poolsteps.proofs.LookWords.{look-below}
use Rattle.poolsteps.proofs.Batching.{lay-all-allows}
use Rattle.poolsteps.proofs.grid.Grid.lay_all.Goals as goal

pub load-requires : goal.load-requires
load-requires g c =
    let grid = c.args.self.now in
    let z : Shape = grid.shape in
    let hand = c.args.hand.now in
    let asked = c.requires in (
      asked.hand.0,
      rw (c.look_word.ensures, grid.sized) (look-below z grid.checked c.args.lane asked.lane),
      rw (asked.aim.0, asked.aim.1, asked.aim.2, grid.board_is, grid.deep)
          (lay-all-allows g.T.Clear.content g.T.Clear.room (spots_at c.args.self.now.objects.ptr c.args.self.now.shape) z hand.id hand.me asked.hand.1 c.args.spot.place asked.spot.inside asked.place
          c.look_word.result g.J.MoveAll.order g.J.MoveAll.status g.J.MoveAll.stored asked.values.0 asked.aim.3 (omega (arith, grid.checked.lanes.0)) asked.left asked.values.1 asked.values.2),
    )
