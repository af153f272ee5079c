use Rattle.poolsteps.specs.Layout.{spots_at}
use Rattle.keybits.specs.declared.shape.Shape.{Shape}
use Rattle.poolsteps.proofs.LookWords.{look-below}
use Rattle.poolsteps.proofs.Moving.{lay-allows}
use Rattle.poolsteps.proofs.grid.Grid.lay.Goals as goal

pub load-requires : goal.load-requires
load-requires g c =
    let grid = c.args.self.now in
    let z : Shape = grid.shape in
    let hand = c.args.hand.now in
    let asked = c.requires in (
      asked.hand.0,
      rw (c.look_word.ensures, grid.sized) (look-below z grid.checked c.args.lane asked.lanes.0),
      rw (asked.aim.0, asked.aim.1, asked.aim.2, asked.aim.3, grid.board_is, grid.deep)
          (lay-allows g.T.Clear.content g.T.Clear.room (spots_at c.args.self.now.objects.ptr c.args.self.now.shape) z hand.id hand.me asked.hand.1 c.args.spot.place c.args.number asked.spot.inside asked.lanes.1 asked.may
          c.look_word.result g.J.Move.status g.J.Move.stored asked.value.0 asked.left asked.value.1 asked.value.2 asked.cell),
    )
