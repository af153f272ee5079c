use Rattle.poolsteps.specs.Layout.{spots_at}
use Rattle.std.proofs.Common.{ℕ}
use Rattle.keybits.specs.declared.shape.Shape.{Shape}
use Rattle.poolsteps.proofs.LookWords.{look-below}
use Rattle.poolsteps.proofs.Telling.{see-told-allows}
use Rattle.poolsteps.proofs.grid.Grid.see_told.Goals as goal

pub load-requires : goal.load-requires
load-requires g c =
    let grid = c.args.self.now in
    let z : Shape = grid.shape in
    let hand = c.args.hand.now in
    let lane : ℕ = c.args.lane in
    let asked = c.requires in (
      asked.hand.0,
      rw (c.look_word.ensures, grid.sized) (look-below z grid.checked lane asked.lane),
      rw (asked.aim, grid.board_is) (see-told-allows g.T.Clear.content g.T.Clear.room (spots_at c.args.self.now.objects.ptr c.args.self.now.shape) z grid.table.shared.table_id.slots hand.id hand.me asked.hand.1 c.look_word.result),
    )
