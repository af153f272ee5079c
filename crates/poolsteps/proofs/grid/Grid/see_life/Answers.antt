use Rattle.poolsteps.specs.Layout.{spots_at}
use Rattle.keybits.specs.declared.shape.Shape.{Shape}
use Rattle.keybits.specs.declared.step.Word.TheVariants.{Life}
use Rattle.poolsteps.proofs.LayoutLemmas.{index-below}
use Rattle.poolsteps.proofs.PageLemmas.{life-at}
use Rattle.poolsteps.proofs.Seeing.{see-life-allows}
use Rattle.poolsteps.proofs.grid.Grid.see_life.Goals as goal

pub load-requires : goal.load-requires
load-requires g c =
    let grid = c.args.self.now in
    let z : Shape = grid.shape in
    let hand = c.args.hand.now in
    let asked = c.requires in (
      asked.hand.0,
      rw (life-at asked.spot, grid.sized) (index-below z grid.checked (Life c.args.spot.place) asked.spot.inside),
      rw (asked.aim.0, asked.aim.1, life-at asked.spot, grid.board_is)
          (see-life-allows g.T.Clear.content g.T.Clear.room (spots_at c.args.self.now.objects.ptr c.args.self.now.shape) z grid.table.shared.table_id.slots hand.id hand.me asked.hand.1 c.args.spot.place asked.spot.inside),
    )
