use Rattle.poolsteps.specs.Layout.{spots_at}
-- The rule goes on where the lanes of two seats come to one.
use Rattle.std.proofs.Common.{◌<◌, ℕ, sym, subst}
use Rattle.poolsteps.proofs.LookWords.{words-some}
use Rattle.poolsteps.proofs.Gathering.{gathers}
use Rattle.poolsteps.proofs.grid.Grid.gather.Goals as goal

pub join_seat-requires : goal.join_seat-requires
join_seat-requires g c =
    let grid = c.args.self.now in
    let seat = c.args.seat.now in
    let other = c.args.other in (
      c.requires.seats.0,
      c.requires.seats.1,
      c.requires.empty,
      subst (λ (count : ℕ). 0 < count) (sym grid.sized) (words-some grid.shape),
      gathers g.T.Clear.content g.T.Clear.room (spots_at grid.table.shared.key.directory.at grid.table.shared.key.shape) grid.table.shared.key.shape seat.id other.id seat.me.0 other.me.0,
    )
