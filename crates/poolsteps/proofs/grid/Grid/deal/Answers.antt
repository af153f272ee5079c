use Rattle.poolsteps.specs.Layout.{spots_at}
-- The rule goes on where a lane is dealt out.
use Rattle.std.proofs.Common.{◌<◌, ℕ, sym, subst}
use Rattle.poolsteps.proofs.LookWords.{words-some}
use Rattle.poolsteps.proofs.Dealing.{dealt}
use Rattle.poolsteps.proofs.grid.Grid.deal.Goals as goal

pub split_seat-requires : goal.split_seat-requires
split_seat-requires g c =
    let grid = c.args.self.now in let seat = c.args.seat.now in
    (c.requires, subst (λ (count : ℕ). 0 < count) (sym grid.sized) (words-some grid.shape), dealt g.T.Clear.content g.T.Clear.room (spots_at grid.table.shared.key.directory.at grid.table.shared.key.shape) grid.table.shared.key.shape seat.id seat.me.0)
