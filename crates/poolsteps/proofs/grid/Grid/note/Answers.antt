use Rattle.poolsteps.specs.Layout.{spots_at}
-- The rule goes on where a note is cut from a seat.
use Rattle.std.proofs.Common.{◌<◌, ℕ, sym, subst}
use Rattle.poolsteps.proofs.LookWords.{words-some}
use Rattle.poolsteps.proofs.Telling.{noted}
use Rattle.poolsteps.proofs.grid.Grid.note.Goals as goal

pub split_seat-requires : goal.split_seat-requires
split_seat-requires g c =
    let grid = c.args.self.now in let hand = c.args.hand.now in
    (c.requires, subst (λ (count : ℕ). 0 < count) (sym grid.sized) (words-some grid.shape), noted g.T.Clear.content g.T.Clear.room (spots_at grid.table.shared.key.directory.at grid.table.shared.key.shape) grid.table.shared.key.shape hand.id hand.me.0)
