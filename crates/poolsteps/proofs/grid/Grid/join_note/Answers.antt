use Rattle.poolsteps.specs.Layout.{spots_at}
-- The rule goes on where a seat is told what another has.
use Rattle.std.proofs.Common.{◌<◌, ℕ, sym, subst}
use Rattle.poolsteps.proofs.LookWords.{words-some}
use Rattle.poolsteps.proofs.Telling.{hears}
use Rattle.poolsteps.proofs.grid.Grid.join_note.Goals as goal

pub join_seat-requires : goal.join_seat-requires
join_seat-requires g c =
    let grid = c.args.self.now in
    let hand = c.args.hand.now in
    let note = c.args.note in (
      c.requires.hand,
      c.requires.note.0,
      c.requires.note.1,
      subst (λ (count : ℕ). 0 < count) (sym grid.sized) (words-some grid.shape),
      hears g.T.Clear.content g.T.Clear.room (spots_at grid.table.shared.key.directory.at grid.table.shared.key.shape) grid.table.shared.key.shape hand.id note.id hand.me.0 note.me.0,
    )
