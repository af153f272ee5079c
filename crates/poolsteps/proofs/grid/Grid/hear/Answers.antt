use Rattle.poolsteps.proofs.Telling.{heard-note}
use Rattle.poolsteps.proofs.grid.Grid.hear.Goals as goal

pub returns-clause-heard : goal.returns-clause-heard
returns-clause-heard g c =
    heard-note c.args.self.now.shape c.args.hand.now.me c.join_note.new.hand.me c.see_told.new.hand.me c.args.note.me.0 c.join_note.ensures.1 c.see_told.ensures.sees
