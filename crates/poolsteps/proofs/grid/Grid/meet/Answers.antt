use Rattle.poolsteps.proofs.Telling.{met-note}
use Rattle.poolsteps.proofs.grid.Grid.meet.Goals as goal

pub returns-clause-met : goal.returns-clause-met
returns-clause-met g c =
    (met-note c.args.self.now.shape c.args.hand.now.me c.join_note.new.hand.me c.see_no_further.new.hand.me c.args.note.me.0 c.join_note.ensures.1
    c.see_no_further.ensures.sees).0

pub returns-clause-heard : goal.returns-clause-heard
returns-clause-heard g c =
    (met-note c.args.self.now.shape c.args.hand.now.me c.join_note.new.hand.me c.see_no_further.new.hand.me c.args.note.me.0 c.join_note.ensures.1
    c.see_no_further.ensures.sees).1
