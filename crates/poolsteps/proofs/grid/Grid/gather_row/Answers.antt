use Rattle.std.proofs.Common.{ℕ, sym, subst}
use Rattle.poolsteps.specs.Returned.{NoneGiven}
use Rattle.poolsteps.proofs.grid.Grid.gather_row.Goals as goal

pub returns-clause-none_left : goal.returns-clause-none_left
returns-clause-none_left g c =
    subst (λ (l : ℕ). NoneGiven c.args.self.now.shape c.gather_row_as.new.hand.me.0.seen l c.args.row) (sym c.requires.lane.0) c.gather_row_as.ensures.gathers.1

pub returns-clause-gathers : goal.returns-clause-gathers
returns-clause-gathers g c = c.gather_row_as.ensures.gathers.0
