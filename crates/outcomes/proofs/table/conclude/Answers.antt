use Rattle.outcomes.proofs.StateLemmas.{concluded}
use Rattle.outcomes.proofs.table.conclude.Goals as goal

pub returns : goal.returns
returns c = λ scripts size r ended shown.
    concluded c.args.shape.now scripts size c.args.state.now _ _ _ r ended shown c.in_ok-outcome.ensures c.in_ok-add_outcome.ensures
