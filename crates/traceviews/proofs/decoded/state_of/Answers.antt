use Rattle.std.proofs.Common.{◌∙◌, sym, ap}
use Rattle.traceviews.specs.Decoded.{state_with}
use Rattle.traceviews.proofs.CountLemmas.{state-with}
use Rattle.traceviews.proofs.decoded.state_of.Goals as goal

pub returns : goal.returns
returns c = sym (state-with _) ∙ ap state_with c.of_word.ensures.state
