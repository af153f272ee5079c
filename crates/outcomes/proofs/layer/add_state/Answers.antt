use Rattle.outcomes.proofs.StateLemmas.{added-to-found, added-pushed}
use Rattle.outcomes.proofs.layer.add_state.Goals as goal

pub returns-in_ok-join-in-Some : goal.returns-in_ok-join-in-Some
returns-in_ok-join-in-Some c = λ scripts size are is.
    added-to-found c.args.shape.now scripts size c.args.layer.now.items _ c.in-Some.i c.index_mut.result.now c.args.one _ c.as_slice.ensures.value
    c.in-Some.ensures c.index_mut.ensures.value c.in_ok-join-in-Some.ensures are is

pub returns-in_ok-push-in-None : goal.returns-in_ok-push-in-None
returns-in_ok-push-in-None c = λ scripts size are is.
    added-pushed c.args.shape.now scripts size c.args.layer.now.items c.args.one _ c.in_ok-push-in-None.ensures.items are is
