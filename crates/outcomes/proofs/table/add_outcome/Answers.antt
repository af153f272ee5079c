use Rattle.outcomes.proofs.StateLemmas.{told-joined, told-pushed}
use Rattle.outcomes.proofs.table.add_outcome.Goals as goal

pub returns-in_ok-join-in-Some : goal.returns-in_ok-join-in-Some
returns-in_ok-join-in-Some c =
    told-joined c.args.table.now.items _ _ c.in-Some.i c.index_mut.result.now c.args.one _ c.as_slice.ensures.value c.as_slice-2.ensures.value
    c.in-Some.ensures c.index_mut.ensures.value c.in_ok-join-in-Some.ensures

pub returns-in_ok-push-in-None : goal.returns-in_ok-push-in-None
returns-in_ok-push-in-None c =
    told-pushed c.args.table.now.items _ _ c.args.one _ c.as_slice.ensures.value c.as_slice-2.ensures.value c.in-None.ensures
    c.in_ok-push-in-None.ensures.items
