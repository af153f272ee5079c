-- The state is as before, but for its rows.
use Rattle.std.proofs.Common.{◌≡◌, refl, ap, ◌∙◌}
use Rattle.std.proofs.lemmas.Option.{get_or_from_slice_get}
use Rattle.shardpool.specs.declared.pool.LaneState.{LaneState as Shown}
use Rattle.shardpool.proofs.returned_shares.take_rows.Goals as goal

pub returns-clause-left : goal.returns-clause-left
returns-clause-left g c = λ state at.
    let now = c.index_mut-state.result.now in
    let same : now ≡ state = c.index_mut-state.ensures.value ∙ get_or_from_slice_get c.args.states.now.items c.args.index state now at in
    (record now { rows = c.replace.new.dest }, ap (λ (x : Shown _). record x { rows = c.replace.new.dest }) same, refl)
