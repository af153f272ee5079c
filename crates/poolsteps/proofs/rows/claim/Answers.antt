-- The right in the row is that to the place.
use Rattle.std.proofs.Common.{Some, sym, ap, ◌∙◌}
use Rattle.std.proofs.lemmas.Option.{slice_get-get_or}
use Rattle.poolsteps.proofs.rows.claim.Goals as goal

pub right_in-requires : goal.right_in-requires
right_in-requires g c =
    c.requires.own c.replace-own.result
    (slice_get-get_or c.args.row.now.items c.args.index c.index_mut.result.now c.requires.index ∙ ap Some (sym c.index_mut.ensures.value ∙ sym c.replace-own.ensures.value))

pub returns-clause-none : goal.returns-clause-none
returns-clause-none g c = λ none.
    slice_get-get_or c.args.row.now.items c.args.index c.index_mut.result.now c.requires.index
    ∙ ap Some (sym c.index_mut.ensures.value ∙ (sym c.replace-own.ensures.value ∙ c.right_in.ensures.none none))
