-- The row that is looked at is the one of its index; where it has more references it stays as it was.
use Rattle.std.proofs.Common.{◌≡◌, ◌==◌, Bool, false, slice_set, sym, ap, ◌∙◌, ne_eqb}
use Rattle.std.proofs.lemmas.List.{set-get_or}
use Rattle.std.proofs.lemmas.Option.{get_or_from_slice_get}
use Rattle.poolsteps.specs.Held.{if_chosen, unless_chosen}
use Rattle.shardpool.specs.HeldKeys.{HeldKey as Row}
use Rattle.shardpool.proofs.release.take_last_share.Goals as goal

pub returns-clause-none : goal.returns-clause-none
returns-clause-none g c = λ row at more.
    let items = c.args.state.now.rows.items in
    let now = c.index_mut-row.result.now in
    let same : now ≡ row = c.index_mut-row.ensures.value ∙ get_or_from_slice_get items c.args.at row now at in
    let seen = c.tally.view_is ∙ (c.replace.ensures.value ∙ same) in
    let several : (c.tally.inside.tally.count == 1) ≡ false = ne_eqb c.tally.inside.tally.count 1 (λ one. more (sym (ap (λ (r : Row _). r.count) seen) ∙ one)) in
    let kept = c.deal-last.ensures.1 ∙ ap (λ (b : Bool). unless_chosen b c.tally.inside.share) several in
    let whole : record { generation = c.tally.inside.tally.generation; count = c.tally.inside.tally.count; share = c.deal-last.result.1 } ≡ row
    = (λ i. record { generation = c.tally.inside.tally.generation; count = c.tally.inside.tally.count; share = kept i }) ∙ seen in (
      c.deal-last.ensures.0 ∙ ap (λ (b : Bool). if_chosen b c.tally.inside.share) several,
      ap (λ (r : Row _). slice_set items c.args.at r) (whole ∙ sym (get_or_from_slice_get items c.args.at row row at)) ∙ set-get_or items c.args.at row,
    )
