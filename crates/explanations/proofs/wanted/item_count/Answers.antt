use Rattle.std.proofs.Common.{◌∙◌, length, sym, ap}
use Rattle.explanations.proofs.Counts.{item_count_array}
use Rattle.explanations.proofs.wanted.item_count.Goals as goal

pub returns-in-Array : goal.returns-in-Array
returns-in-Array c =
    ap length c.as_slice.ensures.value ∙ sym (item_count_array c.args.value.now c.in-Array.items c.in-Array.is)
