use Rattle.std.proofs.Common.{◌≡◌, ◌∙◌, List, String, map, string_bytes, refl, subst}
use Rattle.std.proofs.lemmas.Iterator.{items_from_collect}
use Rattle.std.proofs.lemmas.Iterator.Adapters.{YieldsList-from_vec}
use Rattle.std.proofs.lemmas.Result.{IfOk-at_ok}
use Rattle.std.specs.Vec.Iter.{into_iter_items}
use Rattle.std.specs.declared.alloc.Global.{Global}
use Rattle.commandline.specs.Wishes.{IsCallOf}
use Rattle.commandline.proofs.reports.read_row.Goals as goal

pub returns : goal.returns
returns c =
    let args = c.args.args in
    let call = c.in_ok-call.call in
    let all : c.in_ok-words.words.items ≡ into_iter_items args =
    IfOk-at_ok _ c.in_ok-words.was (items_from_collect _ c.collect.ensures.ran (YieldsList-from_vec (into_iter_items args) refl args.rest.ok.0)) in
    subst (λ (row : List (String Global)). IsCallOf (map string_bytes row) call) (c.as_slice.ensures.value ∙ all) c.in_ok-call.ensures
