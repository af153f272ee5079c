use Rattle.std.proofs.Common.{◌≡◌, Some, sym, rules}
use Rattle.serde_json.specs.View.{view, items_view}
use Rattle.serde_json.specs.Find.{as_array}
use Rattle.scripts.proofs.Values.{items_of_is}
use Rattle.scripts.proofs.fields.items.Goals as goal

pub returns-in-Some : goal.returns-in-Some
returns-in-Some c =
    let d = view c.args.value.now in
    let array : Some (items_view c.as_slice.result.now) ≡ as_array d = search rules in
    sym (items_of_is c.args.place d c.as_slice.result.now array)
