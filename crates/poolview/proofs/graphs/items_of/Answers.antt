use Rattle.std.proofs.Common.{◌≡◌, ◌∙◌, Option, Some, rules, ap, sym}
use Rattle.std.specs.Prelude.{option_map, List}
use Rattle.serde_json.specs.Data.{Data, Items}
use Rattle.serde_json.specs.View.{view, items_view}
use Rattle.serde_json.specs.Find.{as_array}
use Rattle.poolview.specs.Graphs.{list_of}
use Rattle.poolview.proofs.GraphLemmas.{list_of-items_view}
use Rattle.poolview.proofs.graphs.items_of.Goals as goal

pub returns-in-Some : goal.returns-in-Some
returns-in-Some c =
    let d = view c.args.value.now in
    let array : Some (items_view c.as_slice.result.now) ≡ as_array d = search rules in
    sym (ap (λ (o : Option Items). option_map list_of o) (sym array) ∙ ap (λ (l : List Data). Some l) (list_of-items_view c.as_slice.result.now))
