use Rattle.std.proofs.Common.{◌≡◌, ◌∙◌, List, Option, Some, false, codes, map, rules, ap, sym}
use Rattle.std.specs.Prelude.{option_map, unwrap_or}
use Rattle.std.specs.List.{list_all}
use Rattle.std.proofs.lemmas.List.Folds.{list_all-map}
use Rattle.serde_json.specs.Data.{Data}
use Rattle.serde_json.specs.View.{view}
use Rattle.poolview.specs.Graphs.{items_at, is_text, is_below, is_turn, is_outcome}
use Rattle.poolview.proofs.graphs.has_ends.Goals as goal

pub returns-in-Some : goal.returns-in-Some
returns-in-Some c =
    let items : Some (map view c.in-Some.items.now) ≡ items_at (codes "ends") (view c.args.value.now) = search rules in
    let is = is_below c.args.end in
    let told : c.are_below.result ≡ list_all (λ v. is (view v)) c.in-Some.items.now = search rules in
    told ∙ sym (list_all-map is view c.in-Some.items.now) ∙ ap (λ (o : Option (List Data)). unwrap_or (option_map (list_all is) o) false) items
