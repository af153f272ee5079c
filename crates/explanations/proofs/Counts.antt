-- Items that are counted.
use Rattle.std.proofs.Common.{◌≡◌, ◌∙◌, suc, List, [], ◌∷◌, length, refl, ap, Vec}
use Rattle.json.specs.Value.{value_view, items_view}
use Rattle.json.specs.declared.value.Value.{Value, Array}
use Rattle.json.proofs.Trees.{view-Array}
use Rattle.explanations.specs.Wanted.{items_count, item_count}

items_count_view : {A : Type 0} (values : List (Value A)) → items_count (items_view values) ≡ length values
items_count_view [] = refl
items_count_view (value ∷ more) = ap suc (items_count_view more)

-- a list has as many items as values
pub item_count_array : {A : Type 0} (value : Value A) (values : Vec (Value A) A) → value ≡ Array values → item_count (value_view value) ≡ length values.items
item_count_array value values is = ap (λ v. item_count (value_view v)) is ∙ ap item_count (view-Array values) ∙ items_count_view values.items
