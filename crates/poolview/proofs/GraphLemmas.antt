-- Values of JSON beside the data that they stand for.
use Rattle.std.proofs.Common.{◌≡◌, ◌∙◌, ◌+◌, ◌<◌, ◌≤◌, ◌&&◌, ℕ, suc, List, [], ◌∷◌, length, get_or, map, drop, Bool, true, false, Some, refl, sym, ap, drop-cons, arith}
use Rattle.std.specs.List.{list_all}
use Rattle.std.proofs.Math.ListN.{drop_of_length-le}
use Rattle.std.proofs.lemmas.List.Folds.{list_all-map}
use Rattle.serde_json.specs.Data.{Data}
use Rattle.serde_json.specs.View.{view, items_view}
use Rattle.serde_json.specs.declared.value.Value.{Value}
use Rattle.poolview.specs.Graphs.{list_of, is_state, are_states}

-- the items of an array are the data of its values
pub list_of-items_view : (vs : List Value) → list_of (items_view vs) ≡ map view vs
list_of-items_view [] = refl
list_of-items_view (v ∷ vs) = ap (λ ds. view v ∷ ds) (list_of-items_view vs)

-- the state of a number is the first of those from there on
next-state : (lanes states outcomes i : ℕ) (v : Value) (vs : List Value) → i < length vs → v ≡ get_or vs i v
    → are_states lanes states outcomes i (map view (drop i vs))
    ≡ (is_state lanes states outcomes i (view v) && are_states lanes states outcomes (i + 1) (map view (drop (i + 1) vs)))
next-state lanes states outcomes i v vs low at =
    let one : suc i ≡ i + 1 = omega arith in
    let here : drop i vs ≡ v ∷ drop (i + 1) vs =
    drop-cons vs i v low ∙ ap (λ (k : ℕ). get_or vs i v ∷ drop k vs) one ∙ ap (λ (w : Value). w ∷ drop (i + 1) vs) (sym at) in
    ap (λ (l : List Value). are_states lanes states outcomes i (map view l)) here
    ∙ ap (λ (k : ℕ). is_state lanes states outcomes i (view v) && are_states lanes states outcomes k (map view (drop (i + 1) vs))) one

-- what the states from a number on are, all are
abbrev pub AreUpTo : ℕ → ℕ → ℕ → ℕ → List Value → Type 0
AreUpTo lanes states outcomes i vs = are_states lanes states outcomes i (map view (drop i vs)) ≡ are_states lanes states outcomes 0 (map view vs)

pub one-more : (lanes states outcomes i : ℕ) (v : Value) (vs : List Value) → i < length vs → v ≡ get_or vs i v → AreUpTo lanes states outcomes i vs
    → is_state lanes states outcomes i (view v) ≡ true → AreUpTo lanes states outcomes (i + 1) vs
one-more lanes states outcomes i v vs low at so_far is =
    sym (next-state lanes states outcomes i v vs low at ∙ ap (λ (b : Bool). b && are_states lanes states outcomes (i + 1) (map view (drop (i + 1) vs))) is) ∙ so_far

pub not-all : (lanes states outcomes i : ℕ) (v : Value) (vs : List Value) → i < length vs → v ≡ get_or vs i v → AreUpTo lanes states outcomes i vs
    → is_state lanes states outcomes i (view v) ≡ false → false ≡ are_states lanes states outcomes 0 (map view vs)
not-all lanes states outcomes i v vs low at so_far is =
    sym (next-state lanes states outcomes i v vs low at ∙ ap (λ (b : Bool). b && are_states lanes states outcomes (i + 1) (map view (drop (i + 1) vs))) is) ∙ so_far

pub all-are : (lanes states outcomes i : ℕ) (vs : List Value) → length vs ≤ i → AreUpTo lanes states outcomes i vs
    → true ≡ are_states lanes states outcomes 0 (map view vs)
all-are lanes states outcomes i vs all so_far =
    sym (ap (λ (l : List Value). are_states lanes states outcomes i (map view l)) (drop_of_length-le vs all)) ∙ so_far
