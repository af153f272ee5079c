-- What a script can answer, as JSON: its states, the turns that lead from one to another, and the outcomes.
use Rattle.std.specs.Prelude.{◌≡◌, ◌&&◌, ◌<◌, ℕ, suc, List, [], ◌∷◌, length, Bool, true, false, codes, nat_lt, nat_le, Option, Some, None, option_map, option_and_then, unwrap_or, is_some, IsUtf8}
use Rattle.std.specs.List.{list_all}
use Rattle.serde_json.specs.Data.{Data, Items, no_items, item}
use Rattle.serde_json.specs.Find.{get, as_number, as_str, as_array, as_u64}
use Rattle.serde_json.specs.Read.{read}
use Rattle.poolview.specs.declared.graphs.GraphFault.{GraphFault}
use Rattle.poolview.specs.declared.graphs.GraphFault.TheVariants as faults

-- the items of an array, as a list
abbrev pub list_of : Items → List Data
list_of no_items = []
list_of (item d more) = d ∷ list_of more

-- the items of this field, where it is an array
abbrev pub items_at : List ℕ → Data → Option (List Data)
items_at name d = option_map list_of (option_and_then as_array (get name d))

-- the whole number that it is
abbrev pub whole_of : Data → Option ℕ
whole_of d = option_and_then as_u64 (as_number d)

-- whether it is a whole number below this one
abbrev pub is_below : ℕ → Data → Bool
is_below end d = unwrap_or (option_map (λ n. nat_lt n end) (whole_of d)) false

-- whether it is a whole number above this one, and below that one
abbrev pub is_between : ℕ → ℕ → Data → Bool
is_between above end d = unwrap_or (option_map (λ n. nat_lt above n && nat_lt n end) (whole_of d)) false

-- whether it is a text
abbrev pub is_text : Data → Bool
is_text d = is_some (as_str d)

-- whether it has this field, which is such
abbrev pub has : (Data → Bool) → List ℕ → Data → Bool
has is name d = unwrap_or (option_map is (get name d)) false

-- whether it has this field, an array all of whose items are such
abbrev pub has_all : (Data → Bool) → List ℕ → Data → Bool
has_all is name d = unwrap_or (option_map (list_all is) (items_at name d)) false

-- how many items this field has
abbrev pub count_at : List ℕ → Data → ℕ
count_at name d = unwrap_or (option_map length (items_at name d)) 0

-- a turn from the state of this number: its lane, the state behind it, which is a later one, and its lines
abbrev pub is_turn : ℕ → ℕ → ℕ → Data → Bool
is_turn lanes states number d =
    has (is_below lanes) (codes "lane") d && (has (is_between number states) (codes "to") d && has_all is_text (codes "lines") d)

-- the state of this number: its turns, and which outcomes can still come
abbrev pub is_state : ℕ → ℕ → ℕ → ℕ → Data → Bool
is_state lanes states outcomes number d =
    has_all (is_turn lanes states number) (codes "turns") d && has_all (is_below outcomes) (codes "ends") d

-- the states from this number on
abbrev pub are_states : ℕ → ℕ → ℕ → ℕ → List Data → Bool
are_states lanes states outcomes number [] = true
are_states lanes states outcomes number (d ∷ more) =
    is_state lanes states outcomes number d && are_states lanes states outcomes (suc number) more

-- an outcome: how many schedules end so, and the lines of its replies
abbrev pub is_outcome : Data → Bool
is_outcome d = has is_text (codes "schedules") d && has_all is_text (codes "replies") d

-- how many lanes it tells
abbrev pub lanes_at : Data → Option ℕ
lanes_at d = option_and_then whole_of (get (codes "lanes") d)

-- the states of a graph of so many lanes, of which there is one at least
abbrev pub has_states : ℕ → Data → Bool
has_states lanes d = nat_lt 0 (count_at (codes "states") d) && unwrap_or (option_map
    (are_states lanes (count_at (codes "states") d) (count_at (codes "outcomes") d) 0) (items_at (codes "states") d)) false

-- a graph of so many lanes, 16 at most: the text of its script, its outcomes and its states
abbrev pub is_graph_of : Data → ℕ → Bool
is_graph_of d lanes =
    has is_text (codes "script") d && (nat_le 1 lanes && (nat_le lanes 16 && (has_all is_outcome (codes "outcomes") d && has_states lanes d)))

abbrev pub is_graph : Data → Bool
is_graph d = unwrap_or (option_map (is_graph_of d) (lanes_at d)) false

-- the bytes are a JSON text that is a graph
pub record AreGraph (bytes : List ℕ) : Type 0 where
  pub value : Data
  pub utf8 : IsUtf8 bytes
  pub json : read bytes ≡ Some value
  pub is : is_graph value ≡ true

-- the bytes are refused with this fault: they are no graph, or memory was refused
abbrev pub RefusesGraph : List ℕ → GraphFault → Type 0
RefusesGraph bytes faults.None = AreGraph bytes → ⊥
RefusesGraph bytes faults.Memory = Unit {0}
