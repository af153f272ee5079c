-- Pages that grow.
use Rattle.std.proofs.Common.{◌≡◌, ◌∙◌, ◌+◌, ◌<◌, ◌≤◌, ℕ, List, [], ◌∷◌, ◌++◌, length, get_or, take, drop, sym, ap, subst, append_assoc}
use Rattle.std.specs.List.{flat_map}
use Rattle.std.proofs.lemmas.List.{append-nil, at_drop_all, at_drop_more, take_more, flat_map_more}
use Rattle.traceviews.specs.Numbered.{numbered}
use Rattle.traceviews.specs.Pages.{Grows}
use Rattle.traceviews.specs.Turns.{turns_of, IsFirstTurn}
use Rattle.traceviews.specs.declared.line.Line.{Line}
use Rattle.traceviews.specs.declared.page.Page.{Page}

-- nothing was appended
pub grows_nothing : (page : Page) → Grows page page []
grows_nothing page = λ whole. (whole, sym (append-nil page.bytes.items))

-- a text, and another behind it
pub grows_more : (old mid new : Page) (first second text : List ℕ) → Grows old mid first → Grows mid new second → text ≡ first ++ second → Grows old new text
grows_more old mid new first second text one two is = λ whole.
    let last = two whole in
    let before = one last.0 in (
      before.0,
      last.1 ∙ ap (λ (xs : List ℕ). xs ++ second) before.1 ∙ append_assoc old.bytes.items first second ∙ ap (λ (xs : List ℕ). old.bytes.items ++ xs) (sym is),
    )

-- the texts of some values, and of one more
pub grows_next : {T : Type 0} (f : T → List ℕ) (xs : List T) (at : ℕ) (x : T) (other : T) (old mid new : Page) → Grows old mid (flat_map f (take at xs))
    → Grows mid new (f x) → x ≡ get_or xs at other → at < length xs → Grows old new (flat_map f (take (at + 1) xs))
grows_next f xs at x other old mid new before one is within = grows_more old mid new (flat_map f (take at xs)) (f x) _ before one
    (ap (flat_map f) (take_more xs at other within) ∙ ap (λ y. flat_map f (take at xs ++ y ∷ [])) (sym is) ∙ sym (flat_map_more f [] (take at xs) x))

-- the texts of counted values from one on, by its own and those behind it
pub numbered_next : {T : Type 0} (f : ℕ → T → List ℕ) (xs : List T) (at number : ℕ) (other : T) (old mid new : Page) → at < length xs
    → Grows old mid (f number (get_or xs at other)) → Grows mid new (numbered f (number + 1) (drop (at + 1) xs)) → Grows old new (numbered f number (drop at xs))
numbered_next f xs at number other old mid new within one rest = grows_more old mid new (f number (get_or xs at other)) (numbered f (number + 1) (drop (at + 1) xs)) _ one rest
    (at_drop_more (numbered f number) xs at other within)

-- behind all of them there is none
pub numbered_all : {T : Type 0} (f : ℕ → T → List ℕ) (xs : List T) (at number : ℕ) (page : Page) → length xs ≤ at → Grows page page (numbered f number (drop at xs))
numbered_all f xs at number page all = subst (Grows page page) (sym (at_drop_all (numbered f number) xs at all)) (grows_nothing page)

-- the texts of the turns of some lines, by that of the first
pub turns_next : (f : ℕ → List Line → List ℕ) (number : ℕ) (lines turn behind : List Line) (old mid new : Page) → IsFirstTurn lines turn behind
    → Grows old mid (f number turn) → Grows mid new (numbered f (number + 1) (turns_of behind)) → Grows old new (numbered f number (turns_of lines))
turns_next f number lines turn behind old mid new first one rest =
    grows_more old mid new (f number turn) (numbered f (number + 1) (turns_of behind)) _ one rest (ap (numbered f number) first.turns)

-- no lines have no turns
pub turns_all : (f : ℕ → List Line → List ℕ) (number : ℕ) (lines : List Line) (page : Page) → lines ≡ [] → Grows page page (numbered f number (turns_of lines))
turns_all f number lines page none = subst (Grows page page) (ap (λ (xs : List Line). numbered f number (turns_of xs)) (sym none)) (grows_nothing page)
