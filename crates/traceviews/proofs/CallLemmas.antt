-- The slices of a lane's calls, turn by turn.
use Rattle.std.proofs.Common.{◌≡◌, ◌∙◌, ◌+◌, ℕ, List, [], ◌++◌, Option, sym, ap, subst}
use Rattle.traceviews.specs.Calls.{call_at, begun_behind, calls_from, open_call}
use Rattle.traceviews.specs.Pages.{Grows}
use Rattle.traceviews.specs.Turns.{turns_of, IsFirstTurn}
use Rattle.traceviews.specs.declared.line.Line.{Line}
use Rattle.traceviews.specs.declared.page.Page.{Page}
use Rattle.traceviews.proofs.PageLemmas.{grows_more}

-- the calls in the turns of some lines, by that of the first turn and those behind it
pub calls_next : (lane : ℕ) (begun then : Option ℕ) (number : ℕ) (lines turn behind : List Line) (old mid new : Page) → IsFirstTurn lines turn behind
    → Grows old mid (call_at lane begun number turn) → then ≡ begun_behind lane begun number turn
    → Grows mid new (calls_from lane then (number + 1) (turns_of behind)) → Grows old new (calls_from lane begun number (turns_of lines))
calls_next lane begun then number lines turn behind old mid new first one is rest =
    grows_more old mid new (call_at lane begun number turn) (calls_from lane (begun_behind lane begun number turn) (number + 1) (turns_of behind)) _ one
    (subst (λ (it : Option ℕ). Grows mid new (calls_from lane it (number + 1) (turns_of behind))) is rest)
    (ap (calls_from lane begun number) first.turns)

-- behind the last line there is the call that is under way
pub calls_all : (lane : ℕ) (begun : Option ℕ) (number : ℕ) (lines : List Line) (old new : Page) → lines ≡ []
    → Grows old new (open_call lane begun number) → Grows old new (calls_from lane begun number (turns_of lines))
calls_all lane begun number lines old new none last =
    subst (Grows old new) (ap (λ (xs : List Line). calls_from lane begun number (turns_of xs)) (sym none)) last
