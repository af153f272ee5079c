-- What is counted, as far as a loop over the lines has come.
use Rattle.std.proofs.Common.{◌≡◌, ℕ, ◌+◌, ◌<◌, ◌≤◌, max, Bool, true, false, cond, nat_eq, List, [], ◌∷◌, length, get_or, drop, refl, sym, ap, ◌∙◌, arith}
use Rattle.std.proofs.lemmas.List.{at_drop_more}
use Rattle.keybits.specs.Words.{state_bits}
use Rattle.keybits.specs.declared.words.State.{State}
use Rattle.keybits.specs.declared.words.State.TheVariants as states
use Rattle.traceviews.specs.declared.line.Line.{Line}
use Rattle.traceviews.specs.Counts.{is_step, unfinished_after, unfinished_from, steps_after, longest_from}
use Rattle.traceviews.specs.Decoded.{state_with}

pub state-with : (s : State) → state_with (state_bits s) ≡ s
state-with states.Idle = refl
state-with states.Present = refl
state-with states.Retired = refl
state-with states.Marked = refl

pub unfinished-next : (lane : ℕ) (lines : List Line) (before whole : Bool) (i : ℕ) (d : Line) → i < length lines
    → unfinished_from before lane (drop i lines) ≡ whole
    → unfinished_from (unfinished_after before lane (get_or lines i d)) lane (drop (i + 1) lines) ≡ whole
unfinished-next lane lines before whole i d within so_far =
    sym (at_drop_more (unfinished_from before lane) lines i d within) ∙ so_far

-- so many steps at least
longest-above : (steps lane : ℕ) (lines : List Line) → steps ≤ longest_from steps lane lines
longest-above steps lane [] = omega arith
longest-above steps lane (line ∷ more) = omega arith

-- the loop has found so many, and the call has made so many
pub record IsLongestSoFar (lane steps most i : ℕ) (lines : List Line) : Type 0 where
  pub few : steps ≤ i
  pub found : steps ≤ most
  pub whole : max most (longest_from steps lane (drop i lines)) ≡ longest_from 0 lane lines

near : (own step : Bool) (steps : ℕ) → cond own (cond step (steps + 1) 0) steps ≤ steps + 1
near true true steps = omega arith
near true false steps = omega arith
near false step steps = omega arith

steps-near : (steps lane : ℕ) (line : Line) → steps_after steps lane line ≤ steps + 1
steps-near steps lane line = near (nat_eq line.lane lane) (is_step line.entry) steps

longest-whole : (steps most next more rest left all : ℕ) → left ≡ max steps rest → next ≤ rest → steps ≤ most → more ≡ max most next
    → max most left ≡ all → max more rest ≡ all
longest-whole steps most next more rest left all is behind found more-is whole = omega arith

pub longest-next : (lane steps most next i more : ℕ) (lines : List Line) (line : Line) → i < length lines → IsLongestSoFar lane steps most i lines
    → line ≡ get_or lines i line → next ≡ steps_after steps lane line → more ≡ max most next → IsLongestSoFar lane next more (i + 1) lines
longest-next lane steps most next i more lines line within so_far at is more-is =
    let behind : next ≤ longest_from next lane (drop (i + 1) lines) = longest-above next lane (drop (i + 1) lines) in
    let low : steps_after steps lane line ≤ steps + 1 = steps-near steps lane line in
    let reached : steps_after steps lane (get_or lines i line) ≡ next = ap (steps_after steps lane) (sym at) ∙ sym is in
    let here : longest_from steps lane (drop i lines) ≡ max steps (longest_from next lane (drop (i + 1) lines)) =
    at_drop_more (longest_from steps lane) lines i line within
    ∙ ap (λ (n : ℕ). max steps (longest_from n lane (drop (i + 1) lines))) reached in
    let few = so_far.few in
    record {
      few = omega arith;
      found = omega arith;
      whole = longest-whole steps most next more _ _ _ here behind so_far.found more-is so_far.whole;
    }
