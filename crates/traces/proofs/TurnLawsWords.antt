-- What each step of a lawful trace finds in its word.
use Rattle.std.proofs.Common.{◌≡◌, ◌≢◌, inl, inr, ℕ, List, [], ◌∷◌, ◌++◌, Option, Some, None, refl, ap, sym, ◌∙◌, subst}
use mathlib.Core.Logic.{dite}
use native.Mathlib.Decide.{ℕ_discrete}
use Rattle.keybits.specs.declared.shape.Shape.{Shape}
use Rattle.keybits.specs.declared.step.Step.{Step}
use Rattle.keybits.specs.declared.step.Word.{Word}
use Rattle.keybits.specs.declared.step.Word.TheVariants.{Life, Link, Stack}
use Rattle.seqpool.specs.declared.act.Act.{Act}
use Rattle.steplaws.specs.Facts.{Words, value_of, with_value}
use Rattle.steplaws.proofs.Updates.{at-here, at-else, two-here, two-row, two-else}
use Rattle.traces.specs.declared.reply.Reply.{Reply}
use Rattle.traces.specs.declared.trace.Turn.{Turn}
use Rattle.traces.specs.Books.{Book}
use Rattle.traces.specs.Lawful.{World, first_world, first_words, words_after, world_after, book_before, StepAndReplies, AreTurns}
use Rattle.traces.specs.TurnLaws.{step_list, all_steps, AreElsewhere, FirstStepLaw, NextStepLaw}

-- a word after it was changed, and another one
pub value-here : (words : Words) (word : Word) (value : ℕ) → value_of (with_value words word value) word ≡ value
value-here words (Life place) value = at-here words.life place value place refl
value-here words (Link place) value = at-here words.link place value place refl
value-here words (Stack shard lane) value = two-here words.stack shard lane value shard lane refl refl

pub value-else : (words : Words) (at word : Word) (value : ℕ) → at ≢ word → value_of (with_value words at value) word ≡ value_of words word
value-else words (Life p) (Life q) value n = at-else words.life p value q (λ e. n (ap (λ (x : ℕ). Life x) (sym e)))
value-else words (Life p) (Link q) value n = refl
value-else words (Life p) (Stack t m) value n = refl
value-else words (Link p) (Life q) value n = refl
value-else words (Link p) (Link q) value n = at-else words.link p value q (λ e. n (ap (λ (x : ℕ). Link x) (sym e)))
value-else words (Link p) (Stack t m) value n = refl
value-else words (Stack s l) (Life q) value n = refl
value-else words (Stack s l) (Link q) value n = refl
value-else words (Stack s l) (Stack t m) value n = dite (ℕ_discrete t s)
    (λ e. two-else words.stack s l value t m (λ d. n (λ i. Stack (sym e i) (sym d i))))
    (λ ne. two-row words.stack s l value t m ne)

-- each of these steps finds what the words are before it
Finds : Words → List Step → Type 0
Finds words [] = Unit {0}
Finds words (step ∷ more) = (step.before ≡ value_of words step.word) × Finds (with_value words step.word step.after) more

module _ (z : Shape) where
  found_step : (w : World) (lane : ℕ) (b : Book) (step : Option Step) (act : Option Act) (after : List Reply) (more : List Step)
      → StepAndReplies z w lane b step act after → Finds (words_after w.words step) more → Finds w.words (step_list step ++ more)
  unfolding Finds
  found_step w lane b None act after more h rest = rest
  found_step w lane b (Some step) act after more h rest = (h.0.before, rest)

  finds : (w : World) (schedule : List ℕ) (trace : List Turn) → AreTurns z w schedule trace → Finds w.words (all_steps trace)
  unfolding Finds
  finds w [] [] a = tt
  finds w [] (t ∷ ts) a = absurd a
  finds w (x ∷ xs) [] a = tt
  finds w (x ∷ xs) (t ∷ ts) (inl a) = finds w xs (t ∷ ts) a.1
  finds w (x ∷ xs) (t ∷ ts) (inr a) =
      found_step w t.lane (book_before z w t) t.step t.act t.after (all_steps ts) a.1.step (finds (world_after z w t) xs ts a.2)

-- where no step before it is on its word, a step finds what that was
first_on : (words : Words) (before more : List Step) (step : Step) → Finds words (before ++ step ∷ more) → AreElsewhere step.word before
    → step.before ≡ value_of words step.word
unfolding Finds
first_on words [] more step h apart = h.0
first_on words (s ∷ before) more step h apart =
    first_on (with_value words s.word s.after) before more step h.1 apart.1 ∙ value-else words s.word step.word s.after apart.0

-- the steps from one on find what the words are by then
from_there : (words : Words) (before rest : List Step) → Finds words (before ++ rest) → (later : Words) × Finds later rest
unfolding Finds
from_there words [] rest h = (words, h)
from_there words (s ∷ before) rest h = from_there (with_value words s.word s.after) before rest h.1

next_on : (words : Words) (between more : List Step) (last step : Step) → Finds words (last ∷ (between ++ step ∷ more))
    → last.word ≡ step.word → AreElsewhere step.word between → step.before ≡ last.after
unfolding Finds
next_on words between more last step h same apart =
    first_on (with_value words last.word last.after) between more step h.1 apart
    ∙ (ap (value_of (with_value words last.word last.after)) (sym same) ∙ value-here words last.word last.after)

pub first-step-law : FirstStepLaw
first-step-law z scripts schedule trace lawful before more step is apart =
    first_on first_words before more step (subst (Finds first_words) is (finds z (first_world scripts) schedule trace lawful.turns)) apart

pub next-step-law : NextStepLaw
next-step-law z scripts schedule trace lawful before between more last step is same apart =
    let r = from_there first_words before (last ∷ (between ++ step ∷ more)) (subst (Finds first_words) is (finds z (first_world scripts) schedule trace lawful.turns)) in
    next_on r.0 between more last step r.1 same apart
