-- Words that have the same values where steps were made have the same values everywhere.
use Rattle.std.proofs.Common.{◌≡◌, ◌≢◌, ◌⊎◌, inl, inr, ℕ, List, [], ◌∷◌, ◌++◌, Option, Some, None, refl, ap, sym, ◌∙◌, subst}
use mathlib.Core.Path.{fun_ext}
use mathlib.Core.Logic.{dite}
use native.Mathlib.Decide.{ℕ_discrete}
use Rattle.keybits.specs.declared.step.Step.{Step}
use Rattle.keybits.specs.declared.step.Word.{Word}
use Rattle.keybits.specs.declared.step.Word.TheVariants.{Life, Link, Stack}
use Rattle.steplaws.specs.Facts.{Words, value_of, with_value}
use Rattle.traces.specs.declared.trace.Turn.{Turn}
use Rattle.traces.specs.Lawful.{first_words, words_after}
use Rattle.traces.specs.TurnLaws.{step_list, all_steps, AreElsewhere}
use Rattle.traces.proofs.TurnLawsWords.{value-else}
use Rattle.standings.specs.Behind.{words_behind, AgreeAt, AgreeOn}

-- two words are the same or not
one_word : (v w : Word) → (v ≡ w) ⊎ (v ≢ w)
one_word (Life p) (Life q) = dite (ℕ_discrete p q) (λ e. inl (ap (λ (n : ℕ). Life n) e)) (λ n. inr (λ e. n (cc e)))
one_word (Life p) (Link q) = inr (λ e. cc e)
one_word (Life p) (Stack t m) = inr (λ e. cc e)
one_word (Link p) (Life q) = inr (λ e. cc e)
one_word (Link p) (Link q) = dite (ℕ_discrete p q) (λ e. inl (ap (λ (n : ℕ). Link n) e)) (λ n. inr (λ e. n (cc e)))
one_word (Link p) (Stack t m) = inr (λ e. cc e)
one_word (Stack s l) (Life q) = inr (λ e. cc e)
one_word (Stack s l) (Link q) = inr (λ e. cc e)
one_word (Stack s l) (Stack t m) =
    dite (ℕ_discrete s t)
    (λ e. dite (ℕ_discrete l m) (λ d. inl (λ i. Stack (e i) (d i))) (λ n. inr (λ d. n (cc d))))
    (λ n. inr (λ e. n (cc e)))

-- the word is that of one of the steps, where both agree, or of none of them
agreed : (ws vs : Words) (word : Word) (steps : List Step) → AgreeOn ws vs steps → (value_of ws word ≡ value_of vs word) ⊎ AreElsewhere word steps
agreed ws vs word [] agree = inr tt
agreed ws vs word (step ∷ more) agree = here (one_word step.word word) (agreed ws vs word more agree.1)
  where
    here : (step.word ≡ word) ⊎ (step.word ≢ word) → (value_of ws word ≡ value_of vs word) ⊎ AreElsewhere word more
        → (value_of ws word ≡ value_of vs word) ⊎ AreElsewhere word (step ∷ more)
    here (inl e) rest = inl (subst (λ (w : Word). value_of ws w ≡ value_of vs w) e agree.0)
    here (inr n) (inl e) = inl e
    here (inr n) (inr other) = inr (n, other)

-- a word on which no step was made keeps its value
untouched : (word : Word) (turns : List Turn) (ws : Words) → AreElsewhere word (all_steps turns) → value_of (words_behind ws turns) word ≡ value_of ws word
untouched word [] ws other = refl
untouched word (t ∷ turns) ws other = past t.step (untouched word turns) other
  where
    past : (step : Option Step)
        → ((vs : Words) → AreElsewhere word (all_steps turns) → value_of (words_behind vs turns) word ≡ value_of vs word)
        → AreElsewhere word (step_list step ++ all_steps turns)
        → value_of (words_behind (words_after ws step) turns) word ≡ value_of ws word
    past None more other = more ws other
    past (Some step) more other =
        more (with_value ws step.word step.after) other.1 ∙ value-else ws step.word word step.after other.0

module _ (turns others : List Turn) where
  abbrev ours : Words
  ours = words_behind first_words turns

  abbrev theirs : Words
  theirs = words_behind first_words others

  same_value : AgreeOn ours theirs (all_steps turns) → AgreeOn ours theirs (all_steps others) → (word : Word) → value_of ours word ≡ value_of theirs word
  same_value a b word = both (agreed ours theirs word (all_steps turns) a) (agreed ours theirs word (all_steps others) b)
    where
      both : (value_of ours word ≡ value_of theirs word) ⊎ AreElsewhere word (all_steps turns)
          → (value_of ours word ≡ value_of theirs word) ⊎ AreElsewhere word (all_steps others) → value_of ours word ≡ value_of theirs word
      both (inl e) d = e
      both (inr other) (inl e) = e
      both (inr other) (inr more) = untouched word turns first_words other ∙ sym (untouched word others first_words more)

-- steps change no word of a row
with_value-bits : (ws : Words) (word : Word) (value : ℕ) → (with_value ws word value).bits ≡ ws.bits
with_value-bits ws (Life place) value = refl
with_value-bits ws (Link place) value = refl
with_value-bits ws (Stack shard lane) value = refl

bits_stay : (turns : List Turn) (ws : Words) → (words_behind ws turns).bits ≡ ws.bits
bits_stay [] ws = refl
bits_stay (t ∷ turns) ws = past t.step (bits_stay turns)
  where
    past : (step : Option Step) → ((vs : Words) → (words_behind vs turns).bits ≡ vs.bits)
        → (words_behind (words_after ws step) turns).bits ≡ ws.bits
    past None more = more ws
    past (Some step) more = more (with_value ws step.word step.after) ∙ with_value-bits ws step.word step.after

pub one_words : (turns others : List Turn)
    → AgreeOn (words_behind first_words turns) (words_behind first_words others) (all_steps turns)
    → AgreeOn (words_behind first_words turns) (words_behind first_words others) (all_steps others)
    → words_behind first_words turns ≡ words_behind first_words others
one_words turns others a b =
    let same = same_value turns others a b in
    let life = fun_ext (λ place. same (Life place)) in
    let link = fun_ext (λ place. same (Link place)) in
    let stack = fun_ext (λ shard. fun_ext (λ lane. same (Stack shard lane))) in
    let bits = bits_stay turns first_words ∙ sym (bits_stay others first_words) in
    λ i. record { life = life i; link = link i; stack = stack i; bits = bits i }

-- the words of a turn's step, and of more steps
pub agree_more : (ws vs : Words) (step : Option Step) (more : List Step) → AgreeAt ws vs step → AgreeOn ws vs more → AgreeOn ws vs (step_list step ++ more)
agree_more ws vs None more a b = b
agree_more ws vs (Some step) more a b = (a, b)
