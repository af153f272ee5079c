use Rattle.std.proofs.Common.{◌≡◌, ◌+◌, ◌<◌, ◌∷◌, ◌++◌, [], ℕ, List, true, below_more, sym, subst}
use Rattle.shortening.specs.Choices.{is_among}
use Rattle.shortening.proofs.ChoiceLemmas.{among-last, among-more}
use Rattle.shortening.proofs.choices.numbers_to.Goals as goal

pub loop-number-preserved : goal.loop-number-preserved
loop-number-preserved c =
    let numbers = c.loop-number.numbers.items in
    let last = c.loop-number.number in
    let before : (k : ℕ) → k < last → is_among (numbers ++ last ∷ []) k ≡ true = λ k within. among-more numbers last k (c.loop-number.invariant k within) in
    subst (λ (all : List ℕ). (k : ℕ) → k < last + 1 → is_among all k ≡ true) (sym c.in_ok-push.ensures.items)
    (below_more (λ k. is_among (numbers ++ last ∷ []) k ≡ true) last before (among-last numbers last))
