use Rattle.std.proofs.Common.{◌≡◌, ◌≢◌, ◌∙◌, ◌∷◌, ◌++◌, ℕ, List, Option, sym, subst, ap, Bor}
use Rattle.std.specs.Prelude.{MatchOption}
use Rattle.std.proofs.lemmas.Bool.Decides.{Decides-eqb}
use Rattle.std.proofs.lemmas.Slice.Eq.{strip_prefix_is}
use Rattle.shortening.specs.Words.{is_gap}
use Rattle.shortening.proofs.WordLemmas.{begins-behind}
use Rattle.shortening.proofs.words.begins_with.Goals as goal

-- what the stripped text says of the word
abbrev Stripped : List ℕ → List ℕ → Option (Bor (List ℕ)) → Type 0
Stripped word text stripped = MatchOption stripped ((rest : List ℕ) → text ≢ word ++ rest) (λ behind. text ≡ word ++ behind.now)

pub returns-in_default : goal.returns-in_default
returns-in_default c =
    let word = c.args.word.now in
    let text = c.args.text.now in
    let none = subst (Stripped word text) c.in_default.is (strip_prefix_is Decides-eqb text word c.strip_prefix.result c.strip_prefix.ensures.cases) in
    (λ told. absurd (cc told), λ begins. absurd (none _ begins.is))

pub returns-in-Some-split_first : goal.returns-in-Some-split_first
returns-in-Some-split_first c =
    let word = c.args.word.now in
    let text = c.args.text.now in
    let behind = c.in-Some.behind.now in
    let byte = c.in-Some-split_first.byte.now in
    let first = c.in-Some-split_first.ensures.cases.0 in
    let is = subst (Stripped word text) c.in-Some.is (strip_prefix_is Decides-eqb text word c.strip_prefix.result c.strip_prefix.ensures.cases) in (
      λ told. record { gap = byte; is_one = sym c.is_gap.ensures ∙ told; rest = c.in-Some-split_first.field-0-1.now; is = is ∙ ap (λ (t : List ℕ). word ++ t) first },
      λ begins.
          let there = begins-behind word text behind is begins in
          let same : byte ∷ c.in-Some-split_first.field-0-1.now ≡ there.0 ∷ there.2 = sym first ∙ there.3 in
          let gap : byte ≡ there.0 = cc same in
          c.is_gap.ensures ∙ ap is_gap gap ∙ there.1,
    )
