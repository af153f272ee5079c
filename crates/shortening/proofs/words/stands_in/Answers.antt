use Rattle.std.proofs.Common.{◌≡◌, ◌∙◌, ◌∷◌, ℕ, List, true, false, sym, subst}
use Rattle.shortening.specs.Words.{is_gap, BeginsWith, StandsIn}
use Rattle.shortening.proofs.WordLemmas.{stands-further, stands-later}
use Rattle.shortening.proofs.words.stands_in.Goals as goal
use Rattle.shortening.proofs.words.stands_in.Goals.{else-is_gap-via-then-is_gap+else-begins_with, else-is_gap-via-else-is_gap}

pub loop-byte-preserved : goal.loop-byte-preserved
loop-byte-preserved c =
    let word = c.args.word.now in
    let byte = c.in-Some.byte.now in
    let more = c.in-Some.more.now in
    let whole : c.loop-byte.rest.now ≡ byte ∷ more = c.in-Some.ensures.cases.0 in
    let not_here : is_gap byte ≡ true → BeginsWith word more → ⊥ = λ gap begins.
    elim c.else-is_gap.branch [
      | else-is_gap-via-then-is_gap+else-begins_with w ↦ let bad : true ≡ false = sym (w.begins_with.ensures.1 begins) ∙ w.if-begins_with.false in cc
      | else-is_gap-via-else-is_gap w ↦ let bad : true ≡ false = sym gap ∙ sym c.is_gap.ensures ∙ w.if-is_gap.false in cc
    ] in
    record {
      found = λ there. c.loop-byte.invariant.found (subst (λ (t : List ℕ). StandsIn word t) (sym whole) (stands-further word byte more there));
      left = λ there. stands-later word byte more not_here (subst (λ (t : List ℕ). StandsIn word t) whole (c.loop-byte.invariant.left there));
    }
