use Rattle.std.proofs.Common.{◌≡◌, ◌∙◌, ◌+◌, ◌++◌, ◌∷◌, [], ℕ, List, append_assoc, sym, ap, subst}
use Rattle.outcomes.specs.Numbers.{AreDigits, digits_told}
use Rattle.outcomes.proofs.DigitLemmas.{front-digits, told-last}
use Rattle.outcomes.proofs.digits.write_digits.Goals as goal

pub loop-highest-preserved : goal.loop-highest-preserved
loop-highest-preserved c =
    let text = c.loop-highest.text.items in
    let more = c.in-Some.more.now in
    let highest = c.in-Some.highest.now in
    let whole : c.loop-highest.rest.now ≡ more ++ highest ∷ [] = c.in-Some.ensures.cases.0 in
    record {
      digits = front-digits more highest (subst AreDigits whole c.loop-highest.invariant.digits);
      told = ap (λ (t : List ℕ). t ++ digits_told more) c.in_ok-push.ensures.items
          ∙ append_assoc text ((48 + highest) ∷ []) (digits_told more)
          ∙ ap (λ (t : List ℕ). text ++ t) (sym (told-last more highest))
          ∙ ap (λ (r : List ℕ). text ++ digits_told r) (sym whole)
          ∙ c.loop-highest.invariant.told;
    }
