use Rattle.std.proofs.Common.{◌≡◌, ◌∙◌, ◌++◌, ◌∷◌, [], ℕ, sym, ap, subst}
use Rattle.outcomes.specs.Numbers.{AreDigits, number_of, IsTrimmed}
use Rattle.outcomes.proofs.DigitLemmas.{above-zero, front-digits, number-last, trimmed-last}
use Rattle.outcomes.proofs.digits.trimmed.Goals as goal

pub returns-then-highest-ne0-clause-trimmed : goal.returns-then-highest-ne0-clause-trimmed
returns-then-highest-ne0-clause-trimmed c =
    let more = c.in-Some.more.now in
    let highest = c.in-Some.highest.now in
    subst IsTrimmed (sym c.in-Some.ensures.cases.0) (trimmed-last more highest (above-zero highest c.if-highest-ne0.true))

pub loop-highest-preserved : goal.loop-highest-preserved
loop-highest-preserved c =
    let more = c.in-Some.more.now in
    let highest = c.in-Some.highest.now in
    let whole : c.loop-highest.rest.now ≡ more ++ highest ∷ [] = c.in-Some.ensures.cases.0 in
    let none : highest ≡ 0 = c.if-highest-ne0.false in
    record {
      digits = front-digits more highest (subst AreDigits whole c.loop-highest.invariant.digits);
      number = sym (number-last more) ∙ ap (λ (h : ℕ). number_of (more ++ h ∷ [])) (sym none) ∙ ap number_of (sym whole)
          ∙ c.loop-highest.invariant.number;
    }
