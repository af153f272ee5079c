use Rattle.std.proofs.Common.{◌≡◌, ◌+◌, ℕ, arith, refl}
use Rattle.keybits.specs.Steps.{claim_gives}
use Rattle.keybits.specs.Words.{generation_in}
use Rattle.traceviews.proofs.following.may_claim.Goals as goal

-- a claim of the next generation fails
fails : (last word : ℕ) → word ≡ claim_gives last (generation_in word + 1) word
fails last word = grind arith

pub returns-then-after-before : goal.returns-then-after-before
returns-then-after-before c =
    let failed : c.args.after ≡ claim_gives c.args.last (generation_in c.args.before + 1) c.args.before = grind (arith, fails c.args.last c.args.before, c.if-after-before.true) in
    ((λ _. (generation_in c.args.before + 1, failed)), (λ _. refl))
