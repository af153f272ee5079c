use Rattle.std.proofs.Common.{◌≡◌, ◌∙◌, ◌+◌, ◌<◌, ℕ, subst, arith, length-set}
use Rattle.poolsteps.specs.declared.find.TheConstants.{LIVES_START}
use Rattle.poolsteps.specs.Layout.{slot_row}
use Rattle.poolsteps.proofs.FirstWords.{AreFirstTo, first-more, first-all}
use Rattle.poolsteps.proofs.layout.first_words.Goals as goal

pub loop-start-preserved : goal.loop-start-preserved
loop-start-preserved c =
    let before = c.loop-start in
    let z = c.args.shape.now in
    let low : before.start < slot_row z = omega arith in
    record {
      count = length-set before.words.items (LIVES_START + before.start) c.word.result ∙ before.invariant.count;
      first = rw c.word.ensures (first-more z before.words.items before.invariant.count before.start low before.invariant.first);
    }

pub returns-clause-first : goal.returns-clause-first
returns-clause-first c =
    let z = c.args.shape.now in
    let last = c.loop-start in
    let end : last.start ≡ slot_row z = omega arith in
    first-all z last.words.items (subst (λ (n : ℕ). AreFirstTo z n last.words.items) end last.invariant.first)
