-- Each place so far was good, and so is this one.
use Rattle.std.proofs.Common.{rules, arith}
use Rattle.std.proofs.lemmas.Option.{slice_get_within}
use Rattle.explanations.proofs.Insides.{inside-more}
use Rattle.explanations.proofs.reasons.collect_outside.Goals as goal

pub loop-index-preserved : goal.loop-index-preserved
loop-index-preserved c = inside-more c.args.shape.now c.args.lane c.args.places.now c.loop-index.index c.loop-index.invariant
    (search rules) (search rules) (search rules)

pub returns-clause-none : goal.returns-clause-none
returns-clause-none c = λ none index place at.
    let within = slice_get_within c.args.places.now index place at in
    c.loop-index.invariant index place (omega (arith, within)) at
