use Rattle.std.proofs.Common.{rules, ◌≡◌, ◌<◌, List, ℕ, subst}
use Rattle.seqpool.specs.declared.act.Act.{Act}
use Rattle.seqpool.specs.declared.act.Act.TheVariants.{Collect}
use Rattle.explanations.specs.Reasons.{IsInside, AreInside}
use Rattle.explanations.proofs.reasons.outside_of.Goals as goal

pub returns-in-Collect-clause-none : goal.returns-in-Collect-clause-none
returns-in-Collect-clause-none c = λ none.
    let is : Collect c.in-Collect.lane c.in-Collect.places ≡ c.args.act.now = search rules in
    let below : c.in-Collect.lane < c.args.shape.now.lanes = search rules in
    subst (λ (act : Act). IsInside c.args.shape.now act) is
    (below, subst (λ (places : List ℕ). AreInside c.args.shape.now c.in-Collect.lane places) c.as_slice.ensures (c.collect_outside.ensures.none none))
