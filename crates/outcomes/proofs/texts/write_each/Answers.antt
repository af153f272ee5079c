use Rattle.std.proofs.Common.{◌∙◌, ◌++◌, ◌∷◌, [], ◌<◌, ◌^◌, ℕ, List, length, take, sym, ap, subst}
use Rattle.std.proofs.lemmas.List.{take_more, flat_map_more}
use Rattle.std.specs.List.{flat_map}
use Rattle.outcomes.specs.declared.outcome.Outcome.{Outcome}
use Rattle.outcomes.specs.Texts.{outcome_text}
use Rattle.outcomes.proofs.texts.write_each.Goals as goal

pub write_outcome-requires : goal.write_outcome-requires
write_outcome-requires c =
    let outcome = c.outcome-item.result in
    subst (λ (o : Outcome). length o.replies.items < 2 ^ 32) (sym c.outcome-item.is)
    (c.requires c.loop-outcome.outcome-index outcome c.loop-outcome-test.true)

pub loop-outcome-preserved : goal.loop-outcome-preserved
loop-outcome-preserved c =
    let at = c.loop-outcome in
    let outcome = c.outcome-item.result in
    let before = take at.outcome-index c.args.outcomes.now in
    c.in_ok-write_outcome.ensures
    ∙ ap (λ (text : List ℕ). text ++ outcome_text outcome) at.invariant
    ∙ flat_map_more outcome_text c.args.text.now.items before outcome
    ∙ ap (λ (outcomes : List Outcome). c.args.text.now.items ++ flat_map outcome_text outcomes)
    (ap (λ (o : Outcome). before ++ o ∷ []) c.outcome-item.is ∙ sym (take_more c.args.outcomes.now at.outcome-index outcome c.loop-outcome-test.true))
