use Rattle.std.proofs.Common.{◌∙◌, ◌<◌, ◌^◌, ◌++◌, ℕ, Bool, List, length, ap, sym, subst}
use Rattle.std.specs.List.{All, flat_map}
use Rattle.outcomes.specs.declared.outcome.Outcome.{Outcome}
use Rattle.outcomes.specs.Texts.{counts_line, outcome_text, outcomes_text}
use Rattle.outcomes.proofs.texts.outcomes_text.Goals as goal

pub write_each-requires : goal.write_each-requires
write_each-requires c =
    subst (λ (outcomes : List Outcome). All (λ (o : Outcome). length o.replies.items < 2 ^ 32) outcomes) (sym c.as_slice.ensures.value) c.requires

pub returns-then-count : goal.returns-then-count
returns-then-count c =
    let found = c.args.found.now in
    c.in_ok-write_counts.ensures ∙ ap (λ (t : List ℕ). t ++ counts_line found) c.new-text.ensures.items
    ∙ sym (ap (λ (b : Bool). outcomes_text b found) c.if-count.true)

pub returns : goal.returns
returns c =
    let found = c.args.found.now in
    c.in_ok-write_each.ensures
    ∙ ap (λ (t : List ℕ). t ++ flat_map outcome_text c.as_slice.result.now)
    (c.in_ok-write_counts.ensures ∙ ap (λ (t : List ℕ). t ++ counts_line found) c.new-text.ensures.items)
    ∙ ap (λ (outcomes : List Outcome). counts_line found ++ flat_map outcome_text outcomes) c.as_slice.ensures.value
    ∙ sym (ap (λ (b : Bool). outcomes_text b found) c.if-count.false)
