use Rattle.std.proofs.Common.{◌≡◌, ◌∙◌, ◌&&◌, ℕ, List, Bool, true, false, string_bytes, ap, sym, subst}
use Rattle.traces.specs.declared.script.Command.{Command}
use Rattle.shortening.specs.Choices.{chosen_scripts}
use Rattle.shortening.specs.Parts.{without}
use Rattle.shortening.specs.Replays.{Shows, Lacks}
use Rattle.shortening.proofs.PlanLemmas.{both-hold, one-holds, other-holds}
use Rattle.shortening.proofs.plans.shorten_plan.Goals as goal

pub returns-clause-ok : goal.returns-clause-ok
returns-clause-ok g c =
    let sought = c.args.sought.now in
    let z = sought.shape in
    let decoded = sought.decoded in
    let word = string_bytes sought.word in
    let first = c.in_ok-short.field-0 in
    let kept = c.in_ok-kept.kept in
    let last = c.in_ok-last.last in
    let found = c.in_ok-last.ensures.ok in
    let numbers = kept.short.schedule.items in
    let scripts = c.in_ok-scripts.scripts.items in
    let both = c.are_both-least.ensures in record {
      numbers = numbers;
      chosen = c.in_ok-scripts.ensures.chosen ∙ ap (λ (ns : List ℕ). chosen_scripts ns 0 c.as_slice-3.result.now) c.as_slice-numbers.ensures.value
          ∙ ap (chosen_scripts numbers 0) c.as_slice-3.ensures.value;
      over = first.short.schedule.items;
      over_part = c.in_ok-short.ensures.ok.shortened.part;
      part = found.shortened.part;
      shown = subst (λ (s : List (List Command)). Shows z s decoded word last.short.schedule.items) c.as_slice-4.ensures.value found.shortened.passed;
      least_entries = λ least at within.
          subst (λ (s : List (List Command)). Lacks z s decoded word (without at 1 last.short.schedule.items)) c.as_slice-4.ensures.value
          ((found.shortened.least (other-holds kept.short.least last.short.least (sym both ∙ least))).least at within);
      least_commands = λ least at within.
          subst (λ (over : List ℕ). Lacks z (chosen_scripts (without at 1 numbers) 0 sought.scripts.items) decoded word over) c.as_slice-2.ensures.value
          (c.in_ok-kept.ensures.least (one-holds kept.short.least last.short.least (sym both ∙ least)) at within);
      endless = λ none.
          let after = c.in_ok-kept.ensures.endless (c.in_ok-short.ensures.ok.unbounded none) in
          both ∙ both-hold kept.short.least last.short.least after.0 (found.endless after.1);
    }
