use Rattle.std.proofs.Common.{◌∙◌, ℕ, Bool, List, IfOk, string_bytes, ap, subst}
use Rattle.std.specs.Prelude.{MatchBool}
use Rattle.traces.specs.declared.script.Command.{Command}
use Rattle.shortening.specs.Choices.{chosen_scripts}
use Rattle.shortening.specs.Choosing.{Choosing}
use Rattle.shortening.specs.Replays.{Shows, Lacks}
use Rattle.shortening.proofs.command_trial.CommandTrialTrial.is_passed.Goals as goal

pub returns-clause-ok : goal.returns-clause-ok
returns-clause-ok c =
    let inside = c.self.inside in
    let numbers = c.args.numbers.now in
    let told = λ (scripts : List (List Command)) (schedule word : List ℕ). IfOk c.is_shown.result
    (λ (shown : Bool). MatchBool shown (Shows inside.shape scripts inside.decoded word schedule) (Lacks inside.shape scripts inside.decoded word schedule)) in
    let chosen = c.as_slice-2.ensures.value ∙ c.in_ok-scripts.ensures.chosen ∙ ap (chosen_scripts numbers 0) c.as_slice.ensures.value in
    let scripts = chosen_scripts numbers 0 inside.scripts.items in
    let one = subst (λ (s : List (List Command)). told s c.as_slice-3.result.now c.as_str.result.now) chosen c.is_shown.ensures.ok in
    let two = subst (λ (s : List ℕ). told scripts s c.as_str.result.now) c.as_slice-3.ensures.value one in
    let three = subst (λ (w : List ℕ). told scripts inside.schedule.items w) c.as_str.ensures.value two in
    subst (λ (t : Choosing). IfOk c.is_shown.result (λ (shown : Bool). MatchBool shown
    (Shows t.shape (chosen_scripts numbers 0 t.scripts) t.decoded t.word t.schedule) (Lacks t.shape (chosen_scripts numbers 0 t.scripts) t.decoded t.word t.schedule)))
    c.self.view_is three
