use Rattle.std.proofs.Common.{ℕ, Bool, List, IfOk, string_bytes, subst}
use Rattle.std.specs.Prelude.{MatchBool}
use Rattle.traces.specs.declared.script.Command.{Command}
use Rattle.shortening.specs.Replays.{Asked, Shows, Lacks}
use Rattle.shortening.proofs.word_trial.WordTrialTrial.is_passed.Goals as goal

pub returns-clause-ok : goal.returns-clause-ok
returns-clause-ok c =
    let inside = c.self.inside in
    let schedule = c.args.schedule.now in
    let told = λ (scripts : List (List Command)) (word : List ℕ). IfOk c.is_shown.result
    (λ (shown : Bool). MatchBool shown (Shows inside.shape scripts inside.decoded word schedule) (Lacks inside.shape scripts inside.decoded word schedule)) in
    let one = subst (λ (s : List (List Command)). told s c.as_str.result.now) c.as_slice.ensures.value c.is_shown.ensures.ok in
    let two = subst (λ (w : List ℕ). told inside.scripts.items w) c.as_str.ensures.value one in
    subst (λ (t : Asked). IfOk c.is_shown.result
    (λ (shown : Bool). MatchBool shown (Shows t.shape t.scripts t.decoded t.word schedule) (Lacks t.shape t.scripts t.decoded t.word schedule))) c.self.view_is two
