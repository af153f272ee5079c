use Rattle.std.proofs.Common.{◌≡◌, List, Err, string_bytes, ap, sym, subst}
use Rattle.traces.specs.declared.script.Command.{Command}
use Rattle.shortening.specs.Replays.{Asked, Lacks}
use Rattle.shortening.specs.declared.fault.Unshortened.TheVariants.{Fails}
use Rattle.poolprogram.specs.Shortenings.{RefusesShortestOf}
use Rattle.poolprogram.proofs.Refusals.{refuses_shortest}
use Rattle.poolprogram.proofs.shortest.shortest_of.Goals as goal

pub returns-clause-err : goal.returns-clause-err
returns-clause-err g c =
    let plan = c.args.plan in
    let search = c.args.search in
    let schedule = c.args.schedule.items in
    let fault = c.in-Err.fault in
    let lacks : fault ≡ Fails → Lacks plan.shape plan.scripts search.decoded (string_bytes search.word) schedule = λ fails.
    subst (λ (scripts : List (List Command)). Lacks plan.shape scripts search.decoded (string_bytes search.word) schedule) c.into_vec.ensures
    (subst (λ (t : Asked). Lacks t.shape t.scripts t.decoded t.word schedule) c.new-trial.ensures (c.in-Err.ensures.fails (ap Err fails))) in
    subst (RefusesShortestOf plan search schedule) (sym c.fault_of.ensures) (refuses_shortest plan search schedule fault lacks)
