use Rattle.std.proofs.Common.{rules, ◌≡◌, ℕ, List, inr, length, map, sym, subst}
use Rattle.std.proofs.lemmas.Result.{err_from_is_err_and}
use Rattle.poolprogram.specs.Turns.{IsPlanned}
use Rattle.poolprogram.proofs.Replaying.{as_many}
use Rattle.poolprogram.proofs.turns.replay_turns.Goals as goal

pub returns-in_err-trace-clause-refused : goal.returns-in_err-trace-clause-refused
returns-in_err-trace-clause-refused g c =
    let plan = c.in_ok-plan.plan in
    let planned = subst (λ (schedule : List ℕ). IsPlanned c.args.file.now c.args.turns c.args.stop plan schedule) (sym c.as_slice-2.ensures.value) c.in_ok-plan.ensures.ok in
    let p = err_from_is_err_and c.from_residual-in_err-trace.result c.from_residual-in_err-trace.ensures.1 in
    rw (p.1, p.2) (λ different. let both = c.in_err-trace.ensures.refused different in
    (both.0, inr (record { plan = plan; schedule = c.as_slice-2.result.now; planned = planned; refused = both.1 })))

pub invariant_of-result : goal.invariant_of-result
invariant_of-result g c =
    let are : c.in_ok-counts.counts.items ≡ map length c.in_ok-plan.plan.scripts = search rules in
    record { each = as_many c.in_ok-counts.counts.items c.in_ok-plan.plan.scripts c.in_ok-plan.plan.shape.lanes are c.in_ok-plan.ensures.count }
