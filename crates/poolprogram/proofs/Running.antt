-- How a run is refused.
use Rattle.std.proofs.Common.{◌≡◌, ⊎_elim, inr, ℕ, List, refl, sym, subst}
use Rattle.scripts.specs.declared.plan.Plan.{Plan}
use Rattle.scripts.specs.ScriptPlaces.{out_of_memory}
use Rattle.scripts.specs.Readings.{StandsFor}
use Rattle.poolprogram.specs.declared.run_fault.RunFault.{RunFault}
use Rattle.poolprogram.specs.declared.run_fault.RunFault.TheVariants as runs
use Rattle.poolprogram.specs.Runs.{IsRunFault, RefusesRun}

pub refuses_run : (file : List ℕ) (plan : Plan) (fault : RunFault) → StandsFor file plan → IsRunFault fault → RefusesRun file fault
refuses_run file plan fault stands is = ⊎_elim
    (λ (opening : fault ≡ runs.Open). subst (RefusesRun file) (sym opening) (record { plan = plan; stands = stands }))
    (⊎_elim
    (λ (report : fault ≡ runs.Read out_of_memory). subst (RefusesRun file) (sym report) (inr (refl, record { plan = plan; stands = stands })))
    (λ (text : fault ≡ runs.Memory). subst (RefusesRun file) (sym text) (record { plan = plan; stands = stands })))
    is
