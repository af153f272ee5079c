-- How outcomes aren't written.
use Rattle.std.proofs.Common.{◌≡◌, ℕ, ◌≤◌, List, inl, inr, refl, sym, subst, ⊎_elim}
use Rattle.outcomes.specs.Outcomes.{IsUnlisted}
use Rattle.outcomes.specs.declared.fault.Unlisted.{Unlisted}
use Rattle.outcomes.specs.declared.fault.Unlisted.TheVariants as unlisted
use Rattle.scripts.specs.declared.plan.Plan.{Plan}
use Rattle.scripts.specs.Readings.{StandsFor}
use Rattle.poolprogram.specs.Outcomes.{fault_of, IsOutcomesFault, RefusesOutcomes}
use Rattle.poolprogram.specs.declared.run_fault.RunFault.{RunFault}
use Rattle.poolprogram.specs.declared.run_fault.RunFault.TheVariants as runs

pub is_fault : (most : ℕ) (fault : Unlisted) → IsUnlisted most fault → IsOutcomesFault most (fault_of fault)
is_fault most (unlisted.TooMany reached) is = inr (reached, refl, is)
is_fault most unlisted.Memory is = inl refl

pub refuses_outcomes : (file : List ℕ) (plan : Plan) (most : ℕ) (fault : RunFault) → StandsFor file plan → IsOutcomesFault most fault
    → RefusesOutcomes file most fault
refuses_outcomes file plan most fault stands is = ⊎_elim
    (λ (memory : fault ≡ runs.Memory). subst (RefusesOutcomes file most) (sym memory) (record { plan = plan; stands = stands }))
    (λ (many : (reached : ℕ) × (fault ≡ runs.TooMany reached) × (most ≤ reached)).
    subst (RefusesOutcomes file most) (sym many.1) (many.2, record { plan = plan; stands = stands }))
    is
