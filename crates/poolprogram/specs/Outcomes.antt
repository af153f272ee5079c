-- What is written of everything that scripts can reply.
use Rattle.std.specs.Prelude.{◌≡◌, ◌⊎◌, ◌≤◌, ℕ, Bool, List, Option}
use Rattle.std.specs.Io.KnownBytes.{Appends}
use Rattle.outcomes.specs.Outcomes.{AreOutcomes}
use Rattle.outcomes.specs.Texts.{outcomes_text}
use Rattle.outcomes.specs.declared.fault.Unlisted.{Unlisted}
use Rattle.outcomes.specs.declared.fault.Unlisted.TheVariants as unlisted
use Rattle.outcomes.specs.declared.search.Outcomes.{Outcomes}
use Rattle.scripts.specs.declared.plan.Plan.{Plan}
use Rattle.scripts.specs.Readings.{StandsFor, RefusesFile}
use Rattle.poolprogram.specs.Replays.{HasPlan}
use Rattle.poolprogram.specs.declared.run_fault.RunFault.{RunFault}
use Rattle.poolprogram.specs.declared.run_fault.RunFault.TheVariants as runs

-- the text is that of all outcomes of the plan, to which at most so many states led
pub record IsOutcomesOf (plan : Plan) (most : ℕ) (count : Bool) (text : List ℕ) : Type 0 where
  pub found : Outcomes
  pub are : AreOutcomes plan.shape plan.scripts found.outcomes.items found.ways
  pub within : found.states ≤ most
  pub is : text ≡ outcomes_text count found

-- known bytes grow by such a text of the plan that the file stands for
pub record WritesOutcomes (file : List ℕ) (most : ℕ) (count : Bool) (old new : Option (List ℕ)) : Type 0 where
  pub plan : Plan
  pub stands : StandsFor file plan
  pub text : List ℕ
  pub of : IsOutcomesOf plan most count text
  pub appended : Appends old new text

-- the fault of outcomes that aren't listed
abbrev pub fault_of : Unlisted → RunFault
fault_of (unlisted.TooMany reached) = runs.TooMany reached
fault_of unlisted.Memory = runs.Memory

-- the outcomes of a plan aren't told, for this fault: memory was refused, or there are more states than so many
abbrev pub IsOutcomesFault : ℕ → RunFault → Type 0
IsOutcomesFault most fault = (fault ≡ runs.Memory) ⊎ ((reached : ℕ) × (fault ≡ runs.TooMany reached) × (most ≤ reached))

-- the file is refused with this fault: as a script file, or of the plan that it stands for
abbrev pub RefusesOutcomes : List ℕ → ℕ → RunFault → Type 0
RefusesOutcomes file most (runs.Read refusal) = RefusesFile file refusal
RefusesOutcomes file most (runs.TooMany reached) = (most ≤ reached) × HasPlan file
RefusesOutcomes file most runs.Memory = HasPlan file
RefusesOutcomes file most (runs.Core fault) = ⊥
RefusesOutcomes file most (runs.Acts fault) = ⊥
RefusesOutcomes file most (runs.Shortening fault) = ⊥
RefusesOutcomes file most (runs.Absent decoded) = ⊥
RefusesOutcomes file most runs.Open = ⊥
RefusesOutcomes file most (runs.File why) = ⊥
RefusesOutcomes file most runs.Output = ⊥
