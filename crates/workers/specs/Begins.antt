-- Jobs that were begun, and what was known of them.
use Rattle.std.specs.Prelude.{◌≡◌, ℕ, Bool, List, [], ◌∷◌}
use Rattle.workers.specs.declared.jobs.Job.{Job}
use Rattle.workers.specs.declared.jobs.Done.{Done}
use Rattle.workers.specs.declared.begun.Begun.{Begun}
use Rattle.workers.specs.declared.begun.Begun.TheVariants.{There, Here}
use Rattle.workers.specs.Works.{Answer}

-- each element of one list has this with the one of the other, in their order, and neither list is longer
abbrev pub Pairs : {A B : Type 0} → (A → B → Type 0) → List A → List B → Type 0
Pairs R [] [] = Unit {0}
Pairs R [] (y ∷ ys) = ⊥
Pairs R (x ∷ xs) [] = ⊥
Pairs R (x ∷ xs) (y ∷ ys) = R x y × Pairs R xs ys

-- the job that was begun
abbrev pub job_of : {G : Type 0} → Begun G → Job
job_of (There handle) = handle.promise.job.value
job_of (Here done promised) = promised.job.value

-- the gate with which it was begun
abbrev pub gate_of : {G : Type 0} → Begun G → G
gate_of (There handle) = handle.promise.gate.value
gate_of (Here done promised) = promised.gate.value

module _ {G : Type 0} (says : G → ℕ → ℕ → Bool → Type 0) where
  -- what was run in the caller's thread is the job's answer
  abbrev pub Holds : Begun G → Type 0
  Holds (There handle) = Unit {0}
  Holds (Here done promised) = Answer (says promised.gate.value) promised.job.value done

  -- each holds
  abbrev pub AllHold : List (Begun G) → Type 0
  AllHold [] = Unit {0}
  AllHold (begun ∷ more) = Holds begun × AllHold more

  -- it was begun of this job, with this gate
  abbrev pub IsBegun : G → Job → Begun G → Type 0
  IsBegun gate job begun = (job_of begun ≡ job) × (gate_of begun ≡ gate) × Holds begun

  -- what came of it is the answer of its job
  abbrev pub IsFinished : Begun G → Done → Type 0
  IsFinished begun done = Answer (says (gate_of begun)) (job_of begun) done
