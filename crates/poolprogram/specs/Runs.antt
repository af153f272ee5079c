-- What a run writes.
use Rattle.std.specs.Prelude.{◌≡◌, ◌⊎◌, ℕ, Bool, true, List, [], ◌++◌, Option, Result, Ok, Err, IsOk, map, flat_map, decimal, codes, slice_get, Some}
use Rattle.std.specs.Io.KnownBytes.{Appends}
use Rattle.std.specs.declared.alloc.AllocError.{AllocError}
use Rattle.traces.specs.declared.script.Command.{Command}
use Rattle.traces.specs.Text.{reply_line}
use Rattle.shardpool.specs.declared.census.Census.{Census}
use Rattle.shardpool.specs.Tokens.{PoolOf, LaneOf}
use Rattle.shardpool.specs.Opened.{AreFirstLanes}
use Rattle.shardpool.specs.Closings.{Closes}
use Rattle.workers.specs.declared.jobs.Job.{Job}
use Rattle.workers.specs.declared.jobs.Done.{Done}
use Rattle.workers.specs.declared.jobs.Report.{Report}
use Rattle.workers.specs.Works.{Answers}
use Rattle.scripts.specs.declared.plan.Plan.{Plan}
use Rattle.scripts.specs.ScriptPlaces.{out_of_memory}
use Rattle.scripts.specs.Readings.{StandsFor, RefusesFile}
use Rattle.poolprogram.specs.Replays.{HasPlan}
use Rattle.poolprogram.specs.declared.run_fault.RunFault.{RunFault}
use Rattle.poolprogram.specs.declared.run_fault.RunFault.TheVariants as runs

-- the line of a census
abbrev pub census_text : Census → List ℕ
census_text c =
    codes "census free " ++ decimal c.free ++ codes " unopened " ++ decimal c.unopened ++ codes " filling " ++ decimal c.filling
    ++ codes " present " ++ decimal c.present ++ codes " marked " ++ decimal c.marked ++ codes " retired " ++ decimal c.retired
    ++ codes "\n"

-- a line for each reply of the worker of this number; none where its report was refused
abbrev pub report_text : ℕ → Result Report AllocError → List ℕ
report_text number (Ok report) = flat_map (reply_line number) report.replies.items
report_text number (Err refused) = []

-- the lines of a worker, whose number is its lane's
abbrev pub done_text : Done → List ℕ
done_text done = report_text done.lane.number done.report

-- the lanes of workers, in their order
abbrev pub lanes_of : List Done → List LaneOf
lanes_of dones = map (λ done. done.lane) dones

-- no worker's report was refused
abbrev pub AllReported : List Done → Type 0
AllReported dones = (index : ℕ) (done : Done) → slice_get dones index ≡ Some done → IsOk done.report

-- a job for each lane, with the script of its place
pub record AreJobs (lanes : List LaneOf) (scripts : List (List Command)) (jobs : List Job) : Type 0 where
  pub lanes_are : map (λ job. job.lane) jobs ≡ lanes
  pub scripts_are : map (λ job. job.script) jobs ≡ scripts

-- the answers of a gate that lets each line pass
abbrev pub LetsPass : ℕ → ℕ → Bool → Type 0
LetsPass worker line answer = answer ≡ true

-- a run of a plan: each worker had a lane of a new pool of the plan's shape and the script of that lane, which it ran to its end, and its lines stand by rising number; and behind them the census
-- of the pool, which was closed with the lanes of all workers
pub record IsRunOf (plan : Plan) (text : List ℕ) : Type 0 where
  pub pool : PoolOf
  pub shape : pool.shape ≡ plan.shape
  pub lanes : List LaneOf
  pub first : AreFirstLanes pool lanes
  pub jobs : List Job
  pub are_jobs : AreJobs lanes plan.scripts jobs
  pub dones : List Done
  pub answers : Answers LetsPass jobs dones
  pub reported : AllReported dones
  pub census : Census
  pub closes : Closes pool (lanes_of dones) census
  pub is : text ≡ flat_map done_text dones ++ census_text census

-- a run of the plan that the file's bytes stand for
pub record IsRun (file text : List ℕ) : Type 0 where
  pub plan : Plan
  pub stands : StandsFor file plan
  pub run : IsRunOf plan text

-- known bytes grow by the text of such a run
pub record WritesRun (file : List ℕ) (old new : Option (List ℕ)) : Type 0 where
  pub text : List ℕ
  pub run : IsRun file text
  pub appended : Appends old new text

-- memory was refused for a worker's report, or for a text
abbrev pub IsReportFault : RunFault → Type 0
IsReportFault fault = (fault ≡ runs.Read out_of_memory) ⊎ (fault ≡ runs.Memory)

-- memory was refused for a pool; or for a row, a worker's report or a text
abbrev pub IsRunFault : RunFault → Type 0
IsRunFault fault = (fault ≡ runs.Open) ⊎ IsReportFault fault

-- the file is refused with this fault: as its reading says; or memory was refused for a worker's report, for the pool, or for a row or the text, of the plan that it stands for
abbrev pub RefusesRun : List ℕ → RunFault → Type 0
RefusesRun file (runs.Read refusal) = RefusesFile file refusal ⊎ ((refusal ≡ out_of_memory) × HasPlan file)
RefusesRun file runs.Open = HasPlan file
RefusesRun file runs.Memory = HasPlan file
RefusesRun file (runs.Core fault) = ⊥
RefusesRun file (runs.Acts fault) = ⊥
RefusesRun file (runs.Absent decoded) = ⊥
RefusesRun file (runs.TooMany reached) = ⊥
RefusesRun file (runs.Shortening fault) = ⊥
RefusesRun file (runs.File why) = ⊥
RefusesRun file runs.Output = ⊥
