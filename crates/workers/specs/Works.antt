-- What a worker does with its lane, and what it answers.
use Rattle.std.specs.Prelude.{◌≡◌, ℕ, ◌<◌, ◌≤◌, Bool, true, false, IfSome, IfOk, min, List, length, take, Option, Some, None, MatchResult, slice_get}
use mathlib.Core.List.{IsPrefix}
use Rattle.traces.specs.declared.script.Command.{Command}
use Rattle.shardpool.specs.Tokens.{PoolOf, LaneOf}
use Rattle.shardpool.specs.Lanes.{Owns, SameLane, refs}
use Rattle.workers.specs.declared.registers.Register.{Register}
use Rattle.workers.specs.declared.jobs.Job.{Job}
use Rattle.workers.specs.declared.jobs.Done.{Done}
use Rattle.workers.specs.declared.jobs.Report.{Report}
use Rattle.workers.specs.Lines.{first_desk, AreLines}
use Rattle.workers.specs.Tidy.{most_besides}

-- the lane is of the pool, and its references leave room for one more in each register
abbrev pub MayWork : PoolOf → LaneOf → Type 0
MayWork pool lane = Owns pool lane × (refs lane ≤ most_besides)

-- so many lines were run: all, or all before the one at which the worker was stopped, of which numbers too large for the report count as the largest
abbrev pub Stops : ℕ → List Command → Option ℕ → Type 0
Stops ran script None = ran ≡ length script
Stops ran script (Some line) = (ran < length script) × (line ≡ min ran 4294967295)

-- the lines of a script up to where the worker was stopped were run from the first to the last, and these are their replies
pub record Ran (old : LaneOf) (script : List Command) (new : LaneOf) (report : Report) : Type 0 where
  pub ran : ℕ
  pub stops : Stops ran script report.stopped_at
  pub registers : List Register
  pub lines : AreLines (first_desk old) (take ran script) report.replies.items (record { lane = new; registers = registers })

-- the gate let each of so many lines pass, and not the one before which the worker was stopped
abbrev pub Passed : (ℕ → Bool → Type 0) → ℕ → Option ℕ → Type 0
Passed says ran stopped_at = ((line : ℕ) → line < ran → says (min line 4294967295) true) × IfSome stopped_at (λ line. says line false)

-- what a worker did: the lines that were run; where the row of replies was refused none was, and the lane is as before
abbrev pub Works : LaneOf → List Command → Done → Type 0
Works old script done = MatchResult done.report (λ report. Ran old script done.lane report) (λ refused. done.lane ≡ old)

-- what a worker answers for its job, with a gate that may answer this
pub record Answer (says : ℕ → ℕ → Bool → Type 0) (job : Job) (done : Done) : Type 0 where
  pub same : SameLane job.lane done.lane
  pub seen : IsPrefix job.lane.book.seen done.lane.book.seen
  pub works : Works job.lane job.script done
  pub passed : IfOk done.report (λ report. Passed (says job.lane.number) (length report.replies.items) report.stopped_at)

-- every job has a lane that may work
abbrev pub MayBegin : PoolOf → List Job → Type 0
MayBegin pool jobs = (index : ℕ) (job : Job) → slice_get jobs index ≡ Some job → MayWork pool job.lane

-- each answer is that of its job, in the order of the jobs
pub record Answers (says : ℕ → ℕ → Bool → Type 0) (jobs : List Job) (dones : List Done) : Type 0 where
  pub count : length dones ≡ length jobs
  pub each : (index : ℕ) (job : Job) (done : Done) → slice_get jobs index ≡ Some job → slice_get dones index ≡ Some done
      → Answer says job done
