-- What shortening a schedule writes.
use Rattle.std.specs.Prelude.{◌≡◌, ⊤, ◌⊎◌, ℕ, Bool, true, List, ◌++◌, Option, None, MatchBool, codes, string_bytes}
use Rattle.std.specs.Io.KnownBytes.{Appends}
use Rattle.commandline.specs.declared.tasks.Search.{Search}
use Rattle.commandline.specs.declared.tasks.Stop.{Stop}
use Rattle.commandline.specs.declared.tasks.Turns.{Turns}
use Rattle.schedules.specs.Schedules.{schedule_line}
use Rattle.keybits.specs.declared.shape.Shape.{Shape}
use Rattle.scripts.specs.Readings.{StandsFor}
use Rattle.scripts.specs.declared.plan.Plan.{Plan}
use Rattle.traces.specs.declared.script.Command.{Command}
use Rattle.shortening.specs.Parts.{IsPart}
use Rattle.shortening.specs.Plans.{IsShortPlan}
use Rattle.shortening.specs.Replays.{Shows, Lacks}
use Rattle.shortening.specs.Shortest.{IsShortest}
use Rattle.shortening.specs.declared.short.Short.{Short}
use Rattle.shortening.specs.declared.short.ShortPlan.{ShortPlan}
use Rattle.shortening.specs.declared.fault.Unshortened.{Unshortened}
use Rattle.shortening.specs.declared.fault.Unshortened.TheVariants as shortenings
use Rattle.poolprogram.specs.Turns.{IsPlanned, RefusesSchedule}
use Rattle.poolprogram.specs.declared.run_fault.RunFault.{RunFault}
use Rattle.poolprogram.specs.declared.run_fault.RunFault.TheVariants as runs

-- entries of the schedule are left out, the word stands in the replay of the plan still, and it doesn't as soon as any one more is left out
abbrev pub IsShortestOf : Plan → Search → List ℕ → List ℕ → Type 0
IsShortestOf plan search schedule short =
    IsShortest (Shows plan.shape plan.scripts search.decoded (string_bytes search.word))
    (Lacks plan.shape plan.scripts search.decoded (string_bytes search.word)) schedule short

-- entries of the schedule are left out, and the word stands in the replay of the plan still; it is such a shortest, where the replays aren't
-- bounded, or where that is told
pub record IsShortOf (plan : Plan) (search : Search) (schedule : List ℕ) (short : Short) : Type 0 where
  pub part : IsPart short.schedule.items schedule
  pub shows : Shows plan.shape plan.scripts search.decoded (string_bytes search.word) short.schedule.items
  pub least : short.least ≡ true → IsShortestOf plan search schedule short.schedule.items
  pub endless : search.tries ≡ None → short.least ≡ true

-- known bytes grow by the line of such a schedule, and it is told whether it is a shortest
pub record WritesShortest (file : List ℕ) (turns : Turns) (stop : Option Stop) (search : Search) (least : Bool)
    (old new : Option (List ℕ)) : Type 0 where
  pub plan : Plan
  pub schedule : List ℕ
  pub planned : IsPlanned file turns stop plan schedule
  pub short : Short
  pub shortest : IsShortOf plan search schedule short
  pub told : least ≡ short.least
  pub appended : Appends old new (schedule_line short.schedule.items)

-- commands are left out of the scripts of the plan, and entries of the schedule, and the word stands in the replay still
abbrev pub IsShortPlanOf : Plan → Search → List ℕ → ShortPlan → Type 0
IsShortPlanOf plan search schedule short =
    IsShortPlan plan.shape plan.scripts search.decoded (string_bytes search.word) search.tries schedule short

-- the text is the line of a schedule, and a line of a script file that stands for a plan of this shape and of these scripts
pub record IsShortText (z : Shape) (scripts : List (List Command)) (schedule text : List ℕ) : Type 0 where
  pub left : Plan
  pub shape_is : left.shape ≡ z
  pub scripts_are : left.scripts ≡ scripts
  pub file : List ℕ
  pub stands : StandsFor file left
  pub is : text ≡ schedule_line schedule ++ file ++ codes "\n"

-- known bytes grow by such a text of what is left of the plan and of the schedule, and it is told whether all was tried
pub record WritesShortPlan (file : List ℕ) (turns : Turns) (stop : Option Stop) (search : Search) (least : Bool)
    (old new : Option (List ℕ)) : Type 0 where
  pub plan : Plan
  pub schedule : List ℕ
  pub planned : IsPlanned file turns stop plan schedule
  pub short : ShortPlan
  pub shortest : IsShortPlanOf plan search schedule short
  pub told : least ≡ short.least
  pub text : List ℕ
  pub says : IsShortText plan.shape short.scripts.items short.schedule.items text
  pub appended : Appends old new text

-- known bytes grow by what is left of the schedule, or where that is asked for of the scripts too
abbrev pub WritesShortening : List ℕ → Turns → Option Stop → Search → Bool → Option (List ℕ) → Option (List ℕ) → Type 0
WritesShortening file turns stop search least old new =
    MatchBool search.scripts (WritesShortPlan file turns stop search least old new) (WritesShortest file turns stop search least old new)

-- the fault of a schedule that isn't shortened, by whether the word is of decoded lines
abbrev pub fault_of : Bool → Unshortened → RunFault
fault_of decoded shortenings.Fails = runs.Absent decoded
fault_of decoded shortenings.Limit = runs.Shortening shortenings.Limit
fault_of decoded shortenings.Memory = runs.Shortening shortenings.Memory

-- the schedule isn't shortened, for this fault: the word stands nowhere in its replay; too much would have to be replayed; or memory was refused
abbrev pub RefusesShortestOf : Plan → Search → List ℕ → RunFault → Type 0
RefusesShortestOf plan search schedule (runs.Absent decoded) = (search.decoded ≡ decoded)
    × Lacks plan.shape plan.scripts search.decoded (string_bytes search.word) schedule
RefusesShortestOf plan search schedule (runs.Shortening shortenings.Fails) = ⊥
RefusesShortestOf plan search schedule (runs.Shortening shortenings.Limit) = ⊤
RefusesShortestOf plan search schedule (runs.Shortening shortenings.Memory) = ⊤
RefusesShortestOf plan search schedule runs.Memory = ⊤
RefusesShortestOf plan search schedule (runs.Read fault) = ⊥
RefusesShortestOf plan search schedule (runs.Acts fault) = ⊥
RefusesShortestOf plan search schedule (runs.Core fault) = ⊥
RefusesShortestOf plan search schedule (runs.TooMany reached) = ⊥
RefusesShortestOf plan search schedule runs.Open = ⊥
RefusesShortestOf plan search schedule (runs.File why) = ⊥
RefusesShortestOf plan search schedule runs.Output = ⊥

-- the same of the schedule of the turns for the lanes of the file
pub record RefusesPlannedWord (file : List ℕ) (turns : Turns) (stop : Option Stop) (search : Search) (fault : RunFault) : Type 0 where
  pub plan : Plan
  pub schedule : List ℕ
  pub planned : IsPlanned file turns stop plan schedule
  pub refused : RefusesShortestOf plan search schedule fault

-- the file or its schedule is refused with this fault, or the schedule isn't shortened
abbrev pub RefusesShortest : List ℕ → Turns → Option Stop → Search → RunFault → Type 0
RefusesShortest file turns stop search fault = RefusesSchedule file turns fault ⊎ RefusesPlannedWord file turns stop search fault
