-- What a replay over the turns of the command line writes.
use Rattle.std.specs.Prelude.{◌≡◌, ◌⊎◌, ⊤, ℕ, Bool, List, [], Option, Some, None, String, length, map}
use Rattle.std.specs.Io.KnownBytes.{Appends}
use Rattle.std.specs.declared.alloc.Global.{Global}
use Rattle.commandline.specs.declared.tasks.Stop.{Stop}
use Rattle.commandline.specs.declared.tasks.Turns.{Turns}
use Rattle.commandline.specs.declared.tasks.Turns.TheVariants.{Listed, Drawn, InFile}
use Rattle.schedules.specs.Draws.{drawn}
use Rattle.schedules.specs.Schedules.{schedule_line}
use Rattle.schedules.specs.Stops.{IsStopped}
use Rattle.scripts.specs.declared.plan.Plan.{Plan}
use Rattle.scripts.specs.ScriptPlaces.{out_of_memory}
use Rattle.scripts.specs.Readings.{StandsFor, RefusesFile}
use Rattle.streams.specs.declared.reading.Unreadable.TheVariants as unreadable
use Rattle.poolprogram.specs.Replays.{HasPlan, WritesReplayOf, RefusesReplayOf}
use Rattle.poolprogram.specs.declared.replayed.Replayed.{Replayed}
use Rattle.poolprogram.specs.declared.run_fault.RunFault.{RunFault}
use Rattle.poolprogram.specs.declared.run_fault.RunFault.TheVariants as runs

-- the entries of turns for so many lanes: those that are listed, or those that are drawn from the seed; of turns in a file none are known
abbrev pub entries_for : ℕ → Turns → List ℕ
entries_for lanes (Listed entries) = entries.items
entries_for lanes (Drawn seed turns) = drawn seed lanes turns
entries_for lanes (InFile path) = []

-- the turns aren't in a file
abbrev pub AreKnown : Turns → Type 0
AreKnown (Listed entries) = ⊤
AreKnown (Drawn seed turns) = ⊤
AreKnown (InFile path) = ⊥

-- the schedule is these entries, where there is a stop without those that come after it
abbrev pub IsUpTo : Option Stop → List ℕ → List ℕ → Type 0
IsUpTo None entries schedule = schedule ≡ entries
IsUpTo (Some stop) entries schedule = IsStopped stop.lane stop.after entries schedule

-- the file's bytes stand for the plan, and the schedule is the entries of the turns for its lanes, up to the stop
pub record IsPlanned (file : List ℕ) (turns : Turns) (stop : Option Stop) (plan : Plan) (schedule : List ℕ) : Type 0 where
  pub stands : StandsFor file plan
  pub known : AreKnown turns
  pub up_to : IsUpTo stop (entries_for plan.shape.lanes turns) schedule

-- known bytes grow by the line of the schedule of these turns for the lanes of the file, up to the stop
pub record WritesSchedule (file : List ℕ) (turns : Turns) (stop : Option Stop) (old new : Option (List ℕ)) : Type 0 where
  pub plan : Plan
  pub schedule : List ℕ
  pub planned : IsPlanned file turns stop plan schedule
  pub appended : Appends old new (schedule_line schedule)

-- a replay was made of that plan over that schedule, whose trace is lawful, and known bytes grow by the text of that trace, or of its acts
pub record WritesTurns (file : List ℕ) (turns : Turns) (stop : Option Stop) (acts : Bool) (made : Replayed)
    (old new : Option (List ℕ)) : Type 0 where
  pub plan : Plan
  pub planned : IsPlanned file turns stop plan made.schedule.items
  pub lanes : made.lanes ≡ plan.shape.lanes
  pub counts : made.counts.items ≡ map length plan.scripts
  pub writes : WritesReplayOf plan made.schedule.items acts made.trace old new

-- the turns are in a file
abbrev pub AreInFile : Turns → Type 0
AreInFile turns = (path : String Global) × (turns ≡ InFile path)

-- no schedule of the turns is made, for this fault: memory was refused for it; or they are in a file
abbrev pub RefusesEntries : Turns → RunFault → Type 0
RefusesEntries turns fault = (fault ≡ runs.Read out_of_memory) ⊎ ((fault ≡ runs.File unreadable.Other) × AreInFile turns)

-- the file or its schedule is refused with this fault: as the file's reading says; or memory was refused for the schedule of the plan that it stands for; or the turns are in a file
abbrev pub RefusesSchedule : List ℕ → Turns → RunFault → Type 0
RefusesSchedule file turns (runs.Read refusal) = RefusesFile file refusal ⊎ ((refusal ≡ out_of_memory) × HasPlan file)
RefusesSchedule file turns (runs.File why) = (why ≡ unreadable.Other) × AreInFile turns × HasPlan file
RefusesSchedule file turns (runs.Core fault) = ⊥
RefusesSchedule file turns (runs.Acts fault) = ⊥
RefusesSchedule file turns (runs.Shortening fault) = ⊥
RefusesSchedule file turns (runs.Absent decoded) = ⊥
RefusesSchedule file turns (runs.TooMany reached) = ⊥
RefusesSchedule file turns runs.Open = ⊥
RefusesSchedule file turns runs.Output = ⊥
RefusesSchedule file turns runs.Memory = ⊥

-- that plan is refused with this fault over that schedule
pub record RefusesPlanned (file : List ℕ) (turns : Turns) (stop : Option Stop) (fault : RunFault) : Type 0 where
  pub plan : Plan
  pub schedule : List ℕ
  pub planned : IsPlanned file turns stop plan schedule
  pub refused : RefusesReplayOf plan schedule fault

-- the file is refused with this fault, or its plan is
abbrev pub RefusesTurns : List ℕ → Turns → Option Stop → RunFault → Type 0
RefusesTurns file turns stop fault = RefusesSchedule file turns fault ⊎ RefusesPlanned file turns stop fault

-- the line of the schedule isn't written, for this fault: that of the file or its schedule, or memory was refused for the line
abbrev pub RefusesListing : List ℕ → Turns → RunFault → Type 0
RefusesListing file turns fault = RefusesSchedule file turns fault ⊎ ((fault ≡ runs.Memory) × HasPlan file)
