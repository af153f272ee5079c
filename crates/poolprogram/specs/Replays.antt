-- What a replay writes.
use Rattle.std.specs.Prelude.{◌≡◌, ℕ, Bool, true, false, List, Option}
use Rattle.std.specs.Io.KnownBytes.{Appends}
use Rattle.traces.specs.Lawful.{IsLawful}
use Rattle.keybits.specs.declared.shape.Shape.{Shape}
use Rattle.seqpool.specs.ActsText.{IsTextOf}
use Rattle.traces.specs.Text.{trace_text}
use Rattle.traces.specs.TurnLaws.{all_acts}
use Rattle.traces.specs.declared.trace.Turn.{Turn}
use Rattle.scripts.specs.declared.plan.Plan.{Plan}
use Rattle.scripts.specs.Readings.{StandsFor, RefusesFile}
use Rattle.poolprogram.specs.declared.run_fault.RunFault.{RunFault}
use Rattle.poolprogram.specs.declared.run_fault.RunFault.TheVariants as runs

-- the file stands for a plan
pub record HasPlan (file : List ℕ) : Type 0 where
  pub plan : Plan
  pub stands : StandsFor file plan

-- the text of a trace; or, where these are wanted, that of the shape and of the trace's acts
abbrev pub IsText : Shape → List Turn → Bool → List ℕ → Type 0
IsText z trace false text = text ≡ trace_text trace
IsText z trace true text = IsTextOf z (all_acts trace) text

-- the trace is a lawful one of the plan over the schedule, and the text is its own, or that of its acts
pub record IsReplayOf (plan : Plan) (schedule : List ℕ) (acts : Bool) (trace : List Turn) (text : List ℕ) : Type 0 where
  pub lawful : IsLawful plan.shape plan.scripts schedule trace
  pub is : IsText plan.shape trace acts text

-- known bytes grow by such a text
pub record WritesReplayOf (plan : Plan) (schedule : List ℕ) (acts : Bool) (trace : List Turn) (old new : Option (List ℕ)) : Type 0 where
  pub text : List ℕ
  pub replay : IsReplayOf plan schedule acts trace text
  pub appended : Appends old new text

-- a lawful trace of the plan that the file's bytes stand for, which has this shape, and of the schedule
pub record IsTraceOf (file schedule : List ℕ) (z : Shape) (trace : List Turn) : Type 0 where
  pub plan : Plan
  pub stands : StandsFor file plan
  pub shape : plan.shape ≡ z
  pub lawful : IsLawful plan.shape plan.scripts schedule trace

-- the text of such a trace, or of its acts
pub record IsReplay (file schedule : List ℕ) (acts : Bool) (text : List ℕ) : Type 0 where
  pub shape : Shape
  pub trace : List Turn
  pub replayed : IsTraceOf file schedule shape trace
  pub is : IsText shape trace acts text

-- known bytes grow by such a text
pub record WritesReplay (file schedule : List ℕ) (acts : Bool) (old new : Option (List ℕ)) : Type 0 where
  pub text : List ℕ
  pub replay : IsReplay file schedule acts text
  pub appended : Appends old new text

-- there is a trace of the file over the schedule
pub record HasReplay (file schedule : List ℕ) : Type 0 where
  pub shape : Shape
  pub trace : List Turn
  pub replayed : IsTraceOf file schedule shape trace

-- the core was refused memory
abbrev pub IsCoreFault : RunFault → Type 0
IsCoreFault (runs.Core fault) = Unit {0}
IsCoreFault (runs.Read fault) = ⊥
IsCoreFault (runs.Acts fault) = ⊥
IsCoreFault (runs.Shortening fault) = ⊥
IsCoreFault (runs.Absent decoded) = ⊥
IsCoreFault (runs.TooMany reached) = ⊥
IsCoreFault runs.Open = ⊥
IsCoreFault (runs.File why) = ⊥
IsCoreFault runs.Output = ⊥
IsCoreFault runs.Memory = ⊥

-- the plan is refused with this fault: memory was refused to its replay; or for the text of a trace
abbrev pub RefusesReplayOf : Plan → List ℕ → RunFault → Type 0
RefusesReplayOf plan schedule (runs.Core fault) = Unit {0}
RefusesReplayOf plan schedule runs.Memory = (trace : List Turn) × IsLawful plan.shape plan.scripts schedule trace
RefusesReplayOf plan schedule (runs.Read fault) = ⊥
RefusesReplayOf plan schedule (runs.Acts fault) = ⊥
RefusesReplayOf plan schedule (runs.Shortening fault) = ⊥
RefusesReplayOf plan schedule (runs.Absent decoded) = ⊥
RefusesReplayOf plan schedule (runs.TooMany reached) = ⊥
RefusesReplayOf plan schedule runs.Open = ⊥
RefusesReplayOf plan schedule (runs.File why) = ⊥
RefusesReplayOf plan schedule runs.Output = ⊥

-- the file is refused with this fault: as a script file; or the core was refused memory for the plan that it stands for; or memory was refused for the text of a trace
abbrev pub RefusesReplay : List ℕ → List ℕ → RunFault → Type 0
RefusesReplay file schedule (runs.Read refusal) = RefusesFile file refusal
RefusesReplay file schedule (runs.Core fault) = HasPlan file
RefusesReplay file schedule runs.Memory = HasReplay file schedule
RefusesReplay file schedule (runs.Acts fault) = ⊥
RefusesReplay file schedule (runs.Shortening fault) = ⊥
RefusesReplay file schedule (runs.Absent decoded) = ⊥
RefusesReplay file schedule (runs.TooMany reached) = ⊥
RefusesReplay file schedule runs.Open = ⊥
RefusesReplay file schedule (runs.File why) = ⊥
RefusesReplay file schedule runs.Output = ⊥
