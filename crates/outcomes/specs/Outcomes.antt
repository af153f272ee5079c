-- Every outcome of scripts.
use Rattle.std.specs.Prelude.{◌≡◌, ◌≢◌, ⊤, ℕ, ◌<◌, ◌≤◌, true, List, [], ◌∷◌, Some, length, slice_get}
use Rattle.keybits.specs.declared.shape.Shape.{Shape}
use Rattle.traces.specs.declared.script.Command.{Command}
use Rattle.traces.specs.declared.reply.Reply.{Reply}
use Rattle.traces.specs.declared.trace.Turn.{Turn}
use Rattle.traces.specs.Lawful.{world_of, is_finished, IsLawful}
use Rattle.traces.specs.TurnLaws.{turns_of, all_replies}
use Rattle.outcomes.specs.declared.fault.Unlisted.{Unlisted}
use Rattle.outcomes.specs.declared.fault.Unlisted.TheVariants as unlisted
use Rattle.outcomes.specs.declared.outcome.Outcome.{Outcome}
use Rattle.outcomes.specs.Among.{IsIn, IsCount}
use Rattle.outcomes.specs.Schedules.{IsUpTo}

-- scripts run to their ends: each entry of the schedule makes a turn of the trace, and after it every lane's script is at its end
pub record IsWhole (z : Shape) (scripts : List (List Command)) (schedule : List ℕ) (trace : List Turn) : Type 0 where
  pub lawful : IsLawful z scripts schedule trace
  pub turns : length trace ≡ length schedule
  pub ended : (lane : ℕ) → is_finished z (world_of z scripts trace) lane ≡ true

-- these are the replies of each lane in a trace
pub record AreReplied (z : Shape) (trace : List Turn) (replies : List (List Reply)) : Type 0 where
  pub count : length replies ≡ z.lanes
  pub each : (lane : ℕ) → lane < z.lanes → slice_get replies lane ≡ Some (all_replies (turns_of lane trace))

-- a schedule runs the scripts to their ends, and the lanes get these replies
abbrev pub EndsSo : Shape → List (List Command) → List ℕ → List (List Reply) → Type 0
EndsSo z scripts schedule replies = (trace : List Turn) × IsWhole z scripts schedule trace × AreReplied z trace replies

-- the outcome's schedule ends so, and it is the first that does; and so many do
pub record IsOutcome (z : Shape) (scripts : List (List Command)) (outcome : Outcome) : Type 0 where
  pub shown : EndsSo z scripts outcome.schedule.items outcome.replies.items
  pub first : (schedule : List ℕ) → EndsSo z scripts schedule outcome.replies.items → IsUpTo outcome.schedule.items schedule
  pub count : IsCount (λ schedule. EndsSo z scripts schedule outcome.replies.items) outcome.ways

-- none has these replies
abbrev pub LackReplies : List (List Reply) → List Outcome → Type 0
LackReplies replies outcomes = (outcome : Outcome) → IsIn outcome outcomes → outcome.replies.items ≢ replies

-- all have other replies
abbrev pub AreDifferent : List Outcome → Type 0
AreDifferent [] = ⊤
AreDifferent (outcome ∷ more) = LackReplies outcome.replies.items more × AreDifferent more

-- each is an outcome of the scripts, no outcome is missed or stands twice, and so many schedules run the scripts to their ends
pub record AreOutcomes (z : Shape) (scripts : List (List Command)) (outcomes : List Outcome) (ways : ℕ) : Type 0 where
  pub each : (outcome : Outcome) → IsIn outcome outcomes → IsOutcome z scripts outcome
  pub whole : (schedule : List ℕ) (replies : List (List Reply)) → EndsSo z scripts schedule replies
      → (outcome : Outcome) × IsIn outcome outcomes × (outcome.replies.items ≡ replies)
  pub different : AreDifferent outcomes
  pub count : IsCount (λ schedule. (trace : List Turn) × IsWhole z scripts schedule trace) ways

-- why outcomes aren't listed, where so many states may lead to them: as many were found at least; or memory was refused
abbrev pub IsUnlisted : ℕ → Unlisted → Type 0
IsUnlisted most (unlisted.TooMany found) = most ≤ found
IsUnlisted most unlisted.Memory = ⊤
