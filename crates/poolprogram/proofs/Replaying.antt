-- What is written, and how a file is refused, where its plan is replayed.
use Rattle.std.proofs.Common.{◌≡◌, ◌∙◌, ℕ, Bool, List, Option, length, map, inr, refl, ap}
use Rattle.std.proofs.lemmas.List.{length-map}
use Rattle.commandline.specs.declared.tasks.Stop.{Stop}
use Rattle.commandline.specs.declared.tasks.Turns.{Turns}
use Rattle.coresteps.specs.declared.fault.CoreFault.{CoreFault}
use Rattle.scripts.specs.declared.plan.Plan.{Plan}
use Rattle.traces.specs.declared.script.Command.{Command}
use Rattle.traces.specs.declared.trace.Turn.{Turn}
use Rattle.scripts.specs.Readings.{StandsFor}
use Rattle.poolprogram.specs.Replays.{WritesReplay, WritesReplayOf, RefusesReplay, RefusesReplayOf}
use Rattle.poolprogram.specs.Turns.{IsPlanned, RefusesTurns}
use Rattle.poolprogram.specs.declared.run_fault.RunFault.{RunFault}
use Rattle.poolprogram.specs.declared.run_fault.RunFault.TheVariants as runs

pub writes_replay : (file schedule : List ℕ) (plan : Plan) (acts : Bool) (trace : List Turn) (old new : Option (List ℕ))
    → StandsFor file plan → WritesReplayOf plan schedule acts trace old new → WritesReplay file schedule acts old new
writes_replay file schedule plan acts trace old new stands writes = record {
  text = writes.text;
  replay = record {
    shape = plan.shape;
    trace = trace;
    replayed = record { plan = plan; stands = stands; shape = refl; lawful = writes.replay.lawful };
    is = writes.replay.is;
  };
  appended = writes.appended;
}

pub refuses_replay : (file schedule : List ℕ) (plan : Plan) (fault : RunFault)
    → StandsFor file plan → RefusesReplayOf plan schedule fault → RefusesReplay file schedule fault
refuses_replay file schedule plan (runs.Core fault) stands of = record { plan = plan; stands = stands }
refuses_replay file schedule plan runs.Memory stands (trace, lawful) =
    record { shape = plan.shape; trace = trace; replayed = record { plan = plan; stands = stands; shape = refl; lawful = lawful } }
refuses_replay file schedule plan (runs.Read fault) stands of = absurd of
refuses_replay file schedule plan (runs.Acts fault) stands of = absurd of
refuses_replay file schedule plan (runs.Shortening fault) stands of = absurd of
refuses_replay file schedule plan (runs.Absent decoded) stands of = absurd of
refuses_replay file schedule plan (runs.TooMany reached) stands of = absurd of
refuses_replay file schedule plan runs.Open stands of = absurd of
refuses_replay file schedule plan (runs.File why) stands of = absurd of
refuses_replay file schedule plan runs.Output stands of = absurd of

-- as many counts as lanes
pub as_many : (counts : List ℕ) (scripts : List (List Command)) (lanes : ℕ) → counts ≡ map length scripts → length scripts ≡ lanes → length counts ≡ lanes
as_many counts scripts lanes are each = ap length are ∙ length-map scripts length ∙ each

-- memory was refused to the replay of a plan
pub core_refuses : (file schedule : List ℕ) (turns : Turns) (stop : Option Stop) (plan : Plan) (fault : CoreFault)
    → IsPlanned file turns stop plan schedule → RefusesTurns file turns stop (runs.Core fault)
core_refuses file schedule turns stop plan fault planned = inr (record { plan = plan; schedule = schedule; planned = planned; refused = tt })
