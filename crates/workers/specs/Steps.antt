-- Running lines one after another.
use Rattle.std.specs.Prelude.{ℕ, List, take, Option}
use mathlib.Core.List.{IsPrefix}
use Rattle.traces.specs.declared.script.Command.{Command}
use Rattle.traces.specs.declared.reply.Reply.{Reply}
use Rattle.shardpool.specs.Tokens.{PoolOf}
use Rattle.shardpool.specs.Lanes.{SameLane}
use Rattle.workers.specs.Lines.{Desk, AreLines}
use Rattle.workers.specs.Tidy.{Tidy}
use Rattle.workers.specs.Works.{Stops}

-- so many lines were run, with these replies
pub record RunsOn (pool : PoolOf) (old : Desk) (script : List Command) (ran : ℕ) (replies : List Reply) (new : Desk) : Type 0 where
  pub lines : AreLines old (take ran script) replies new
  pub tidy : Tidy pool new
  pub same : SameLane old.lane new.lane
  pub seen : IsPrefix old.lane.book.seen new.lane.book.seen

-- lines were run up to where the worker was stopped
abbrev pub RunsTo : PoolOf → Desk → List Command → Option ℕ → List Reply → Desk → Type 0
RunsTo pool old script stopped_at replies new = (ran : ℕ) × Stops ran script stopped_at × RunsOn pool old script ran replies new
