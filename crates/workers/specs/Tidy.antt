-- What stays so from line to line of a script.
use Rattle.std.specs.Prelude.{◌≡◌, ◌==◌, ℕ, ◌+◌, ◌-◌, ◌≤◌, length, Some, sum_by, if◌then◌else◌, List}
use mathlib.Core.List.{IsPrefix}
use Rattle.steplaws.specs.Facts.{most_references}
use Rattle.slotcell.specs.ByteBuf.{ByteBuf}
use Rattle.traces.specs.declared.script.Command.{Command}
use Rattle.traces.specs.declared.reply.Reply.{Reply}
use Rattle.shardpool.specs.Tokens.{PoolOf, LaneOf, FillingOf}
use Rattle.shardpool.specs.Lanes.{Owns, Made, SameLane, holds, refs}
use Rattle.workers.specs.declared.registers.TheConstants.{REGISTERS}
use Rattle.workers.specs.declared.registers.Register.{Register}
use Rattle.workers.specs.declared.registers.Held.{Held}
use Rattle.workers.specs.declared.registers.Held.TheVariants.{Empty, Filling, Reference}
use Rattle.workers.specs.Held.{filling_in}
use Rattle.workers.specs.Lines.{Desk, register_at, IsLine}

-- a lane with registers
abbrev pub desk : LaneOf → List Register → Desk
desk lane registers = record { lane = lane; registers = registers }

-- the most references besides those of the registers: so many that each register can have one more
abbrev pub most_besides : ℕ
most_besides = most_references - REGISTERS

-- how many references this is
abbrev pub weight : Held → ℕ
weight Empty = 0
weight (Filling filling) = 0
weight (Reference reference) = 1

-- how many references to the key this is
abbrev pub key_weight : ℕ → Held → ℕ
key_weight key Empty = 0
key_weight key (Filling filling) = 0
key_weight key (Reference reference) = if reference.key == key then 1 else 0

-- between two lines: each filling of the registers is the lane's, no two are of one key, and the lane has the references of the registers, to each key,
-- and at most so many besides that each register can have one more
pub record Tidy (pool : PoolOf) (at : Desk) : Type 0 where
  pub owns : Owns pool at.lane
  pub count : length at.registers ≡ REGISTERS
  pub made : (i : ℕ) (filling : FillingOf ByteBuf) → filling_in (register_at at.registers i).held ≡ Some filling → Made at.lane filling
  pub apart : (i j : ℕ) (filling other : FillingOf ByteBuf) → filling_in (register_at at.registers i).held ≡ Some filling
      → filling_in (register_at at.registers j).held ≡ Some other → filling.key ≡ other.key → i ≡ j
  pub held : (key : ℕ) → sum_by (λ register. key_weight key register.held) at.registers ≤ holds at.lane key
  pub room : refs at.lane ≤ most_besides + sum_by (λ register. weight register.held) at.registers

-- a line was run
pub record Runs (pool : PoolOf) (old : Desk) (command : Command) (reply : Reply) (new : Desk) : Type 0 where
  pub line : IsLine old command reply new
  pub tidy : Tidy pool new
  pub same : SameLane old.lane new.lane
  pub seen : IsPrefix old.lane.book.seen new.lane.book.seen
