use Rattle.std.proofs.Common.{◌≡◌, ◌-◌, ◌++◌}
use Rattle.schedules.specs.Draws.{drawn}
use Rattle.schedules.proofs.Drawing.{entries_from}
use Rattle.schedules.proofs.seeds.draw.Given as goal

-- the entries so far, and those that are still to be drawn, are all
abbrev pub invariant-loop : goal.invariant-loop
invariant-loop l = l.entries.items ++ entries_from l.lanes (l.n - l.counter) l.generator ≡ drawn l.fn.seed l.lanes l.n
