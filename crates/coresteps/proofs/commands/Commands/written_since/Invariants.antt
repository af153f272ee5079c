-- The bytes of the writes so far.
use Rattle.std.proofs.Common.{◌≡◌, ◌-◌, take, drop, flat_map}
use Rattle.coresteps.specs.Writes.{bytes_at, write_indices}
use Rattle.coresteps.proofs.commands.Commands.written_since.Given as goal

abbrev pub invariant-loop-index : goal.invariant-loop-index
invariant-loop-index l =
    (l.index-items ≡ write_indices l.fn.register.number l.created (take (l.done - l.created) (drop l.created l.commands)))
    × (l.content ≡ flat_map (bytes_at l.commands) (take l.index-index l.index-items))
