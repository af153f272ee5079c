use Rattle.std.proofs.Common.{◌≡◌, take}
use Rattle.std.specs.List.{flat_map}
use Rattle.poolprogram.specs.Runs.{done_text}
use Rattle.poolprogram.proofs.texts.replies_text.Given as goal

abbrev pub invariant-loop-done : goal.invariant-loop-done
invariant-loop-done l = l.text.items ≡ flat_map done_text (take l.done-index l.dones)
