use Rattle.coresteps.proofs.RegisterLemmas.{write_done, write_skips}
use Rattle.coresteps.proofs.progress.Progress.write.Goals as goal

pub returns-in-Filling : goal.returns-in-Filling
returns-in-Filling c z w number lane bytes more kept below at left =
    write_done z w number lane more kept below c.args.self.now at c.args.register c.args.register.small c.slot.result c.slot.ensures bytes
    c.in-Filling.key c.in-Filling.created c.in-Filling.is left

pub returns-in_default : goal.returns-in_default
returns-in_default c z w number lane bytes more kept below at left =
    write_skips z w number lane more kept below c.args.self.now at c.args.register c.args.register.small c.slot.result c.slot.ensures bytes
    c.in_default.not-Filling left
