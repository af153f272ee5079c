use Rattle.coresteps.proofs.RegisterLemmas.{release_done, release_skips}
use Rattle.coresteps.proofs.progress.Progress.release.Goals as goal

pub returns-in_default : goal.returns-in_default
returns-in_default c z w number lane more kept below at left =
    release_skips z w number lane more kept below c.args.self.now at c.args.register c.args.register.small c.slot-slot.result c.slot-slot.ensures
    c.in_default.not-Reference left

pub returns : goal.returns
returns c z w number lane more kept below at left =
    release_done z w number lane more kept below c.args.self.now at c.args.register c.args.register.small c.slot-slot.result c.slot-slot.ensures
    c.in-Reference.key c.in-Reference.is left c.set_slot.new.self c.set_slot.ensures
