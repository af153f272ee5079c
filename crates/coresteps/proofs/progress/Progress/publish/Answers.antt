use Rattle.coresteps.proofs.RegisterLemmas.{publish_done, publish_skips}
use Rattle.coresteps.proofs.progress.Progress.publish.Goals as goal

pub returns-in_default : goal.returns-in_default
returns-in_default c z w number lane more kept below at left =
    publish_skips z w number lane more kept below c.args.self.now at c.args.register c.args.register.small c.slot-slot.result c.slot-slot.ensures
    c.in_default.not-Filling left

pub returns : goal.returns
returns c z w number lane more kept below at left =
    publish_done z w number lane more kept below c.args.self.now at c.args.register c.args.register.small c.slot-slot.result c.slot-slot.ensures
    c.in-Filling.key c.in-Filling.created c.in-Filling.is left c.set_slot.new.self c.set_slot.ensures
