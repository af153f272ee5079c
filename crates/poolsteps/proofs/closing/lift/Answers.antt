use Rattle.std.proofs.Common.{◌∙◌, Some, ap}
use Rattle.core.specs.Mem.Slots.{slots_items}
use Rattle.poolsteps.proofs.Joining.{read-some, some-read}
use Rattle.poolsteps.proofs.closing.lift.Goals as goal

pub into_share-requires : goal.into_share-requires
into_share-requires g c = some-read (slots_items c.args.slots.now) c.args.index c.take-slot.result c.requires.share c.take-slot.ensures.value

pub returns-clause-share : goal.returns-clause-share
returns-clause-share g c =
    read-some (slots_items c.args.slots.now) c.args.index c.take-slot.result c.requires.share c.take-slot.ensures.value ∙ ap Some c.into_share.ensures
