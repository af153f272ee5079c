use Rattle.std.proofs.Common.{◌∙◌}
use Rattle.seqpool.proofs.Collects.{any-has}
use Rattle.seqpool.proofs.pool.is_among.Goals as goal

pub returns : goal.returns
returns c = c.contains.ensures.value ∙ any-has c.args.places.now c.args.place
