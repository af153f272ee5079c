use Rattle.seqpool.proofs.ShapeTexts.{no-tag, no-ending}
use Rattle.seqpool.proofs.acts_reader.read_ending.Goals as goal

pub returns-in_default : goal.returns-in_default
returns-in_default c = no-tag c.in-Some.last_generation c.args.text.now c.in-Some.tag.now c.in-Some.ensures c.in_default.ensures

pub returns-in_default-read_u32 : goal.returns-in_default-read_u32
returns-in_default-read_u32 c = no-ending c.args.text.now c.in-None.ensures c.in_default-read_u32.ensures
