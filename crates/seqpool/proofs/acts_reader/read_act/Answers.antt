use Rattle.seqpool.proofs.ActRefusals.{act-unlaned, act-uncut, act-unnamed}
use Rattle.seqpool.proofs.acts_reader.read_act.Goals as goal

pub returns-in_default : goal.returns-in_default
returns-in_default c = act-unlaned c.args.line.now c.in_default.ensures

pub returns-in_default-cut : goal.returns-in_default-cut
returns-in_default-cut c = act-uncut c.in-Some.lane c.args.line.now c.in-Some.rest.now c.in-Some.ensures c.in_default-cut.ensures

pub returns-in_default-read_name : goal.returns-in_default-read_name
returns-in_default-read_name c =
    act-unnamed c.in-Some.lane c.args.line.now c.in-Some.rest.now c.in-Some-cut.name.now c.in-Some-cut.operands.now c.in-Some.ensures
    c.in-Some-cut.ensures c.in_default-read_name.ensures
