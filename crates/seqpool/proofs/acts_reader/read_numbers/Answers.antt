use Rattle.std.proofs.Common.{refl}
use Rattle.seqpool.proofs.ShapeTexts.{shape-of, no-lanes, no-first_page, no-pages, no-last}
use Rattle.seqpool.proofs.acts_reader.read_numbers.Goals as goal

pub returns-in_default : goal.returns-in_default
returns-in_default c = no-lanes c.args.text.now c.in_default.ensures

pub returns-in_default-read_u32_before : goal.returns-in_default-read_u32_before
returns-in_default-read_u32_before c =
    no-first_page c.in-Some.lanes c.args.text.now c.in-Some.rest.now c.in-Some.ensures c.in_default-read_u32_before.ensures

pub returns-in_default-read_u32_before-2 : goal.returns-in_default-read_u32_before-2
returns-in_default-read_u32_before-2 c =
    no-pages c.in-Some.lanes c.in-Some-read_u32_before.first_page c.args.text.now c.in-Some.rest.now c.in-Some-read_u32_before.rest.now
    c.in-Some.ensures c.in-Some-read_u32_before.ensures c.in_default-read_u32_before-2.ensures

pub returns-in_default-read_ending : goal.returns-in_default-read_ending
returns-in_default-read_ending c =
    no-last c.in-Some.lanes c.in-Some-read_u32_before.first_page c.in-Some-read_u32_before-2.pages c.args.text.now c.in-Some.rest.now
    c.in-Some-read_u32_before.rest.now c.in-Some-read_u32_before-2.rest.now c.in-Some.ensures c.in-Some-read_u32_before.ensures
    c.in-Some-read_u32_before-2.ensures c.in_default-read_ending.ensures

pub returns : goal.returns
returns c =
    shape-of _ c.args.text.now c.in-Some.rest.now c.in-Some-read_u32_before.rest.now c.in-Some-read_u32_before-2.rest.now refl c.in-Some.ensures
    c.in-Some-read_u32_before.ensures c.in-Some-read_u32_before-2.ensures c.in-Some-read_ending.ensures
