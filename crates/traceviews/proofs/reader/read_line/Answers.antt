use Rattle.std.proofs.Common.{rules, ◌≡◌, None, arith}
use Rattle.std.proofs.lemmas.Option.{MatchOption-at_none}
use Rattle.std.proofs.lemmas.Result.{err_from_is_err_and}
use Rattle.traceviews.specs.ReadLines.{IsEntryText, IsLineText}
use Rattle.traceviews.proofs.LineRefusals.{refuses-as, line-uncut, line-unlaned, line-unentered, line-is}
use Rattle.traceviews.proofs.reader.read_line.Goals as goal

pub returns-in_default : goal.returns-in_default
returns-in_default c =
    let none : c.cut.result ≡ None = search rules in
    line-uncut c.args.text.now c.requires (MatchOption-at_none _ _ none c.cut.ensures)

pub returns-in_default-read_u32 : goal.returns-in_default-read_u32
returns-in_default-read_u32 c =
    let none : c.read_u32.result ≡ None = search rules in
    line-unlaned c.args.text.now c.in-Some.lane.now c.in-Some.rest.now c.requires c.in-Some.ensures
    (MatchOption-at_none _ _ none c.read_u32.ensures)

pub returns-in_err-entry : goal.returns-in_err-entry
returns-in_err-entry c =
    let p = err_from_is_err_and c.from_residual.result c.from_residual.ensures.1 in
    rw (p.1, p.2)
    (refuses-as IsEntryText IsLineText c.in-Some.rest.now c.args.text.now
    (line-unentered c.args.text.now c.in-Some.lane.now c.in-Some.rest.now c.requires c.in-Some.ensures)
    c.in_err-entry.field-0.0 (c.in_err-entry.ensures {u = tt}))

pub returns : goal.returns
returns c =
    line-is c.args.text.now c.in-Some.lane.now c.in-Some.rest.now _ c.in-Some.ensures.0 (omega arith) c.in-Some-read_u32.ensures.1
    c.in_ok-entry.ensures
