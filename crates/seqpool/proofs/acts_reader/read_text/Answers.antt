use Rattle.std.proofs.Common.{rules, ◌≡◌, None, refl, sym, subst, length}
use Rattle.std.proofs.lemmas.Bool.{eqb-true}
use Rattle.std.proofs.lemmas.Option.{MatchOption-at_none}
use Rattle.std.proofs.lemmas.Result.{err_from_is_err_and}
use Rattle.seqpool.specs.ActsPlaces.{RefusesText}
use Rattle.seqpool.proofs.TextLaws.{stands}
use Rattle.seqpool.proofs.WrongLines.{refuses-empty, refuses-shape, refuses-fault, refuses-acts}
use Rattle.seqpool.proofs.acts_reader.read_text.Goals as goal

pub returns-then-is_empty : goal.returns-then-is_empty
returns-then-is_empty c =
    subst (RefusesText c.args.bytes.now) (sym c.at_line.ensures)
    (refuses-empty c.args.bytes.now (eqb-true (length c.args.bytes.now) 0 (search rules)))

pub returns-in_default : goal.returns-in_default
returns-in_default c =
    let none : c.read_shape.result ≡ None = search rules in
    subst (RefusesText c.args.bytes.now) (sym c.at_line-in_default.ensures)
    (refuses-shape c.args.bytes.now c.first_line.result.0.now c.first_line.result.1.now c.first_line.ensures.line
    (MatchOption-at_none _ _ none c.read_shape.ensures))

pub returns-in-Err : goal.returns-in-Err
returns-in-Err c =
    subst (RefusesText c.args.bytes.now) (sym c.at_line-in-Err.ensures)
    (refuses-fault c.args.bytes.now c.first_line.result.0.now c.first_line.result.1.now c.in-Some.shape c.in-Err.fault c.first_line.ensures.line
    c.in-Some.ensures (((c.in-Err.ensures {u = tt}).err c.in-Err.fault).0 refl))

pub returns-in_err-acts : goal.returns-in_err-acts
returns-in_err-acts c =
    let p = err_from_is_err_and c.from_residual.result c.from_residual.ensures.1 in
    rw (p.1, p.2)
    (refuses-acts c.args.bytes.now c.first_line.result.0.now c.first_line.result.1.now c.in-Some.shape c.in_err-acts.field-0.0
    c.first_line.ensures.line c.in-Some.ensures ((c.in_default-check.ensures {u = tt}).ok.0 refl) (c.in_err-acts.ensures {u = tt}))

pub returns : goal.returns
returns c =
    stands c.args.bytes.now c.first_line.result.0.now c.first_line.result.1.now c.in-Some.shape c.in_ok-acts.acts.items
    c.first_line.ensures.line c.in-Some.ensures ((c.in_default-check.ensures {u = tt}).ok.0 refl) (c.in_ok-acts.ensures {u = tt})

pub check-requires : goal.check-requires
check-requires c = c.in-Some.ensures.0.alone
