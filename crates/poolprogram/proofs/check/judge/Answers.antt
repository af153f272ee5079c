use Rattle.std.proofs.Common.{rules}
use Rattle.seqpool.specs.Checker.{IsIllegalAt, IsSummary}
use Rattle.seqpool.specs.Pool.{IsLegal}
use Rattle.poolprogram.proofs.Verdicts.{legal_verdict, illegal_verdict}
use Rattle.poolprogram.proofs.check.judge.Goals as goal

pub returns-in-Err-Illegal-clause-ok : goal.returns-in-Err-Illegal-clause-ok
returns-in-Err-Illegal-clause-ok c =
    let refused = c.in-Err-Illegal in
    record {
      shape = c.in_ok-shape.shape;
      history = c.in_ok-shape.acts.items;
      stands = c.in_ok-shape.ensures.ok;
      index = refused.index;
      fault = refused.fault;
      illegal = rw c.as_slice.ensures.value at (c.check.ensures.illegal refused.index refused.fault (search rules));
      is = c.in_ok-line-in-Err-Illegal.ensures;
    }

pub returns-in_err-line-in-Ok-clause-err : goal.returns-in_err-line-in-Ok-clause-err
returns-in_err-line-in-Ok-clause-err c =
    let z = c.in_ok-shape.shape in
    let history = c.in_ok-shape.acts.items in
    let legal : IsLegal z history = rw c.as_slice.ensures.value at c.in-Ok.ensures.legal in
    let counts : IsSummary z history c.in-Ok.summary = rw c.as_slice.ensures.value at c.in-Ok.ensures.counts in
    let there = legal_verdict c.args.acts.now z history c.in-Ok.summary c.in_ok-shape.ensures.ok legal counts in
    search rules

pub returns-in_err-line-in-Err-Illegal-clause-err : goal.returns-in_err-line-in-Err-Illegal-clause-err
returns-in_err-line-in-Err-Illegal-clause-err c =
    let z = c.in_ok-shape.shape in
    let history = c.in_ok-shape.acts.items in
    let refused = c.in-Err-Illegal in
    let illegal : IsIllegalAt z history refused.index refused.fault = rw c.as_slice.ensures.value at (c.check.ensures.illegal refused.index refused.fault (search rules)) in
    let there = illegal_verdict c.args.acts.now z history refused.index refused.fault c.in_ok-shape.ensures.ok illegal in
    search rules
