-- The lane has as many references as loans are out.
use Rattle.std.proofs.Common.{◌≡◌, List, [], length, sym, ap, ◌∙◌, subst, arith}
use Rattle.std.proofs.lemmas.List.{nil_from_length}
use Rattle.shardpool.specs.Tokens.{LaneOf}
use Rattle.shardpool.specs.Lanes.{refs}
use Rattle.shardpool.specs.Loans.{LoanOf}
use Rattle.lendings.specs.Lenders.{AreOut}
use Rattle.lendings.specs.Outs.{loans_of, lender_of}
use Rattle.lendings.specs.Sweeps.{Sweeps}
use Rattle.lendings.proofs.lender.Lender.close.Goals as goal

pub returns-in-Ok-clause-ok : goal.returns-in-Ok-clause-ok
returns-in-Ok-clause-ok g c =
    let loans = loans_of c.end_all.new.out.items in let is = c.in-Ok.ensures.ok in
    let none : loans ≡ [] = nil_from_length loans (sym c.end_all.ensures.out.all ∙ is.1) in
    rw (← c.self.view_is) (
      ap refs is.0 ∙ is.1,
      subst (λ (left : List (LoanOf g.row.T.Denot)). Sweeps g.T.Clear.content g.T.Clear.room c.args.pool.now (lender_of c.self.inside.lane c.self.inside.out.items)
          (record { lane = c.in-Ok.lane; loans = left })) none
          (subst (λ (lane : LaneOf). Sweeps g.T.Clear.content g.T.Clear.room c.args.pool.now (lender_of c.self.inside.lane c.self.inside.out.items)
          (record { lane = lane; loans = loans })) (sym is.0) c.end_all.ensures.sweeps),
    )

pub invariant_of-result : goal.invariant_of-result
invariant_of-result g c =
    subst (λ (lane : LaneOf). AreOut g.T.Clear.content g.T.Clear.room lane (loans_of c.end_all.new.out.items)) (sym c.in-Err.ensures.err.0) c.end_all.ensures.out

pub returns-in-Err-clause-err : goal.returns-in-Err-clause-err
returns-in-Err-clause-err g c =
    let loans = loans_of c.end_all.new.out.items in let is = c.in-Err.ensures.err in let all = c.end_all.ensures.out.all in let some = is.1 in
    rw (← c.self.view_is) (
      (λ (none : loans ≡ []). let few : length loans ≡ 0 = ap length none in absurd (omega (arith, few, all, some))),
      subst (λ (lane : LaneOf). Sweeps g.T.Clear.content g.T.Clear.room c.args.pool.now (lender_of c.self.inside.lane c.self.inside.out.items)
          (record { lane = lane; loans = loans })) (sym is.0) c.end_all.ensures.sweeps,
    )
