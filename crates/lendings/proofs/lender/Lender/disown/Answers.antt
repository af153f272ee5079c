-- The loan that ended, or didn't, is that of the owner's key.
use Rattle.std.proofs.Common.{◌≡◌, ℕ, List, ap, ◌∙◌, slice_index_or, subst}
use Rattle.shardpool.specs.Loans.{KeepsOtherLoans}
use Rattle.lendings.specs.declared.out.Out.{Out}
use Rattle.lendings.specs.Owning.{Ended}
use Rattle.lendings.specs.Outs.{lender_of}
use Rattle.lendings.proofs.Quiet.{quiet-ended}
use Rattle.lendings.proofs.lender.Lender.disown.Goals as goal

pub returns-clause-disowned : goal.returns-clause-disowned
returns-clause-disowned g c =
    let tried = c.end.ensures.ended in
    let same : tried.0.key ≡ c.args.owned.loan.key = ap (λ (one : Out g.row.T.Denot). one.key) tried.1
    ∙ (subst (λ (items : List (Out g.row.T.Denot)). (slice_index_or items c.in-Some.index tried.0).key ≡ c.key.result) c.as_slice.ensures.value (c.in-Some.ensures.some.1 tried.0)
    ∙ c.key.ensures) in
    rw (← c.self.view_is) (
      (cc),
      subst (λ (key : ℕ). Ended g.T.Clear.content g.T.Clear.room c.args.pool.now key (lender_of c.self.inside.lane c.self.inside.out.items) (lender_of c.end.new.lane c.end.new.out.items) c.end.result)
          same tried.2,
    )

pub returns-clause-kept : goal.returns-clause-kept
returns-clause-kept g c =
    let tried = c.end.ensures.ended in
    let same : tried.0.key ≡ c.args.owned.loan.key = ap (λ (one : Out g.row.T.Denot). one.key) tried.1
    ∙ (subst (λ (items : List (Out g.row.T.Denot)). (slice_index_or items c.in-Some.index tried.0).key ≡ c.key.result) c.as_slice.ensures.value (c.in-Some.ensures.some.1 tried.0)
    ∙ c.key.ensures) in
    rw (← c.self.view_is) (subst (λ (key : ℕ). KeepsOtherLoans g.T.Clear.content g.T.Clear.room key c.self.inside.lane c.end.new.lane) same tried.3)

pub returns-clause-quiet : goal.returns-clause-quiet
returns-clause-quiet g c =
    let tried = c.end.ensures.ended in
    rw (← c.self.view_is) (quiet-ended c.args.pool.now tried.0.key g.T.Clear.content g.T.Clear.room (lender_of c.self.inside.lane c.self.inside.out.items)
    (lender_of c.end.new.lane c.end.new.out.items) c.end.result tried.2)
