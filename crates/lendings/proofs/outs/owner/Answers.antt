-- The row is the one that stands there.
use Rattle.std.proofs.Common.{refl, sym, ap, ◌∙◌}
use Rattle.shardpool.specs.Loans.{LoanOf}
use Rattle.lendings.specs.Owners.{OwnedOf}
use Rattle.lendings.specs.Outs.{loan_of}
use Rattle.lendings.proofs.outs.owner.Goals as goal

pub returns-in-Ok : goal.returns-in-Ok
returns-in-Ok g c =
    let is = c.index-out-index.is in (
      c.index-out-index.result,
      is,
      c.of.ensures ∙ ap (λ (loan : LoanOf g.row.T.Denot). let owned : OwnedOf g.row.T.Denot = record { lane = c.args.number; loan = loan } in owned)
          (c.in-Ok.ensures ∙ ap loan_of (sym is)),
    )

pub returns-in-Err : goal.returns-in-Err
returns-in-Err g c = (c.index-out-index.result, c.index-out-index.is, refl)
