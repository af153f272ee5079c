-- The loans in a row of those that are out.
use Rattle.std.specs.Prelude.{List, map}
use Rattle.std.specs.Arc.{arc_value}
use Rattle.shardpool.specs.Tokens.{LaneOf}
use Rattle.shardpool.specs.Loans.{LoanOf}
use Rattle.lendings.specs.declared.out.Out.{Out}
use Rattle.lendings.specs.Lenders.{LenderOf}

abbrev pub loan_of : {T : Type 0} → Out T → LoanOf T
loan_of one = arc_value one.held

abbrev pub loans_of : {T : Type 0} → List (Out T) → List (LoanOf T)
loans_of out = map loan_of out

abbrev pub lender_of : {T : Type 0} → LaneOf → List (Out T) → LenderOf T
lender_of lane out = record { lane = lane; loans = loans_of out }
