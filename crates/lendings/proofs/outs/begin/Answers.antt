-- No loan of the key was out, so the lane had no reference to it.
use Rattle.std.proofs.Common.{◌≡◌, Option, List, [], ◌∷◌, ◌++◌, sym, ap, ◌∙◌, subst, option_map}
use Rattle.shardpool.specs.Tokens.{RefOf}
use Rattle.shardpool.specs.AfterCalls.{AfterGet, AfterRelease}
use Rattle.shardpool.specs.Loans.{LoanOf, IsLent, KeepsOtherLoans}
use Rattle.shardpool.specs.Lanes.{holds}
use Rattle.lendings.specs.declared.out.Out.{Out}
use Rattle.lendings.specs.Lenders.{AreOut}
use Rattle.lendings.specs.Outs.{loans_of}
use Rattle.lendings.proofs.Keeping.{none-held, out-missed, out-found, found-once, out-back, kept-back}
use Rattle.lendings.proofs.Rows.{loans-push}
use Rattle.lendings.proofs.outs.begin.Goals as goal

pub lend-requires-clause-first : goal.lend-requires-clause-first
lend-requires-clause-first g c = none-held g.T.Clear.content g.T.Clear.room c.args.lane.now (loans_of c.args.out.now.items) c.args.key c.requires.none c.requires.out

pub returns-in_default-clause-out : goal.returns-in_default-clause-out
returns-in_default-clause-out g c =
    let got = subst (λ (lent : Option (LoanOf g.row.T.Denot)). AfterGet g.row.T.Denot c.args.pool.now c.args.key c.args.lane.now c.lend.new.self
    (option_map (λ loan. let reference : RefOf = record { key = c.args.key } in reference) lent)) c.in_default.is c.lend.ensures.got in
    subst (λ (items : List (Out g.row.T.Denot)). AreOut g.T.Clear.content g.T.Clear.room c.lend.new.self (loans_of items)) (sym c.reserve.ensures.items)
    (out-missed g.T.Clear.content g.T.Clear.room c.args.pool.now c.args.key c.args.lane.now c.lend.new.self (loans_of c.args.out.now.items) got c.lend.ensures.kept c.requires.out)

pub give_back-requires-clause-lent : goal.give_back-requires-clause-lent
give_back-requires-clause-lent g c =
    subst (λ (loan : LoanOf g.row.T.Denot). IsLent g.T.Clear.content g.T.Clear.room c.lend.new.self loan) (sym c.in-Err.ensures.value_returned) c.in-Some.ensures.lent.1

pub give_back-requires-clause-last : goal.give_back-requires-clause-last
give_back-requires-clause-last g c =
    subst (λ (loan : LoanOf g.row.T.Denot). holds c.lend.new.self loan.key ≡ 1) (sym c.in-Err.ensures.value_returned)
    (found-once g.T.Clear.content g.T.Clear.room c.args.pool.now c.args.key c.args.lane.now c.lend.new.self (loans_of c.args.out.now.items) c.in-Some.loan c.requires.none
    c.in-Some.ensures.got c.in-Some.ensures.lent.0 c.in-Some.ensures.lent.1 c.in-Some.ensures.kept c.requires.out)

pub returns-in-Ok-clause-out : goal.returns-in-Ok-clause-out
returns-in-Ok-clause-out g c =
    let was = c.args.out.now.items in
    subst (λ (loans : List (LoanOf g.row.T.Denot)). AreOut g.T.Clear.content g.T.Clear.room c.lend.new.self loans)
    (sym (loans-push c.reserve.new.self.items c.push_reserved.new.self.items _ c.in-Some.loan c.push_reserved.ensures.items c.in-Ok.ensures.ok
    ∙ ap (λ (items : List (Out g.row.T.Denot)). loans_of items ++ c.in-Some.loan ∷ []) c.reserve.ensures.items))
    (out-found g.T.Clear.content g.T.Clear.room c.args.pool.now c.args.key c.args.lane.now c.lend.new.self (loans_of was) c.in-Some.loan c.requires.none
    c.in-Some.ensures.got c.in-Some.ensures.lent.0 c.in-Some.ensures.lent.1 c.in-Some.ensures.kept c.requires.out)

pub returns-in-Err-clause-out : goal.returns-in-Err-clause-out
returns-in-Err-clause-out g c =
    let was = c.args.out.now.items in let loan = c.in-Some.loan in let returned = c.in-Err.ensures.value_returned in
    subst (λ (items : List (Out g.row.T.Denot)). AreOut g.T.Clear.content g.T.Clear.room c.give_back.new.self (loans_of items)) (sym c.reserve.ensures.items)
    (out-back g.T.Clear.content g.T.Clear.room c.args.pool.now c.args.key c.args.lane.now c.lend.new.self (loans_of was) loan c.requires.none
    c.in-Some.ensures.got c.in-Some.ensures.lent.0 c.in-Some.ensures.lent.1 c.in-Some.ensures.kept c.requires.out c.give_back.new.self
    (subst (λ (l : LoanOf g.row.T.Denot). AfterRelease g.row.T.Denot c.args.pool.now l.key c.lend.new.self c.give_back.new.self) returned c.give_back.ensures.released)
    (subst (λ (l : LoanOf g.row.T.Denot). KeepsOtherLoans g.T.Clear.content g.T.Clear.room l.key c.lend.new.self c.give_back.new.self) returned c.give_back.ensures.kept))

pub returns-in-Err-clause-kept : goal.returns-in-Err-clause-kept
returns-in-Err-clause-kept g c =
    let was = c.args.out.now.items in let loan = c.in-Some.loan in let returned = c.in-Err.ensures.value_returned in
    kept-back g.T.Clear.content g.T.Clear.room c.args.pool.now c.args.key c.args.lane.now c.lend.new.self (loans_of was) loan c.requires.none
    c.in-Some.ensures.got c.in-Some.ensures.lent.0 c.in-Some.ensures.lent.1 c.in-Some.ensures.kept c.requires.out c.give_back.new.self
    (subst (λ (l : LoanOf g.row.T.Denot). AfterRelease g.row.T.Denot c.args.pool.now l.key c.lend.new.self c.give_back.new.self) returned c.give_back.ensures.released)
    (subst (λ (l : LoanOf g.row.T.Denot). KeepsOtherLoans g.T.Clear.content g.T.Clear.room l.key c.lend.new.self c.give_back.new.self) returned c.give_back.ensures.kept)
