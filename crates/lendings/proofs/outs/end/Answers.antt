-- The loan was the one of its key: with it the lane's reference to the key goes.
use Rattle.std.proofs.Common.{◌≡◌, ℕ, refl, sym, ap, ◌∙◌, subst}
use Rattle.shardpool.specs.AfterCalls.{AfterRelease}
use Rattle.shardpool.specs.Loans.{LoanOf, KeepsOtherLoans}
use Rattle.lendings.specs.Lenders.{HaveNot}
use Rattle.lendings.specs.Outs.{loan_of, loans_of}
use Rattle.lendings.proofs.Keeping.{out-permuted, out-less, given-lent, given-once, rest-none, is-out}
use Rattle.lendings.proofs.Rows.{loans-taken, loans-back, taken-among}
use Rattle.lendings.proofs.outs.end.Goals as goal

pub give_back-requires-clause-lent : goal.give_back-requires-clause-lent
give_back-requires-clause-lent g c =
    let old = c.args.out.now.items in let rest = c.swap_remove-key.new.self.items in let one = c.swap_remove-key.result in
    given-lent g.T.Clear.content g.T.Clear.room c.args.lane.now (loans_of old) c.in-Ok.loan (loans_of rest)
    (loans-taken old rest c.args.index one c.in-Ok.loan c.requires.index c.swap_remove-key.ensures.value c.swap_remove-key.ensures.items c.in-Ok.ensures.ok) c.requires.out

pub give_back-requires-clause-last : goal.give_back-requires-clause-last
give_back-requires-clause-last g c =
    let old = c.args.out.now.items in let rest = c.swap_remove-key.new.self.items in let one = c.swap_remove-key.result in
    given-once g.T.Clear.content g.T.Clear.room c.args.lane.now (loans_of old) c.in-Ok.loan (loans_of rest)
    (loans-taken old rest c.args.index one c.in-Ok.loan c.requires.index c.swap_remove-key.ensures.value c.swap_remove-key.ensures.items c.in-Ok.ensures.ok) c.requires.out

pub returns-in-Ok-clause-out : goal.returns-in-Ok-clause-out
returns-in-Ok-clause-out g c =
    let old = c.args.out.now.items in let rest = c.swap_remove-key.new.self.items in let one = c.swap_remove-key.result in
    out-less g.T.Clear.content g.T.Clear.room c.args.lane.now (loans_of old) c.in-Ok.loan (loans_of rest)
    (loans-taken old rest c.args.index one c.in-Ok.loan c.requires.index c.swap_remove-key.ensures.value c.swap_remove-key.ensures.items c.in-Ok.ensures.ok) c.requires.out
    c.give_back.new.self c.give_back.ensures.released.refs c.give_back.ensures.released.one_less c.give_back.ensures.kept

pub returns-in-Ok-clause-ended : goal.returns-in-Ok-clause-ended
returns-in-Ok-clause-ended g c =
    let old = c.args.out.now.items in let rest = c.swap_remove-key.new.self.items in let one = c.swap_remove-key.result in
    let moved = loans-taken old rest c.args.index one c.in-Ok.loan c.requires.index c.swap_remove-key.ensures.value c.swap_remove-key.ensures.items c.in-Ok.ensures.ok in
    let same : c.in-Ok.loan.key ≡ one.key = ap (λ (loan : LoanOf g.row.T.Denot). loan.key) c.in-Ok.ensures.ok ∙ sym one.under in (
      one,
      c.swap_remove-key.ensures.value,
      (
        c.in-Ok.loan,
        same,
        moved,
        subst (λ (key : ℕ). HaveNot key (loans_of rest)) same
            (rest-none g.T.Clear.content g.T.Clear.room c.args.lane.now (loans_of old) c.in-Ok.loan (loans_of rest) moved c.requires.out),
        subst (λ (key : ℕ). AfterRelease g.row.T.Denot c.args.pool.now key c.args.lane.now c.give_back.new.self) same c.give_back.ensures.released,
      ),
      subst (λ (key : ℕ). KeepsOtherLoans g.T.Clear.content g.T.Clear.room key c.args.lane.now c.give_back.new.self) same c.give_back.ensures.kept,
    )

pub returns-in-Err-clause-out : goal.returns-in-Err-clause-out
returns-in-Err-clause-out g c =
    let old = c.args.out.now.items in let rest = c.swap_remove-key.new.self.items in let one = c.swap_remove-key.result in
    let taken = loans-taken old rest c.args.index one (loan_of one) c.requires.index c.swap_remove-key.ensures.value c.swap_remove-key.ensures.items refl in
    out-permuted g.T.Clear.content g.T.Clear.room c.args.lane.now (loans_of old) (loans_of c.push_reserved.new.self.items)
    (loans-back old rest c.push_reserved.new.self.items _ (loan_of one) c.push_reserved.ensures.items (ap (λ held. held.value) c.in-Err.ensures.err) taken) c.requires.out

pub returns-in-Err-clause-ended : goal.returns-in-Err-clause-ended
returns-in-Err-clause-ended g c =
    let old = c.args.out.now.items in let rest = c.swap_remove-key.new.self.items in let one = c.swap_remove-key.result in
    let taken = loans-taken old rest c.args.index one (loan_of one) c.requires.index c.swap_remove-key.ensures.value c.swap_remove-key.ensures.items refl in
    let among = taken-among (loans_of old) (loans_of rest) (loan_of one) taken in (
      one,
      c.swap_remove-key.ensures.value,
      (
        loan_of one,
        is-out g.T.Clear.content g.T.Clear.room c.args.lane.now (loans_of old) (loan_of one) one.key (sym one.under) among c.requires.out,
        loans-back old rest c.push_reserved.new.self.items _ (loan_of one) c.push_reserved.ensures.items (ap (λ held. held.value) c.in-Err.ensures.err) taken,
        refl,
      ),
      λ loan apart lent. lent,
    )
