-- The row is that of the key.
use Rattle.std.proofs.Common.{◌≡◌, ◌<◌, ◌-◌, ℕ, Bool, List, Ok, length, slice_index_or, sym, ap, ◌∙◌, subst, arith}
use Rattle.std.specs.Prelude.{is_some}
use Rattle.lendings.specs.declared.out.Out.{Out}
use Rattle.lendings.specs.Lenders.{HaveNot}
use Rattle.lendings.specs.Outs.{loan_of, loans_of, lender_of}
use Rattle.lendings.specs.Owning.{Begun}
use Rattle.lendings.proofs.Having.{has-there, has-begun, owned-shared}
use Rattle.lendings.proofs.outs.own.Goals as goal

pub returns-in-Some-clause-owned : goal.returns-in-Some-clause-owned
returns-in-Some-clause-owned g c =
    let made = c.owner.ensures in let one = made.0 in let items = c.args.out.now.items in let found = c.in-Some.ensures.some in
    let low : c.in-Some.index < length items = subst (λ (rows : List (Out g.row.T.Denot)). c.in-Some.index < length rows) c.as_slice.ensures.value found.0 in
    let value : one ≡ slice_index_or items c.in-Some.index one
    = subst (λ (rows : List (Out g.row.T.Denot)). one ≡ slice_index_or rows c.in-Some.index one) c.as_slice-in-Some.ensures.value made.1 in
    let same : one.key ≡ c.args.key = ap (λ (o : Out g.row.T.Denot). o.key) value
    ∙ subst (λ (rows : List (Out g.row.T.Denot)). (slice_index_or rows c.in-Some.index one).key ≡ c.args.key) c.as_slice.ensures.value (found.1 one) in
    let lender = lender_of c.args.lane.now items in
    owned-shared g.T.Clear.content g.T.Clear.room c.args.pool.now c.args.key lender lender c.number-number.result (loan_of one) c.owner.result c.number-number.ensures
    (has-there g.T.Clear.content g.T.Clear.room c.args.pool.now c.args.key c.args.lane.now items c.in-Some.index one low value same c.requires.out) made.2

pub returns-clause-owned : goal.returns-clause-owned
returns-clause-owned g c =
    let made = c.owner-2.ensures in let one = made.0 in let items = c.begin.new.out.items in let index : ℕ = c.len.result - 1 in
    let old = lender_of c.args.lane.now c.args.out.now.items in let new = lender_of c.begin.new.lane items in
    let last = c.in_ok-begin.ensures.last c.if-not-branch.false in
    let len : length items ≡ c.len.result = ap length (sym c.as_slice-2.ensures.value) ∙ (c.as_slice-2.ensures.len ∙ sym c.len.ensures) in
    let count = c.len.ensures in
    let some = last.0 in
    let low : index < length items = omega (arith, len, count, some) in
    let value : one ≡ slice_index_or items index one
    = subst (λ (rows : List (Out g.row.T.Denot)). one ≡ slice_index_or rows index one) c.as_slice-2.ensures.value made.1 in
    let same : one.key ≡ c.args.key = ap (λ (o : Out g.row.T.Denot). o.key) value
    ∙ subst (λ (n : ℕ). (slice_index_or items (n - 1) one).key ≡ c.args.key) (sym c.len.ensures) (last.1 one) in
    let none = subst (λ (rows : List (Out g.row.T.Denot)). HaveNot c.args.key (loans_of rows)) c.as_slice.ensures.value (c.find.ensures.none (ap is_some c.in_default.is)) in
    let begun = subst (λ (found : Bool). Begun g.T.Clear.content g.T.Clear.room c.args.pool.now c.args.key old new (Ok found)) c.if-not-branch.false c.in_ok-begin.ensures.begun in
    owned-shared g.T.Clear.content g.T.Clear.room c.args.pool.now c.args.key old new c.number-number.result (loan_of one) c.owner-2.result c.number-number.ensures
    (has-begun g.T.Clear.content g.T.Clear.room c.args.pool.now c.args.key old c.begin.new.lane items index one none begun c.in_ok-begin.ensures.out low value same)
    made.2
