use Rattle.std.proofs.Common.{◌≡◌, Some, length, refl, sym, ◌∙◌, arith}
use Rattle.std.specs.Prelude.{slice_get}
use Rattle.std.proofs.lemmas.Option.{slice_get_read}
use Rattle.outcomes.proofs.StateLemmas.{lack-more, lack-all}
use Rattle.outcomes.proofs.table.find.Goals as goal

pub returns-then-are_same : goal.returns-then-are_same
returns-then-are_same c =
    let table = c.args.table.now in
    let i = c.loop-i.i in
    let other = c.index-table-i.result in
    let got : slice_get table i ≡ Some other = slice_get_read table (length table) i other refl (omega arith) c.index-table-i.is in
    let read : other.replies.items ≡ c.as_slice.result.now = cc (c.as_slice.ensures.value, c.index-table-i.is) in
    (other, got, read ∙ c.are_same.ensures.same c.if-are_same.true)

pub loop-i-preserved : goal.loop-i-preserved
loop-i-preserved c =
    let table = c.args.table.now in
    let i = c.loop-i.i in
    let other = c.index-table-i.result in
    let got : slice_get table i ≡ Some other = slice_get_read table (length table) i other refl (omega arith) c.index-table-i.is in
    let read : other.replies.items ≡ c.as_slice.result.now = cc (c.as_slice.ensures.value, c.index-table-i.is) in
    lack-more c.args.replies.now table i other got c.are_same.result (λ e. c.are_same.ensures.whole (sym read ∙ e)) c.if-are_same.false c.loop-i.invariant

pub returns : goal.returns
returns c = lack-all c.args.replies.now c.args.table.now c.loop-i.i (omega arith) c.loop-i.invariant
