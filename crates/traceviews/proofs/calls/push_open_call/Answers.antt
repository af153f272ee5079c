use Rattle.std.proofs.Common.{◌++◌, ◌-◌, ℕ, codes, refl, subst}
use Rattle.traceviews.specs.Calls.{call_head, open_call}
use Rattle.traceviews.specs.Pages.{Grows}
use Rattle.traceviews.proofs.PageLemmas.{grows_more}
use Rattle.traceviews.proofs.calls.push_open_call.Goals as goal

pub returns-in-Some : goal.returns-in-Some
returns-in-Some c =
    let old = c.args.out.now in
    let mid = c.push_call_head.new.out in
    let name = codes "unfinished" in
    let lane = c.args.lane in
    let begun = c.in-Some.begun in
    let head : Grows old mid (call_head lane begun (c.args.number - begun) name) =
    subst (λ (n : ℕ). Grows old mid (call_head lane begun n name)) c.saturating_sub.ensures c.push_call_head.ensures in
    let whole = grows_more old mid c.text.new.self (call_head lane begun (c.args.number - begun) name) (codes "{}}") _ head c.text.ensures refl in
    rw c.in-Some.is whole
