use Rattle.std.proofs.Common.{◌++◌, ◌+◌, ◌-◌, ℕ, List, codes, refl, subst}
use Rattle.traceviews.specs.Calls.{call_head, ended_title}
use Rattle.traceviews.specs.Json.{entry_object}
use Rattle.traceviews.specs.Pages.{Grows}
use Rattle.traceviews.proofs.PageLemmas.{grows_more}
use Rattle.traceviews.proofs.calls.push_ended_call.Goals as goal

pub returns : goal.returns
returns c =
    let p0 = c.args.out.now in
    let p1 = c.push_call_head.new.out in
    let p2 = c.push_entry.new.out in
    let lane = c.args.lane in
    let begun = c.args.begun in
    let lasts = c.args.number + 1 - begun in
    let title = ended_title c.args.last.now c.args.reply.now in
    let object = entry_object c.args.reply.now in
    let told = c.saturating_sub-lasts.result in
    let t1 = call_head lane begun lasts title in
    let t2 = t1 ++ object in
    let named : Grows p0 p1 (call_head lane begun told title) = subst (λ (name : List ℕ). Grows p0 p1 (call_head lane begun told name)) c.ended_title.ensures c.push_call_head.ensures in
    let g1 : Grows p0 p1 t1 = subst (λ (n : ℕ). Grows p0 p1 (call_head lane begun n title)) c.saturating_sub-lasts.ensures named in
    let g2 = grows_more p0 p1 p2 t1 object t2 g1 c.push_entry.ensures refl in
    grows_more p0 p2 c.text.new.self t2 (codes "}") _ g2 c.text.ensures refl
