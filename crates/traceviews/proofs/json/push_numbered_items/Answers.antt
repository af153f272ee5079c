use Rattle.std.proofs.Common.{get_or, arith, subst}
use Rattle.traceviews.specs.Json.{item_text}
use Rattle.traceviews.specs.Pages.{Grows}
use Rattle.traceviews.specs.declared.line.Line.{Line}
use Rattle.traceviews.proofs.PageLemmas.{numbered_next, numbered_all}
use Rattle.traceviews.proofs.json.push_numbered_items.Goals as goal

pub loop-line-preserved : goal.loop-line-preserved
loop-line-preserved c =
    let at = c.loop-line in
    let line = c.line-item.result in
    let lines = c.args.lines.now in
    let item : Grows at.out c.push_item.new.out (item_text at.number (get_or lines at.line-index line)) =
    subst (λ (l : Line). Grows at.out c.push_item.new.out (item_text at.number l)) c.line-item.is c.push_item.ensures in
    record {
      counted = omega arith;
      grows = λ new rest. at.invariant.grows new
          (numbered_next item_text lines at.line-index at.number line at.out c.push_item.new.out new c.loop-line-test.true item rest);
    }

pub returns : goal.returns
returns c = c.loop-line.invariant.grows c.loop-line.out (numbered_all item_text c.args.lines.now c.loop-line.line-index c.loop-line.number c.loop-line.out (omega arith))
