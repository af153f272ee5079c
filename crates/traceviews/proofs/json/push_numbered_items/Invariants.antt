use Rattle.std.proofs.Common.{◌≡◌, drop}
use Rattle.traceviews.specs.Json.{item_text}
use Rattle.traceviews.specs.Numbered.{numbered}
use Rattle.traceviews.specs.Pages.{Grows}
use Rattle.traceviews.specs.declared.page.Page.{Page}
use Rattle.traceviews.proofs.json.push_numbered_items.Given as goal

-- whatever comes of the rest comes behind what is there
abbrev pub invariant-loop-line : goal.invariant-loop-line
invariant-loop-line l = record {
  counted : l.number ≡ l.line-index;
  grows : (new : Page) → Grows l.out new (numbered item_text l.number (drop l.line-index l.lines)) → Grows l.fn.out new (numbered item_text 0 l.lines);
}
