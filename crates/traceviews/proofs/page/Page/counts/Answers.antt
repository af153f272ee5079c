use Rattle.std.proofs.Common.{◌++◌, ◌∙◌, ℕ, ap, codes, decimal}
use Rattle.traces.proofs.TextLemmas.{appended}
use Rattle.traceviews.proofs.page.Page.counts.Goals as goal

pub returns : goal.returns
returns c = λ whole.
    let old = c.args.self.now.bytes.items in
    let mid = c.named.new.self.bytes.items in
    let last = c.named-2.ensures whole in
    let first = c.named.ensures last.0 in (
      first.0,
      appended old (codes " count " ++ decimal c.args.count) (codes " generation " ++ decimal c.args.generation) mid _
          (first.1 ∙ ap (λ (n : ℕ). old ++ (codes " count " ++ decimal n)) c.from.ensures)
          (last.1 ∙ ap (λ (n : ℕ). mid ++ (codes " generation " ++ decimal n)) c.from-2.ensures),
    )
