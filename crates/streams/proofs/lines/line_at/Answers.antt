use Rattle.std.proofs.Common.{◌≡◌, ◌∙◌, ◌-◌, ◌<◌, ℕ, zero, suc, List, ap, arith}
use Rattle.streams.specs.Lines.{after_line, after_lines}
use Rattle.streams.proofs.lines.line_at.Goals as goal

next : (count : ℕ) (text : List ℕ) → 0 < count → after_lines (count - 1) (after_line text) ≡ after_lines count text
next zero text some = absurd (omega arith)
next (suc count) text some = let e : suc count - 1 ≡ count = omega arith in ap (λ (n : ℕ). after_lines n (after_line text)) e

none : (count : ℕ) (text : List ℕ) → count ≡ 0 → after_lines count text ≡ text
none count text e = ap (λ (n : ℕ). after_lines n text) e

pub loop-left-preserved : goal.loop-left-preserved
loop-left-preserved c =
    let at = c.loop-left in
    ap (after_lines (at.left - 1)) c.after_line-rest.ensures ∙ next at.left at.rest.now c.loop-left-test.true ∙ at.invariant
