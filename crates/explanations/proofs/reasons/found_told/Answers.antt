use Rattle.std.proofs.Common.{◌≡◌, ◌==◌, ◌∙◌, false, length, sym, append_assoc}
use Rattle.explanations.proofs.reasons.found_told.Goals as goal

pub returns : goal.returns
returns c =
    let some : (length c.args.content.now == 0) ≡ false = sym c.is_empty.ensures ∙ c.if-is_empty.false in
    simp (some, append_assoc) (simp (c.in_ok-shown.ensures, c.as_slice.ensures.value, c.in_ok-bytes.ensures) at c.format.ensures.ok)
