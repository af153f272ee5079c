use Rattle.std.proofs.Common.{◌+◌, ◌∙◌, ℕ, List, ap, arith}
use Rattle.std.proofs.lemmas.List.{take_all, length-drop}
use Rattle.streams.specs.Lines.{behind_end}
use Rattle.streams.proofs.lines.after_line.Goals as goal

pub returns-in-Some : goal.returns-in-Some
returns-in-Some c =
    let text : List ℕ = c.args.text.now in
    let end : ℕ = c.in-Some.end in
    take_all _ _ (omega (arith, length-drop (end + 1) text)) ∙ ap (behind_end text) c.in-Some.ensures

pub returns-in-None : goal.returns-in-None
returns-in-None c = ap (behind_end c.args.text.now) c.in-None.ensures
