use Rattle.std.proofs.Common.{◌≡◌, ◌∙◌, ◌++◌, List, [], drop, length, append-nil, sym, ap, arith}
use Rattle.std.proofs.lemmas.List.{at_drop_all}
use Rattle.traces.specs.declared.script.Command.{Command}
use Rattle.shortening.specs.Choices.{chosen_scripts}
use Rattle.shortening.proofs.ChoiceLemmas.{chosen-length}
use Rattle.shortening.proofs.choices.choose_scripts.Goals as goal

pub returns-clause-count : goal.returns-clause-count
returns-clause-count c =
    let scripts = c.args.scripts.now in
    let numbers = c.args.numbers.now in
    let at = c.loop-script in
    let done : chosen_scripts numbers at.from (drop at.script-index scripts) ≡ [] = at_drop_all (chosen_scripts numbers at.from) scripts at.script-index (omega arith) in
    ap length (sym (append-nil at.chosen.items) ∙ ap (λ (xs : List (List Command)). at.chosen.items ++ xs) (sym done) ∙ at.invariant.all)
    ∙ chosen-length numbers 0 scripts
