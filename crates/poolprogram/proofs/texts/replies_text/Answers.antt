use Rattle.std.proofs.Common.{◌∙◌, ◌++◌, ◌∷◌, [], ℕ, List, take, sym, ap}
use Rattle.std.proofs.lemmas.List.{take_more, flat_map_more}
use Rattle.std.specs.List.{flat_map}
use Rattle.workers.specs.declared.jobs.Done.{Done}
use Rattle.poolprogram.specs.Runs.{done_text}
use Rattle.poolprogram.proofs.texts.replies_text.Goals as goal

pub loop-done-preserved : goal.loop-done-preserved
loop-done-preserved c =
    let at = c.loop-done in
    let done = c.done-item.result in
    let before = take at.done-index c.args.dones.now in
    c.in_ok-write_done.ensures
    ∙ ap (λ (text : List ℕ). text ++ done_text done) at.invariant
    ∙ flat_map_more done_text [] before done
    ∙ ap (λ (dones : List Done). flat_map done_text dones)
    (ap (λ (d : Done). before ++ d ∷ []) c.done-item.is ∙ sym (take_more c.args.dones.now at.done-index done c.loop-done-test.true))
