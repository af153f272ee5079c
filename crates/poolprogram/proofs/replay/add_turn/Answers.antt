-- A turn of an unfinished lane is the next of the trace, and the entry of a finished one makes none.
use Rattle.std.proofs.Common.{◌∙◌, sym, subst, List, [], ◌∷◌, ◌++◌}
use Rattle.traces.specs.declared.trace.Turn.{Turn}
use Rattle.traces.specs.Lawful.{world_from}
use Rattle.coresteps.specs.Kept.{IsRun}
use Rattle.coresteps.proofs.CoreLemmas.{turns_skip, run_more}
use Rattle.poolprogram.proofs.replay.add_turn.Goals as goal

pub returns-then-finished-clause-run : goal.returns-then-finished-clause-run
returns-then-finished-clause-run c = λ w schedule so_far.
    let z = c.args.core.now.shared.shape in (
      turns_skip z w schedule c.args.trace.now c.args.lane so_far.0
          (sym (c.finished.ensures (world_from z w c.args.trace.now) so_far.2.0 so_far.2.1) ∙ c.if-finished.true),
      so_far.1,
      so_far.2,
    )

pub returns-clause-run : goal.returns-clause-run
returns-clause-run c = λ w schedule so_far.
    let old = c.args.core.now in
    let new = c.turn.new.self in
    let z = old.shared.shape in
    let open_now = sym (c.finished.ensures (world_from z w c.args.trace.now) so_far.2.0 so_far.2.1) ∙ c.if-finished.false in
    subst (λ (ts : List Turn). IsRun z w (schedule ++ c.args.lane ∷ []) ts new) (sym c.in_ok-push.ensures.ok)
    (run_more old new w schedule c.args.trace.now c.args.lane c.in_ok-turn.turn so_far open_now c.in_ok-turn.ensures.ok)
