use Rattle.std.proofs.Common.{◌≡◌, ◌∙◌, ◌∷◌, ◌++◌, ◌+◌, ℕ, List, drop, sym, ap, append_assoc}
use Rattle.schedules.proofs.Stopping.{stopped, kept-own, kept-other, not-kept, stopped-end}
use Rattle.schedules.proofs.stop.stop_after.Goals as goal
use Rattle.schedules.proofs.stop.stop_after.Goals.{then-entry-lane+else-left-eq0, else-entry-lane}

pub loop-entry-preserved-then-left-eq0 : goal.loop-entry-preserved-then-left-eq0
loop-entry-preserved-then-left-eq0 c =
    ap (λ (rest : List ℕ). c.loop-entry.entries.items ++ rest) (sym (not-kept c.args.lane c.loop-entry.left c.loop-entry.entry-index c.args.schedule.now _ c.loop-entry-test.true c.if-entry-lane.true c.if-left-eq0.true)) ∙ c.loop-entry.invariant

pub loop-entry-preserved : goal.loop-entry-preserved
loop-entry-preserved c =
    let at = c.loop-entry in
    let kept : stopped c.args.lane at.left (drop at.entry-index c.args.schedule.now) ≡ _ ∷ stopped c.args.lane c.if-entry-lane.left (drop (at.entry-index + 1) c.args.schedule.now) = elim c.if-entry-lane.branch [
      | then-entry-lane+else-left-eq0 w ↦ rw w.left-is (kept-own c.args.lane at.left at.entry-index c.args.schedule.now _ c.loop-entry-test.true w.if-entry-lane.true w.if-left-eq0.false)
      | else-entry-lane w ↦ rw w.left-is (kept-other c.args.lane at.left at.entry-index c.args.schedule.now _ c.loop-entry-test.true w.if-entry-lane.false)
    ] in
    rw c.in_ok-push.ensures.items (append_assoc at.entries.items _ _ ∙ ap (λ (rest : List ℕ). at.entries.items ++ rest) (sym kept) ∙ at.invariant)

pub returns-clause-stopped : goal.returns-clause-stopped
returns-clause-stopped c =
    stopped-end c.args.lane c.args.k c.loop-entry.left c.loop-entry.entry-index c.args.schedule.now c.loop-entry.entries.items c.loop-entry.invariant c.loop-entry-test.false
