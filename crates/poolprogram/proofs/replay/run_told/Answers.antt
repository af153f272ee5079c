-- One entry of the schedule more.
use Rattle.std.proofs.Common.{◌≡◌, ◌∙◌, ℕ, ◌<◌, sym, subst, arith, List, [], take, length}
use Rattle.std.proofs.lemmas.List.{take_more, take_all}
use Rattle.keybits.specs.declared.shape.Shape.{Shape}
use Rattle.traces.specs.declared.trace.Turn.{Turn}
use Rattle.traces.specs.Lawful.{first_world, world_from, AreTurns}
use Rattle.coresteps.specs.Lanes.{no_most}
use Rattle.coresteps.specs.Kept.{IsRun}
use Rattle.coresteps.proofs.CoreLemmas.{core_stands, core_legal}
use Rattle.poolprogram.proofs.replay.run_told.Goals as goal

pub loop-lane-init : goal.loop-lane-init
loop-lane-init g c =
    let core = c.in_ok-core.core in
    let w = first_world c.args.scripts.items in
    let kept = c.in_ok-core.ensures.kept in
    let z = c.args.shape in (
      subst (λ (ts : List Turn). IsRun z w [] ts core) (sym c.empty-trace.ensures)
          (tt, core_stands z w (λ _. no_most) core c.in_ok-core.ensures.shape kept, ((λ _. no_most), kept)),
      c.in_ok-core.ensures.shape,
    )

pub loop-lane-preserved : goal.loop-lane-preserved
loop-lane-preserved g c =
    let inv = c.loop-lane.invariant in
    let w = first_world c.args.scripts.items in
    let schedule = c.args.schedule.now in
    let i = c.loop-lane.lane-index in
    let r = c.in_ok-add_turn.ensures.run w (take i schedule)
    (subst (λ (z : Shape). IsRun z w (take i schedule) c.loop-lane.trace c.loop-lane.core) (sym inv.1) inv.0) in
    let inside : i < length schedule = omega arith in (
      subst (λ (t : Shape × List ℕ). IsRun t.0 w t.1 c.add_turn.new.trace c.add_turn.new.core) (λ j. (inv.1 j, sym (take_more schedule i 0 inside) j)) r,
      c.in_ok-add_turn.ensures.shape ∙ inv.1,
    )

pub returns : goal.returns
returns g c =
    let inv = c.loop-lane.invariant in
    let w = first_world c.args.scripts.items in
    let schedule = c.args.schedule.now in
    let all : take c.loop-lane.lane-index schedule ≡ schedule = take_all c.loop-lane.lane-index schedule (omega arith) in
    record {
      turns = subst (λ (entries : List ℕ). AreTurns c.args.shape w entries c.loop-lane.trace) all inv.0.0;
      legal = core_legal c.args.shape (world_from c.args.shape w c.loop-lane.trace) inv.0.2.0 c.loop-lane.core inv.1 inv.0.2.1;
    }
