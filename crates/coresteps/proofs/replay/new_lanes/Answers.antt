-- The lane of one script more is added.
use Rattle.std.proofs.Common.{◌∷◌, ◌++◌, [], List, sym, subst, refl}
use Rattle.std.proofs.lemmas.Result.{IfOk-from_err}
use Rattle.coresteps.specs.declared.lane.Lane.{Lane}
use Rattle.coresteps.proofs.TableLemmas.{AreNewLanes, lane_added}
use Rattle.coresteps.proofs.replay.new_lanes.Goals as goal

pub loop-script-preserved : goal.loop-script-preserved
loop-script-preserved c =
    subst (AreNewLanes c.args.shape.now (c.loop-script.yielded ++ c.in-Some.script ∷ [])) (sym c.in_ok-push.ensures.items)
    (lane_added c.args.shape.now c.loop-script.yielded c.loop-script.lanes.items c.in-Some.script c.in_ok-new_lane.field-0 c.loop-script.invariant c.in_ok-new_lane.ensures)

pub loop-script-init : goal.loop-script-init
loop-script-init c = subst (λ (lanes : List Lane). AreNewLanes c.args.shape.now [] lanes) (sym c.in_ok-lanes.ensures.items)
    record { count = refl; each = λ number lane got. absurd (cc got) }

pub new_lane-requires : goal.new_lane-requires
new_lane-requires c = c.requires

pub returns-in_err-lanes : goal.returns-in_err-lanes
returns-in_err-lanes c = IfOk-from_err c.from_residual.result _ c.from_residual.ensures.0

pub returns-in_err-new_lane : goal.returns-in_err-new_lane
returns-in_err-new_lane c = IfOk-from_err c.from_residual-in_err-new_lane.result _ c.from_residual-in_err-new_lane.ensures.0

pub returns-in_err-push : goal.returns-in_err-push
returns-in_err-push c = IfOk-from_err c.from_residual-in_err-push.result _ c.from_residual-in_err-push.ensures.0
