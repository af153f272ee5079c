-- The handle has the lane, and for lane 0 a row with room for all lanes.
use Rattle.std.proofs.Common.{rules, ◌≡◌, ◌∙◌, ap, sym, arith, Box, Global}
use Rattle.std.proofs.lemmas.Result.{IfOk-weaker}
use Rattle.std.specs.Vec.{vec_capacity}
use Rattle.std.specs.Arc.{arc_value}
use Rattle.shardpool.specs.Tokens.{LaneOf}
use Rattle.poolhandle.specs.declared.handle.Handle.{Handle}
use Rattle.poolhandle.specs.Calls.{lane_of, filled}
use Rattle.poolhandle.specs.Opened.{IsFresh}
use Rattle.poolhandle.proofs.opening.handle_of.Goals as goal

pub returns-in-Ok-new-clause-ok : goal.returns-in-Ok-new-clause-ok
returns-in-Ok-new-clause-ok c =
    let shared = arc_value c.args.shared.now in
    let share : arc_value c.in-Ok.shared ≡ shared = search rules in
    let lane : c.in-Ok-new.lane.value ≡ c.args.lane = search rules in
    let lanes : c.shape.result.lanes ≡ shared.pool.shape.lanes = search rules in
    let number : c.number.result ≡ c.args.lane.number = c.number.ensures in
    IfOk-weaker c.in_box.result _ (λ (boxed : Box Handle Global). IsFresh shared c.args.lane boxed.value)
    (λ (boxed : Box Handle Global) is. record {
      share = ap (λ (handle : Handle). arc_value handle.shared) is ∙ share;
      lane_is = ap lane_of is ∙ lane;
      fills = ap filled is ∙ c.in-Some.ensures.fillings;
      joined_none = ap (λ (handle : Handle). handle.joined) is;
      room = λ first.
          let here = ap (λ (l : LaneOf). l.number) (ap lane_of is ∙ lane) in
          let has = c.in-Some.ensures.room (number ∙ (sym here ∙ first)) in
          let same = ap (λ (handle : Handle). vec_capacity handle.row) is in
          omega (arith, has, same, lanes);
    })
    c.in_box.ensures.ok
