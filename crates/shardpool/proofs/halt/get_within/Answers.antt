use Rattle.std.proofs.Common.{◌∷◌, [], None, inr, sym, ◌∙◌, false, refl, arith}
use Rattle.seqpool.specs.declared.act.Act.TheVariants as acts
use Rattle.steplaws.specs.Calls.Call.{Getting}
use Rattle.poolsteps.specs.Views.{the_lane}
use Rattle.steplaws.proofs.Lives.{most-lane}
use Rattle.seatcalls.specs.Called.{caller_of}
use Rattle.seatcalls.proofs.parts.Calling.{Opens, enter-step, life-under, get-entered, get-ends, get-missed, get-follows}
use Rattle.shardpool.proofs.parts.Within.{called-not, called-whole}
use Rattle.shardpool.proofs.parts.Halting.{called-undoes}
use Rattle.seatcalls.proofs.parts.Standing.{at-same}
use Rattle.shardpool.proofs.halt.get_within.Goals as goal

pub returns-then-limit-eq0-clause-called : goal.returns-then-limit-eq0-clause-called
returns-then-limit-eq0-clause-called g c = called-not (Getting c.args.key) c.args.limit c.if-limit-eq0.true c.requires.call.act.hand.1 c.requires.seen

pub returns-then-not-is_hit-clause-called : goal.returns-then-not-is_hit-clause-called
returns-then-not-is_hit-clause-called g c =
    let miss = sym c.is_hit.ensures ∙ c.if-not-is_hit.true in
    let enters = c.enter-found.ensures.enters in
    let some = c.if-limit-eq0.false in
    called-undoes (enter-step c.args.key c.enter-found.result ∷ []) (get-missed c.requires.key enters miss)
    (get-follows (caller_of c.args.grid.now.shape c.args.hand.now.me.0) c.args.key c.enter-found.result miss) refl false (life-under (enters.1 miss))
    c.leave_within.ensures.leaves c.args.limit (omega (arith, some))

pub returns-else-not-is_hit-clause-called : goal.returns-else-not-is_hit-clause-called
returns-else-not-is_hit-clause-called g c =
    let hit = sym c.is_hit.ensures ∙ c.if-not-is_hit.false in
    let some = c.if-limit-eq0.false in
    called-whole c.args.limit (omega (arith, some)) (get-entered c.requires.key c.enter-found.ensures.enters hit).1
    (get-ends (caller_of c.args.grid.now.shape c.args.hand.now.me.0) c.args.key c.enter-found.result hit)

pub returns-then-limit-eq0-clause-hand : goal.returns-then-limit-eq0-clause-hand
returns-then-limit-eq0-clause-hand g c = (refl, refl)

pub enter-found-requires : goal.enter-found-requires
enter-found-requires g c =
    record { hand = c.requires.call.act.hand; spot = c.requires.call.act.at.spot; key = c.requires.key; idle = c.requires.call.idle; room = λ _. most-lane c.args.grid.now.shape (the_lane c.args.hand.now.me.0).lane _ (let low = c.requires.call.act.at.below in let own = c.requires.call.act.at.lane in omega (arith, low, own)) c.requires.room }

pub leave_within-requires : goal.leave_within-requires
leave_within-requires g c =
    let miss = sym c.is_hit.ensures ∙ c.if-not-is_hit.true in
    let enters = c.enter-found.ensures.enters in
    let missed : Opens c.args.grid.now.shape (Getting c.args.key) (enter-step c.args.key c.enter-found.result ∷ [])
    (acts.Get (the_lane c.args.hand.now.me.0).lane c.args.key None ∷ []) c.args.hand.now.me c.enter-found.new.hand.me
    = get-missed c.requires.key enters miss in
    record {
      act = record {
        hand = (c.enter-found.ensures.hand.0 ∙ c.requires.call.act.hand.0, missed.did.acted.one);
        bare = missed.did.held ∙ c.requires.call.act.bare;
        at = at-same missed.did.acted.lane missed.pushed c.requires.call.act.at;
      };
      may = λ _. inr (false, life-under (enters.1 miss));
    }

pub returns-then-not-is_hit-clause-hand : goal.returns-then-not-is_hit-clause-hand
returns-then-not-is_hit-clause-hand g c =
    let first = c.enter-found.ensures.hand in let last = c.leave_within.ensures.hand in (last.0 ∙ first.0, last.1 ∙ first.1)

pub returns-else-not-is_hit-clause-hand : goal.returns-else-not-is_hit-clause-hand
returns-else-not-is_hit-clause-hand g c = c.enter-found.ensures.hand
