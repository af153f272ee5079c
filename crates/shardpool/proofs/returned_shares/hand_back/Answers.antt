-- Each state gives back the shares of its rows.
use Rattle.std.proofs.Common.{◌≡◌, ◌<◌, length, Some, sym, ap, ◌∙◌, subst, arith}
use Rattle.std.specs.Prelude.{slice_get}
use Rattle.shardpool.specs.declared.pool.LaneState.{LaneState as Shown}
use Rattle.shardpool.specs.Remains.{GivesBack}
use Rattle.shardpool.proofs.at_close.LastHistory.{entry-at}
use Rattle.shardpool.proofs.at_close.ReturnedShares.{hands-none, hands-all, stands-now, hands-more}
use Rattle.shardpool.proofs.returned_shares.hand_back.Given.{Over}
use Rattle.shardpool.proofs.returned_shares.hand_back.Goals as goal
use Rattle.shardpool.proofs.returned_shares.hand_back.Goals.{After-take_rows-number}

-- the state of this round
state : (g : Over) (c : After-take_rows-number g) → (s : Shown g.row.T.Denot) × (slice_get c.args.states.now.items c.loop-index.index ≡ Some s)
state g c = let end = c.loop-index.invariant.end in let more = c.loop-index-test.true in entry-at c.args.states.now.items c.loop-index.index (omega (arith, end, more))

-- what was taken out of it
taken : (g : Over) (c : After-take_rows-number g)
    → (c.take_rows-number.result.0 ≡ (state g c).0.number) × (c.take_rows-number.result.1.items ≡ (state g c).0.rows.items)
taken g c =
    let s = state g c in
    c.take_rows-number.ensures.taken s.0 (stands-now c.args.shape.now c.args.states.now.items c.requires.shape c.requires.states c.loop-index.invariant.hands s.0 s.1)

pub loop-index-init : goal.loop-index-init
loop-index-init g c = record { end = c.len-index-end.ensures ∙ c.args.states.now.ok.0; hands = hands-none c.args.shape.now c.args.states.now.items c.args.slots.now c.requires.row }

pub give_back-requires-clause-number : goal.give_back-requires-clause-number
give_back-requires-clause-number g c =
    let h = (goal.at.give_back-requires-clause-number g c).After-take_rows-number in
    let s = state g h in
    subst (λ n. n < c.args.shape.now.lanes) (sym (taken g h).0) (c.requires.states.below c.loop-index.index s.0 s.1)

pub give_back-requires-clause-wide : goal.give_back-requires-clause-wide
give_back-requires-clause-wide g c =
    let h = (goal.at.give_back-requires-clause-wide g c).After-take_rows-number in
    let s = state g h in
    ap length (taken g h).1 ∙ c.requires.states.wide c.loop-index.index s.0 s.1

pub loop-index-preserved : goal.loop-index-preserved
loop-index-preserved g c =
    let z = c.args.shape.now in
    let h = (goal.at.loop-index-preserved g c).After-take_rows-number in
    let s = state g h in
    let t = taken g h in
    let left = c.take_rows-number.ensures.left s.0 (stands-now z c.args.states.now.items c.requires.shape c.requires.states c.loop-index.invariant.hands s.0 s.1) in
    let gives = subst (λ n. GivesBack z n s.0.rows.items c.loop-index.slots c.give_back.new.slots) t.0
    (subst (λ rows. GivesBack z c.take_rows-number.result.0 rows c.loop-index.slots c.give_back.new.slots) t.1 c.give_back.ensures) in
    record {
      end = c.loop-index.invariant.end;
      hands = hands-more z c.args.states.now.items c.requires.shape c.requires.states c.loop-index.invariant.hands s.0 s.1 left.0 c.take_rows-number.new.states.items c.give_back.new.slots
          left.1 left.2 gives;
    }

pub returns-clause-states : goal.returns-clause-states
returns-clause-states g c = c.loop-index.invariant.hands.stripped

pub returns-clause-slots : goal.returns-clause-slots
returns-clause-slots g c =
    let end = c.loop-index.invariant.end in
    let most = c.loop-index.auto.index-end in
    let over = c.loop-index-test.false in
    hands-all c.args.shape.now c.args.states.now.items c.loop-index.index (omega (arith, end, most, over)) c.loop-index.invariant.hands
