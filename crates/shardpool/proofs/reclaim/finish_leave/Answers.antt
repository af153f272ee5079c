use Rattle.std.proofs.Common.{List, refl, sym, ap, ◌∙◌}
use Rattle.poolsteps.specs.declared.view.LaneRecord.{LaneRecord}
use Rattle.poolsteps.specs.Views.{head_record}
use Rattle.seatcalls.proofs.parts.Ending.{owes-none, owes-some, ends-none, ends-lost, ends-won, still-acts, lost-acts, won-acts}
use Rattle.shardpool.proofs.parts.Handing.{hands-none, hands-still, hands-won}
use Rattle.seatcalls.proofs.parts.Standing.{HasClaimed, has-claimed, at-same, owes-now}
use Rattle.shardpool.proofs.reclaim.finish_leave.Goals as goal

pub returns-in_err-generation-clause-ends : goal.returns-in_err-generation-clause-ends
returns-in_err-generation-clause-ends g c =
    ends-none c.requires.act.hand.1 c.requires.seen c.requires.owes (owes-none c.args.found c.owed_by.ensures c.in_err-generation.was)

pub returns-in_err-generation-clause-acts : goal.returns-in_err-generation-clause-acts
returns-in_err-generation-clause-acts g c = rw c.from_residual.ensures (still-acts g.row.T.Denot c.args.grid.now.shape c.args.at.spot.place c.args.hand.now.me.0)

pub returns-then-word-claimable-clause-ends : goal.returns-then-word-claimable-clause-ends
returns-then-word-claimable-clause-ends g c =
    let owed = owes-some c.args.found c.owed_by.ensures c.in_ok-generation.generation c.in_ok-generation.was in
    ends-lost owed.0 owed.1 c.claim-word.ensures.claims (λ same. c.if-word-claimable.true (same ∙ sym c.claimable.ensures))

pub returns-then-word-claimable-clause-acts : goal.returns-then-word-claimable-clause-acts
returns-then-word-claimable-clause-acts g c = lost-acts g.row.T.Denot c.claim-word.ensures.claims (λ same. c.if-word-claimable.true (same ∙ sym c.claimable.ensures))

pub returns-clause-ends : goal.returns-clause-ends
returns-clause-ends g c =
    let owed = owes-some c.args.found c.owed_by.ensures c.in_ok-generation.generation c.in_ok-generation.was in
    ends-won owed.0 owed.1 c.claim-word.ensures.claims (c.if-word-claimable.false ∙ c.claimable.ensures) c.reclaim_place.ensures.tails

pub returns-clause-acts : goal.returns-clause-acts
returns-clause-acts g c =
    let told = c.claim-word.ensures.claims.0 (c.if-word-claimable.false ∙ c.claimable.ensures) in
    let won = told.4 in
    won-acts c.args.grid.now.shape c.args.at.spot.place c.in_ok-generation.generation c.args.hand.now.me.0 c.claim-word.new.hand.me.0 c.reclaim_place.new.hand.me.0 _
    c.reclaim_place.result won.goes.lanes refl refl refl c.reclaim_place.ensures.acts told.3

pub returns-in_err-generation-clause-hand : goal.returns-in_err-generation-clause-hand
returns-in_err-generation-clause-hand g c = (refl, refl)

pub claim-word-requires : goal.claim-word-requires
claim-word-requires g c =
    let owed = owes-some c.args.found c.owed_by.ensures c.in_ok-generation.generation c.in_ok-generation.was in
    record { hand = c.requires.act.hand; spot = c.requires.act.at.spot; owes = owes-now c.args.hand.now.me.0 c.args.at.spot.place c.args.found c.in_ok-generation.generation c.requires.owes owed.0 owed.1 }

pub returns-then-word-claimable-clause-hand : goal.returns-then-word-claimable-clause-hand
returns-then-word-claimable-clause-hand g c = c.claim-word.ensures.hand

pub reclaim_place-requires : goal.reclaim_place-requires
reclaim_place-requires g c =
    let claimed : HasClaimed c.args.grid.now.shape c.args.at.spot.place c.in_ok-generation.generation c.args.hand.now.me c.claim-word.new.hand.me
    = has-claimed c.claim-word.ensures.claims (c.if-word-claimable.false ∙ c.claimable.ensures) in
    record {
      act = record {
        hand = (c.claim-word.ensures.hand.0 ∙ c.requires.act.hand.0, claimed.acted.one);
        bare = claimed.held ∙ c.requires.act.bare;
        at = at-same claimed.acted.lane claimed.pushed c.requires.act.at;
      };
      under = rw c.requires.act.at.lane claimed.under;
      place = claimed.place_has;
      room = claimed.room;
    }

pub returns-clause-hand : goal.returns-clause-hand
returns-clause-hand g c = let first = c.claim-word.ensures.hand in let last = c.reclaim_place.ensures.hand in (last.0 ∙ first.0, last.1 ∙ first.1)

pub returns-clause-reclaimed : goal.returns-clause-reclaimed
returns-clause-reclaimed g c = c.reclaim_place.ensures.reclaimed

-- ---- what the emptier took

pub returns-in_err-generation-clause-hands : goal.returns-in_err-generation-clause-hands
returns-in_err-generation-clause-hands g c = hands-none g.E.Emptier.takes c.args.hand.now.me.0 c.args.emptier.now

pub returns-then-word-claimable-clause-hands : goal.returns-then-word-claimable-clause-hands
returns-then-word-claimable-clause-hands g c =
    let lost = c.claim-word.ensures.claims.1 (λ same. c.if-word-claimable.true (same ∙ sym c.claimable.ensures)) in
    hands-still g.E.Emptier.takes c.args.hand.now.me.0 c.claim-word.new.hand.me.0 c.args.emptier.now (ap (λ (lanes : List LaneRecord). (head_record lanes).mine) lost.goes.lanes)

pub returns-clause-hands : goal.returns-clause-hands
returns-clause-hands g c =
    let owed = owes-some c.args.found c.owed_by.ensures c.in_ok-generation.generation c.in_ok-generation.was in
    let won = c.if-word-claimable.false ∙ c.claimable.ensures in
    let claimed : HasClaimed c.args.grid.now.shape c.args.at.spot.place c.in_ok-generation.generation c.args.hand.now.me c.claim-word.new.hand.me
    = has-claimed c.claim-word.ensures.claims won in
    hands-won g.E.Emptier.takes c.args.grid.now.shape c.args.at.spot.place c.in_ok-generation.generation c.args.hand.now.me c.claim-word.new.hand.me c.reclaim_place.new.hand.me c.reclaim_place.result c.args.found (sym owed.1) (ap (λ (lanes : List LaneRecord). (head_record lanes).mine) (c.claim-word.ensures.claims.0 won).4.goes.lanes)
    claimed.published c.reclaim_place.ensures.took c.reclaim_place.ensures.tails c.reclaim_place.ensures.acts
