use Rattle.std.proofs.Common.{refl, sym, ◌∙◌, arith}
use Rattle.seatcalls.proofs.parts.Ending.{owes-none, owes-some}
use Rattle.shardpool.proofs.parts.Settling.{settles-not, settles-none, settles-lost, settles-claim, settles-won}
use Rattle.seatcalls.proofs.parts.Standing.{HasClaimed, has-claimed, at-same, lawful, owes-now}
use Rattle.shardpool.proofs.halt.finish_leave_within.Goals as goal

pub returns-then-limit-eq0-clause-ends : goal.returns-then-limit-eq0-clause-ends
returns-then-limit-eq0-clause-ends g c = settles-not c.args.limit c.requires.act.hand.1 c.requires.seen c.if-limit-eq0.true

pub returns-in_default-clause-ends : goal.returns-in_default-clause-ends
returns-in_default-clause-ends g c = settles-none c.args.limit c.requires.act.hand.1 c.requires.seen (owes-none c.args.found c.owed_by.ensures c.in_default.is)

pub returns-then-word-claimable-clause-ends : goal.returns-then-word-claimable-clause-ends
returns-then-word-claimable-clause-ends g c =
    let some = c.if-limit-eq0.false in
    let owed = owes-some c.args.found c.owed_by.ensures c.in-Some.generation c.in-Some.is in
    settles-lost c.args.limit owed.0 owed.1 c.claim-word.ensures.claims (λ same. c.if-word-claimable.true (same ∙ sym c.claimable.ensures)) (omega (arith, some))

pub returns-then-limit-gt1-clause-ends : goal.returns-then-limit-gt1-clause-ends
returns-then-limit-gt1-clause-ends g c =
    let some = c.if-limit-gt1.true in
    let owed = owes-some c.args.found c.owed_by.ensures c.in-Some.generation c.in-Some.is in
    settles-won c.args.limit owed.0 owed.1 c.claim-word.ensures.claims (c.if-word-claimable.false ∙ c.claimable.ensures) c.reclaim_place_within.ensures.tails (omega (arith, some))

pub returns-else-limit-gt1-clause-ends : goal.returns-else-limit-gt1-clause-ends
returns-else-limit-gt1-clause-ends g c =
    let some = c.if-limit-eq0.false in
    let few = c.if-limit-gt1.false in
    let owed = owes-some c.args.found c.owed_by.ensures c.in-Some.generation c.in-Some.is in
    settles-claim c.args.limit owed.0 owed.1 c.claim-word.ensures.claims (c.if-word-claimable.false ∙ c.claimable.ensures) (omega (arith, some, few))

pub returns-then-limit-eq0-clause-hand : goal.returns-then-limit-eq0-clause-hand
returns-then-limit-eq0-clause-hand g c = (refl, refl)

pub returns-in_default-clause-hand : goal.returns-in_default-clause-hand
returns-in_default-clause-hand g c = (refl, refl)

pub claim-word-requires : goal.claim-word-requires
claim-word-requires g c =
    let owed = owes-some c.args.found c.owed_by.ensures c.in-Some.generation c.in-Some.is in
    record { hand = c.requires.act.hand; spot = c.requires.act.at.spot; owes = owes-now c.args.hand.now.me.0 c.args.at.spot.place c.args.found c.in-Some.generation c.requires.owes owed.0 owed.1 }

pub returns-then-word-claimable-clause-hand : goal.returns-then-word-claimable-clause-hand
returns-then-word-claimable-clause-hand g c = c.claim-word.ensures.hand

pub reclaim_place_within-requires : goal.reclaim_place_within-requires
reclaim_place_within-requires g c =
    let claimed : HasClaimed c.args.grid.now.shape c.args.at.spot.place c.in-Some.generation c.args.hand.now.me c.claim-word.new.hand.me
    = has-claimed c.claim-word.ensures.claims (c.if-word-claimable.false ∙ c.claimable.ensures) in
    let more = c.if-limit-gt1.true in
    record {
      act = record {
        hand = (c.claim-word.ensures.hand.0 ∙ c.requires.act.hand.0, claimed.acted.one);
        bare = claimed.held ∙ c.requires.act.bare;
        at = at-same claimed.acted.lane claimed.pushed c.requires.act.at;
      };
      seen = lawful {made = claimed.made} claimed.acted;
      under = rw c.requires.act.at.lane claimed.under;
      place = claimed.place_has;
      room = claimed.room;
      some = omega (arith, more);
    }

pub returns-then-limit-gt1-clause-hand : goal.returns-then-limit-gt1-clause-hand
returns-then-limit-gt1-clause-hand g c =
    let first = c.claim-word.ensures.hand in let last = c.reclaim_place_within.ensures.hand in (last.0 ∙ first.0, last.1 ∙ first.1)

pub returns-else-limit-gt1-clause-hand : goal.returns-else-limit-gt1-clause-hand
returns-else-limit-gt1-clause-hand g c = c.claim-word.ensures.hand
