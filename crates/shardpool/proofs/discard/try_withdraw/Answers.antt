use Rattle.std.proofs.Common.{◌≡◌, ℕ, List, Some, ap, sym, ◌∙◌, subst, arith}
use Rattle.keybits.specs.Keys.{place_of, generation_of, is_key}
use Rattle.keybits.specs.declared.shape.Shape.{Shape}
use Rattle.std.proofs.Common.{true, ◌==◌}
use Rattle.std.proofs.lemmas.Bool.{and_parts}
use Rattle.poolsteps.specs.AtOnce.{unpublished}
use Rattle.poolsteps.specs.Layout.{spots_at}
use Rattle.poolsteps.specs.declared.view.LaneRecord.{LaneRecord}
use Rattle.poolsteps.specs.Views.{head_record, the_lane, status_of}
use Rattle.poolsteps.specs.Told.{MayPublish, claimed_under}
use Rattle.seatcalls.specs.Called.{Tails, TailActs, IsReclaimed, StandsAt}
use Rattle.seatcalls.proofs.parts.Standing.{at-own, at-same}
use Rattle.shardpool.proofs.parts.AtOnce.{called-most, swept, swept-held, swept-lane, swept-under, swept-pushed, swept-called, swept-acts}
use Rattle.shardpool.proofs.parts.Discarding.{is-key, published-lane, published-pushed}
use Rattle.shardpool.proofs.discard.try_withdraw.Given.{Over}
use Rattle.shardpool.proofs.discard.try_withdraw.Goals as goal

pub withdraw-found-requires : goal.withdraw-found-requires
withdraw-found-requires g c = record {
  hand = c.requires.act.hand;
  spot = c.requires.act.at.spot;
  may = c.requires.may;
  shares = λ number below touched. absurd (touched (c.requires.slots number below));
}

pub reclaim_place-reclaimed-requires-clause-act : goal.reclaim_place-reclaimed-requires-clause-act
reclaim_place-reclaimed-requires-clause-act g c =
    let inside = is-key c.requires.may in
    let made = c.withdraw-found.ensures.withdraws.0 (c.if-found-unpublished.true ∙ (c.unpublished.ensures ∙ ap unpublished c.generation_of-generation.ensures)) in
    let sweeps = made.2 in
    record {
      hand = (c.withdraw-found.ensures.hand.0 ∙ c.requires.act.hand.0, (swept inside sweeps).acted.one);
      bare = swept-held inside sweeps ∙ (made.1.held ∙ c.requires.act.bare);
      at = at-own (at-same (swept-lane inside sweeps ∙ published-lane made.1) (swept-pushed inside sweeps ∙ published-pushed made.1) c.requires.act.at);
    }

pub reclaim_place-reclaimed-requires-clause-under : goal.reclaim_place-reclaimed-requires-clause-under
reclaim_place-reclaimed-requires-clause-under g c =
    let made = c.withdraw-found.ensures.withdraws.0 (c.if-found-unpublished.true ∙ (c.unpublished.ensures ∙ ap unpublished c.generation_of-generation.ensures)) in
    let under = swept-under (is-key c.requires.may) made.2 ∙ ap (λ (l : ℕ). claimed_under c.args.grid.now.shape l (place_of c.args.key) (generation_of c.args.key)) (published-lane made.1) in
    rw (c.requires.act.at.lane, c.requires.act.at.spot.place_is, c.generation_of-generation.ensures) under

pub returns-then-found-unpublished-clause-withdraws : goal.returns-then-found-unpublished-clause-withdraws
returns-then-found-unpublished-clause-withdraws g c =
    let z = c.args.grid.now.shape in
    let b = c.withdraw-found.new.hand.me in
    let d = c.reclaim_place-reclaimed.new.hand.me in
    let place_is = c.requires.act.at.spot.place_is in
    let of = c.generation_of-generation.ensures in
    let ends = c.reclaim_place-reclaimed.ensures in
    let inside = is-key c.requires.may in
    let made = c.withdraw-found.ensures.withdraws.0 (c.if-found-unpublished.true ∙ (c.unpublished.ensures ∙ ap unpublished of)) in
    let sweeps = made.2 in
    let tails : Tails z (place_of c.args.key) (generation_of c.args.key) b d = subst (λ (p : ℕ). Tails z p (generation_of c.args.key) b d) place_is
    (subst (λ (n : ℕ). Tails z c.args.at.spot.place n b d) of ends.tails) in
    let acts : TailActs z (place_of c.args.key) (generation_of c.args.key) b.0 d.0 c.reclaim_place-reclaimed.result
    = subst (λ (p : ℕ). TailActs z p (generation_of c.args.key) b.0 d.0 c.reclaim_place-reclaimed.result) place_is
    (subst (λ (n : ℕ). TailActs z c.args.at.spot.place n b.0 d.0 c.reclaim_place-reclaimed.result) of ends.acts) in (
      made.0,
      made.1,
      record {
        called = swept-called inside sweeps tails;
        acts = rw (c.requires.act.at.lane, sym (published-lane made.1)) (swept-acts inside sweeps c.reclaim_place-reclaimed.result tails acts);
        told = subst (λ (p : ℕ). IsReclaimed g.T.Clear.content g.T.Clear.room z p c.args.at.lane d.0 c.reclaim_place-reclaimed.result) place_is ends.reclaimed;
        at = subst (λ (p : ℕ). StandsAt (spots_at c.args.grid.now.objects.ptr z p) (Some c.reclaim_place-reclaimed.result)) place_is ends.at;
      },
    )
