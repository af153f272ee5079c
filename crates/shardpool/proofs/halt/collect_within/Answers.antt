use Rattle.std.proofs.Common.{ℕ, ◌<◌, refl, sym, ap, ◌∙◌, subst, arith}
use Rattle.keybits.specs.Links.{linked_place}
use Rattle.shardpool.proofs.parts.Collecting.{Tried, none-tried, tried-one, tried-lane, past-own, one-more}
use Rattle.shardpool.proofs.parts.Taking.{called-tried, called-empty, called-taken, first-taken, taken-stepped, empty-stepped}
use Rattle.shardpool.proofs.halt.collect_within.Goals.{then-from-lane+else-found-ne0, else-from-lane}
use Rattle.shardpool.proofs.halt.collect_within.Goals as goal

pub loop-from-init : goal.loop-from-init
loop-from-init g c = record {
  hand = (refl, refl);
  tried = λ opened some. none-tried c.args.grid.now.shape opened c.args.hand.now.me some c.requires.hand.1 c.requires.seen;
  sum = refl;
}

pub returns-then-left-eq0-clause-called : goal.returns-then-left-eq0-clause-called
returns-then-left-eq0-clause-called g c opened some =
    let h = c.loop-from.invariant in called-tried (h.tried opened some) h.sum c.if-left-eq0.true

pub take-found-requires-clause-hand : goal.take-found-requires-clause-hand
take-found-requires-clause-hand g c = let h = c.loop-from.invariant in (h.hand.0 ∙ c.requires.hand.0, tried-one (h.tried 1 (omega arith)))

pub take-found-requires-clause-lane : goal.take-found-requires-clause-lane
take-found-requires-clause-lane g c = (c.requires.lane.0 ∙ sym (tried-lane (c.loop-from.invariant.tried 1 (omega arith))), c.requires.lane.1)

pub follow_within-requires-clause-chain : goal.follow_within-requires-clause-chain
follow_within-requires-clause-chain g c = first-taken (c.loop-from.invariant.tried 1 (omega arith)) c.take-found.ensures.takes c.if-found-ne0.true c.spot-first.result.place
    (c.spot-first.ensures.place_is ∙ (c.linked_place.ensures.place ∙ ap (λ (l : ℕ). linked_place l c.take-found.result) c.requires.lane.0))

pub returns-then-found-ne0-clause-called : goal.returns-then-found-ne0-clause-called
returns-then-found-ne0-clause-called g c opened some =
    let h = c.loop-from.invariant in
    let stepped = taken-stepped (h.tried opened some) c.take-found.ensures.takes c.if-found-ne0.true in
    let sum = h.sum in
    let left = c.if-left-eq0.false in
    called-taken (h.tried opened some) c.take-found.ensures.takes c.if-found-ne0.true (λ e. c.if-from-lane.true (e ∙ sym c.requires.lane.0)) c.loop-from-test.true
    (omega (arith, sum, stepped, left)) c.follow_within.ensures.follows

pub loop-from-preserved : goal.loop-from-preserved
loop-from-preserved g c =
    let h = c.loop-from.invariant in
    let sum = h.sum in
    let left = c.if-left-eq0.false in
    elim c.if-from-lane.branch [
      | then-from-lane+else-found-ne0 w ↦ rw (w.hand-is, w.left-is) (record {
        hand = (w.take-found.ensures.hand.0 ∙ h.hand.0, w.take-found.ensures.hand.1 ∙ h.hand.1);
        tried = λ opened some. one-more (h.tried opened some) w.take-found.ensures.takes w.if-found-ne0.false c.home_law.ensures.stays c.requires.seen
            (λ e. w.if-from-lane.true (e ∙ sym c.requires.lane.0)) c.loop-from-test.true;
        sum = let stepped = empty-stepped w.take-found.ensures.takes w.if-found-ne0.false in omega (arith, sum, stepped, left);
      })
      | else-from-lane w ↦ rw (w.hand-is, w.left-is) (record {
        hand = h.hand;
        tried = λ opened some. past-own (h.tried opened some) (w.if-from-lane.false ∙ c.requires.lane.0);
        sum = sum;
      })
    ]

pub returns-clause-called : goal.returns-clause-called
returns-clause-called g c opened some =
    let h = c.loop-from.invariant in
    called-empty (subst (λ (n : ℕ). Tried c.args.grid.now.shape opened n c.args.hand.now.me c.loop-from.hand.me) (omega (arith, c.loop-from-test.false, c.loop-from.auto.from-end)) (h.tried opened some))
    c.requires.seen
    (subst (λ (n : ℕ). n < c.args.grid.now.shape.lanes) c.requires.lane.0 c.requires.lane.1) c.loop-from.left c.args.limit h.sum
