use Rattle.std.proofs.Common.{ℕ, ◌<◌, refl, sym, ◌∙◌, subst, arith}
use Rattle.shardpool.proofs.parts.Collecting.{Tried, none-tried, tried-one, tried-lane, past-own, one-more, taken-some, some-collects, none-collects}
use Rattle.shardpool.proofs.create.collect.Goals.{then-from-lane+else-found-ne0, else-from-lane}
use Rattle.shardpool.proofs.create.collect.Goals as goal

pub loop-from-init : goal.loop-from-init
loop-from-init g c = record {
  hand = (refl, refl);
  tried = λ opened some. none-tried c.args.grid.now.shape opened c.args.hand.now.me some c.requires.hand.1 c.requires.seen.0;
}

pub take-found-requires-clause-hand : goal.take-found-requires-clause-hand
take-found-requires-clause-hand g c = let h = c.loop-from.invariant in (h.hand.0 ∙ c.requires.hand.0, tried-one (h.tried 1 (omega arith)))

pub take-found-requires-clause-lane : goal.take-found-requires-clause-lane
take-found-requires-clause-lane g c = (c.requires.lane.0 ∙ sym (tried-lane (c.loop-from.invariant.tried 1 (omega arith))), c.requires.lane.1)

pub returns-then-found-ne0-clause-collects : goal.returns-then-found-ne0-clause-collects
returns-then-found-ne0-clause-collects g c opened some =
    let tried = c.loop-from.invariant.tried opened some in
    some-collects tried c.if-found-ne0.true (taken-some tried c.take-found.ensures.takes c.if-found-ne0.true) (λ e. c.if-from-lane.true (e ∙ sym c.requires.lane.0))
    (c.loop-from-test.true) (subst (λ (n : ℕ). n < c.args.grid.now.shape.lanes) c.requires.lane.0 c.requires.lane.1)

pub loop-from-preserved : goal.loop-from-preserved
loop-from-preserved g c =
    let h = c.loop-from.invariant in
    elim c.if-from-lane.branch [
      | then-from-lane+else-found-ne0 w ↦ rw w.hand-is (record {
        hand = (w.take-found.ensures.hand.0 ∙ h.hand.0, w.take-found.ensures.hand.1 ∙ h.hand.1);
        tried = λ opened some. one-more (h.tried opened some) w.take-found.ensures.takes w.if-found-ne0.false c.home_law.ensures.stays c.requires.seen.0
            (λ e. w.if-from-lane.true (e ∙ sym c.requires.lane.0)) c.loop-from-test.true;
      })
      | else-from-lane w ↦ rw w.hand-is (record { hand = h.hand; tried = λ opened some. past-own (h.tried opened some) (w.if-from-lane.false ∙ c.requires.lane.0) })
    ]

pub returns-clause-collects : goal.returns-clause-collects
returns-clause-collects g c opened some =
    let tried = c.loop-from.invariant.tried opened some in
    none-collects (subst (λ (n : ℕ). Tried c.args.grid.now.shape opened n c.args.hand.now.me c.loop-from.hand.me) (omega (arith, c.loop-from-test.false, c.loop-from.auto.from-end)) tried) c.requires.seen.0
    (subst (λ (n : ℕ). n < c.args.grid.now.shape.lanes) c.requires.lane.0 c.requires.lane.1)
