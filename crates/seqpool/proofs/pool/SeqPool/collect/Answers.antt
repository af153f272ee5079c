use Rattle.std.proofs.Common.{◌≡◌, get_or, take, sym, ap, ◌∙◌, subst, ℕ, List, [], ◌∷◌, ◌==◌, false, length, refl, arith}
use Rattle.std.proofs.lemmas.List.{take_more, take_all}
use Rattle.keybits.specs.declared.shape.Shape.{Shape}
use Rattle.keybits.specs.Shapes.{is_place}
use Rattle.seqpool.specs.declared.act.Act.TheVariants.{Collect}
use Rattle.seqpool.specs.Pool.{Spot, after}
use Rattle.seqpool.specs.Rows.{pool_in}
use Rattle.seqpool.proofs.Collects.{home-at, collects-more}
use Rattle.std.proofs.lemmas.Bool.{false≢true, eqb-true}
use Rattle.seqpool.proofs.pool.SeqPool.collect.Goals.{then-is_empty-via-then-is_empty, then-is_empty-via-else-is_empty+then-not-are_home_for}
use Rattle.seqpool.proofs.pool.SeqPool.collect.Goals as goal

pub row-requires : goal.row-requires
row-requires c =
    let all = c.are_home_for.ensures.0 c.if-not-are_home_for.false in
    let here = home-at c.args.self.now.shape (pool_in c.args.self.now) c.args.lane c.args.places.now c.loop-place.place-index 0 c.loop-place-test.true all.1 in
    ap (λ (z : Shape). is_place z (get_or c.args.places.now c.loop-place.place-index 0)) c.loop-place.invariant.shape ∙ here.0

pub put-requires : goal.put-requires
put-requires c =
    let all = c.are_home_for.ensures.0 c.if-not-are_home_for.false in
    let here = home-at c.args.self.now.shape (pool_in c.args.self.now) c.args.lane c.args.places.now c.loop-place.place-index 0 c.loop-place-test.true all.1 in
    ap (λ (z : Shape). is_place z (get_or c.args.places.now c.loop-place.place-index 0)) c.loop-place.invariant.shape ∙ here.0

pub loop-place-preserved : goal.loop-place-preserved
loop-place-preserved c =
    let more = sym (take_more c.args.places.now c.loop-place.place-index 0 c.loop-place-test.true) in
    let step = collects-more c.args.self.now.shape (pool_in c.args.self.now) c.args.lane (pool_in c.loop-place.self) (pool_in c.put.new.self) (take c.loop-place.place-index c.args.places.now)
    (get_or c.args.places.now c.loop-place.place-index 0) c.row.result.now.generation c.loop-place.invariant.pool (ap (λ (s : Spot). s.generation) (sym c.row.ensures)) c.put.ensures.pool in
    record {
      shape = c.put.ensures.shape ∙ c.loop-place.invariant.shape;
      pool = subst (λ places. pool_in c.put.new.self ≡ after c.args.self.now.shape (Collect c.args.lane places) (pool_in c.args.self.now)) more step;
    }

none : (places : List ℕ) → length places ≡ 0 → places ≡ []
none [] is = refl
none (x ∷ xs) is = absurd (omega arith)

pub returns-then-is_empty : goal.returns-then-is_empty
returns-then-is_empty c = (
  refl,
  λ all. elim c.then-is_empty.branch [
    | then-is_empty-via-then-is_empty w ↦ all.0 (none c.args.places.now (eqb-true _ 0 (sym c.is_empty.ensures ∙ w.if-is_empty.true)))
    | then-is_empty-via-else-is_empty+then-not-are_home_for w ↦
        false≢true (sym w.if-not-are_home_for.true ∙ w.are_home_for.ensures.1 (all.1, all.2))
  ],
)

pub loop-place-init : goal.loop-place-init
loop-place-init c = record { shape = refl; pool = refl }

pub returns : goal.returns
returns c =
    let all = c.are_home_for.ensures.0 c.if-not-are_home_for.false in
    let some : (length c.args.places.now == 0) ≡ false = sym c.is_empty.ensures ∙ c.if-is_empty.false in (
      (λ is. false≢true (sym some ∙ ap (λ (xs : List ℕ). length xs == 0) is), all.0, all.1),
      c.loop-place.invariant.pool
          ∙ ap (λ (places : List ℕ). after c.args.self.now.shape (Collect c.args.lane places) (pool_in c.args.self.now))
          (take_all c.loop-place.place-index c.args.places.now (omega arith)),
      c.loop-place.invariant.shape,
    )
