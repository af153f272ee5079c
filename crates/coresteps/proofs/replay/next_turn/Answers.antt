-- The lane's next turn is made, and the core keeps the world after it.
use Rattle.std.proofs.Common.{◌≡◌, ◌<◌, ◌∙◌, ℕ, length, slice_get, Some, sym, subst, refl, arith}
use Rattle.std.specs.Prelude.{Result, Ok, Err, OnErr}
use Rattle.std.proofs.lemmas.Result.{IfOk-from_err}
use Rattle.std.proofs.lemmas.Option.{slice_get_read}
use Rattle.keybits.specs.declared.shape.Shape.{Shape}
use Rattle.traces.specs.Lawful.{world_after, book_after}
use Rattle.traces.specs.Keeping.{IsKept}
use Rattle.traces.proofs.Throughout.{turn_below}
use Rattle.coresteps.specs.declared.lane.Lane.{Lane}
use Rattle.coresteps.specs.Kept.{IsLaneAt}
use Rattle.coresteps.proofs.CoreLemmas.{read_twice, at_world, turn_made}
use Rattle.coresteps.proofs.OwnLemmas.{room_for_added}
use Rattle.coresteps.proofs.replay.next_turn.Goals as goal

pub advance-requires-clause-lane : goal.advance-requires-clause-lane
advance-requires-clause-lane c = turn_below c.args.shared.now.shape c.requires.0 c.args.lane c.requires.3

pub advance-requires-clause-draft : goal.advance-requires-clause-draft
advance-requires-clause-draft c =
    let w = c.requires.0 in
    let k = c.requires.2 in
    let unfinished = c.requires.3 in
    let old = c.args.shared.now in
    let lanes = c.args.lanes.now.items in
    let n = c.args.lane in
    let of = c.index-of.result.now in
    let below : n < old.shape.lanes = turn_below old.shape w n unfinished in
    let count = k.count in
    let got : slice_get lanes n ≡ Some of = slice_get_read lanes (length lanes) n of refl (omega arith) c.index-of.ensures in
    (w, k.draft, k.lane n of got)

pub advance-requires-clause-added : goal.advance-requires-clause-added
advance-requires-clause-added c =
    let w = c.requires.0 in
    let k = c.requires.2 in
    let unfinished = c.requires.3 in
    let old = c.args.shared.now in
    let lanes = c.args.lanes.now.items in
    let n = c.args.lane in
    let of = c.index-of.result.now in
    let below : n < old.shape.lanes = turn_below old.shape w n unfinished in
    let count = k.count in
    let got : slice_get lanes n ≡ Some of = slice_get_read lanes (length lanes) n of refl (omega arith) c.index-of.ensures in
    k.settled n of got

pub keep_progress-requires-clause-length : goal.keep_progress-requires-clause-length
keep_progress-requires-clause-length c = λ place added.
    let w = c.requires.0 in
    let k = c.requires.2 in
    let unfinished = c.requires.3 in
    let old = c.args.shared.now in
    let lanes = c.args.lanes.now.items in
    let n = c.args.lane in
    let of = c.index-of.result.now in
    let below : n < old.shape.lanes = turn_below old.shape w n unfinished in
    let count = k.count in
    let got : slice_get lanes n ≡ Some of = slice_get_read lanes (length lanes) n of refl (omega arith) c.index-of.ensures in
    let new = c.advance.new.shared in
    let p = c.advance.new.progress in
    let t = c.in_ok-turn.turn in
    let turn = c.in_ok-turn.ensures.ok w k.draft (k.lane n of got) unfinished in
    let same : of ≡ c.index_mut.result.now = read_twice lanes n of c.index_mut.result.now c.index-of.ensures c.index_mut.ensures.value (omega arith) in
    let kept = subst (λ (z : Shape). IsKept z (world_after old.shape w t)) c.in_ok-turn.ensures.shape turn.2.kept in
    subst (λ (l : Lane). p.own.length < length l.ring.items) same
    (room_for_added old.shape (world_after old.shape w t) n of p kept below (at_world old.shape w t n of p turn.0 turn.3) place added)

pub keep_progress-requires-clause-first : goal.keep_progress-requires-clause-first
keep_progress-requires-clause-first c =
    let w = c.requires.0 in
    let k = c.requires.2 in
    let unfinished = c.requires.3 in
    let old = c.args.shared.now in
    let lanes = c.args.lanes.now.items in
    let n = c.args.lane in
    let of = c.index-of.result.now in
    let below : n < old.shape.lanes = turn_below old.shape w n unfinished in
    let count = k.count in
    let got : slice_get lanes n ≡ Some of = slice_get_read lanes (length lanes) n of refl (omega arith) c.index-of.ensures in
    let new = c.advance.new.shared in
    let p = c.advance.new.progress in
    let t = c.in_ok-turn.turn in
    let turn = c.in_ok-turn.ensures.ok w k.draft (k.lane n of got) unfinished in
    let same : of ≡ c.index_mut.result.now = read_twice lanes n of c.index_mut.result.now c.index-of.ensures c.index_mut.ensures.value (omega arith) in
    subst (λ (l : Lane). p.own.first < length l.ring.items) same turn.3.list.start

pub returns-clause-ok : goal.returns-clause-ok
returns-clause-ok c = λ w most k unfinished.
    let old = c.args.shared.now in
    let lanes = c.args.lanes.now.items in
    let n = c.args.lane in
    let of = c.index-of.result.now in
    let below : n < old.shape.lanes = turn_below old.shape w n unfinished in
    let count = k.count in
    let got : slice_get lanes n ≡ Some of = slice_get_read lanes (length lanes) n of refl (omega arith) c.index-of.ensures in
    let new = c.advance.new.shared in
    let p = c.advance.new.progress in
    let t = c.in_ok-turn.turn in
    let turn = c.in_ok-turn.ensures.ok w k.draft (k.lane n of got) unfinished in
    let same : of ≡ c.index_mut.result.now = read_twice lanes n of c.index_mut.result.now c.index-of.ensures c.index_mut.ensures.value (omega arith) in
    let settled = c.keep_progress.new.of in
    let at = c.keep_progress.ensures.lane old.shape (world_after old.shape w t).history n (book_after old.shape w t)
    (subst (λ (l : Lane). IsLaneAt old.shape (world_after old.shape w t).history n l p (book_after old.shape w t)) same turn.3) in
    turn_made old new w most lanes of settled t n k c.in_ok-turn.ensures.shape turn.0 turn.1 turn.2 got at c.keep_progress.ensures.added (c.keep_progress.ensures.most ∙ turn.4)

-- after a refusal the core is as before
in_err : {T E : Type 0} (r : Result T E) (P : Type 0) → P → OnErr r P
in_err (Ok x) P p = tt
in_err (Err e) P p = p

pub returns-in_err-turn : goal.returns-in_err-turn
returns-in_err-turn c = record {
  ok = IfOk-from_err c.from_residual.result _ c.from_residual.ensures.0;
  same = in_err c.from_residual.result _ (c.in_err-turn.ensures.same, refl);
  shape = c.in_err-turn.ensures.shape;
}

pub index-of-requires : goal.index-of-requires
index-of-requires c =
    let below = turn_below c.args.shared.now.shape c.requires.0 c.args.lane c.requires.3 in
    subst (λ (n : ℕ). c.args.lane < n) (sym (c.args.lanes.now.ok.0 ∙ c.requires.2.count)) below

pub index_mut-requires : goal.index_mut-requires
index_mut-requires c =
    let below = turn_below c.args.shared.now.shape c.requires.0 c.args.lane c.requires.3 in
    subst (λ (n : ℕ). c.args.lane < n) (sym (c.args.lanes.now.ok.0 ∙ c.requires.2.count)) below

pub returns-clause-same : goal.returns-clause-same
returns-clause-same c = tt

pub returns-clause-shape : goal.returns-clause-shape
returns-clause-shape c = c.in_ok-turn.ensures.shape
