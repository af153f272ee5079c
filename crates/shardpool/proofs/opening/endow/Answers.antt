-- Each round of the loop endows one lane more.
use Rattle.std.proofs.Common.{rules, ◌≡◌, ◌+◌, ◌<◌, ℕ, [], Option, None, length, refl, sym, ap, ◌∙◌, subst, arith}
use Rattle.std.specs.Vec.Iter.{into_iter_items}
use Rattle.std.proofs.lemmas.List.{nil_from_length, length_push, length-replicate}
use Rattle.keybits.specs.Shapes.{shard_places}
use Rattle.poolsteps.specs.declared.layout.TheConstants.{SHARDS_APART}
use Rattle.poolsteps.specs.Layout.{shard_start}
use Rattle.shardpool.specs.Opened.{IsFirstLane}
use Rattle.shardpool.proofs.calls.Openings.{AreNumbered, IsFirstPart, pool_of, none-numbered, one-numbered, next-part, left-of, all-of, all-lanes, first-lane, first-fits, endowed, next-start, within-row}
use Rattle.shardpool.proofs.opening.endow.Given.{Over}
use Rattle.shardpool.proofs.opening.endow.Goals as goal
use Rattle.shardpool.proofs.opening.endow.Goals.{In-Some}

-- the part of this round
next : (g : Over) (c : In-Some g) → (length c.loop-part.yielded < c.args.grid.now.shape.lanes) × IsFirstPart c.args.grid.now (length c.loop-part.yielded) c.in-Some.part
next g c =
    let before = c.loop-part in
    next-part c.args.grid.now c.args.parts.items before.yielded (into_iter_items before.part-iterator) (into_iter_items c.next.new.self) c.in-Some.part
    c.requires.parts before.invariant.parts c.in-Some.ensures.steps.0

-- as many places as a shard has
wide : (g : Over) (c : In-Some g) → length c.in-Some.part.state.objects.items ≡ shard_places c.args.grid.now.shape
wide g c =
    let none : Option g.row.T.Denot = None in
    let is = (next g c).1.1.objects in
    (λ i. length (is i).items) ∙ length-replicate (shard_places c.args.grid.now.shape) none

pub loop-part-init : goal.loop-part-init
loop-part-init g c = record {
  opened = none-numbered (IsFirstLane (pool_of c.args.grid.now)) c.args.lanes.items c.requires.lanes.0;
  capacity = c.requires.lanes.1;
  parts = c.into_iter-part-iterator.ensures.into_iter_gives.0;
  rest = search rules;
  at = refl;
  count = refl;
  next = let none = c.requires.directory.1 in omega (arith, none);
}

pub endow-requires-clause-at : goal.endow-requires-clause-at
endow-requires-clause-at g c =
    let is = (next g (goal.at.endow-requires-clause-at g c).In-Some).1.1.objects in
    (λ i. (is i).directory) ∙ (sym c.requires.directory.0 ∙ sym c.loop-part.invariant.at)

pub endow-requires-clause-first : goal.endow-requires-clause-first
endow-requires-clause-first g c =
    let is = (next g (goal.at.endow-requires-clause-first g c).In-Some).1.1.objects in
    (λ i. (is i).first) ∙ sym c.loop-part.invariant.next

pub endow-requires-clause-count : goal.endow-requires-clause-count
endow-requires-clause-count g c =
    let some = (goal.at.endow-requires-clause-count g c).In-Some in
    let places = wide g some in
    let fits = within-row c.args.grid.now.shape (length c.loop-part.yielded) (next g some).0 in
    let begins = c.loop-part.invariant.next in
    let count = c.loop-part.invariant.count ∙ c.requires.directory.2 in
    omega (arith, places, fits, begins, count)

pub invariant_of-push_reserved : goal.invariant_of-push_reserved
invariant_of-push_reserved g c =
    let grid = c.args.grid.now in
    let part = c.in-Some.part in
    let number : ℕ = length c.loop-part.yielded in
    let this = next g (goal.at.invariant_of-push_reserved g c).In-Some in (
      λ i. (this.1.0.1 i).1,
      first-fits g.T.Clear.content g.T.Clear.room grid.shape number grid.objects.ptr part.hand.me.0 part.state c.endow.new.self (λ i. (this.1.0.1 i).0) grid.checked this.0 this.1.1
          (endowed g.T.Clear.content g.T.Clear.room grid.shape number grid.objects.ptr part.state.objects c.endow.new.self this.1.1.objects c.endow.ensures.objects),
    )

pub loop-part-preserved : goal.loop-part-preserved
loop-part-preserved g c =
    let before = c.loop-part in
    let grid = c.args.grid.now in
    let part = c.in-Some.part in
    let number : ℕ = length before.yielded in
    let pushed = c.push_reserved in
    let some = (goal.at.loop-part-preserved g c).In-Some in
    let this = next g some in
    let long = length_push before.yielded part in
    let at : c.endow.new.self.directory ≡ grid.objects.ptr = (λ i. (c.endow.ensures.objects i).directory) ∙ (λ i. (this.1.1.objects i).directory) in record {
      opened = subst (λ (n : ℕ). AreNumbered (IsFirstLane (pool_of grid)) n pushed.new.self.items) (sym long)
          (one-numbered (IsFirstLane (pool_of grid)) number before.lanes.items pushed.new.self.items _ before.invariant.opened (first-lane grid number part c.endow.new.self this.1 at)
          pushed.ensures.items);
      capacity = rw pushed.ensures.capacity before.invariant.capacity;
      parts = left-of c.args.parts.items before.yielded (into_iter_items before.part-iterator) (into_iter_items c.next.new.self) part before.invariant.parts c.in-Some.ensures.steps.0;
      rest = let was = before.invariant.rest in let gone = c.in-Some.ensures.steps.1 in let shorter = ap length c.in-Some.ensures.steps.0 in omega arith;
      at = (λ i. (c.endow.ensures.directory i).at) ∙ before.invariant.at;
      count = (λ i. (c.endow.ensures.directory i).count) ∙ before.invariant.count;
      next =
          let places = wide g some in
          let begins = before.invariant.next in
          let goes : c.endow.new.directory.next ≡ before.directory.next + length part.state.objects.items + SHARDS_APART = λ i. (c.endow.ensures.directory i).next in
          let is : c.endow.new.directory.next ≡ shard_start grid.shape number + shard_places grid.shape + SHARDS_APART = omega (arith, places, begins, goes) in
          is ∙ (next-start grid.shape number ∙ ap (λ (n : ℕ). shard_start grid.shape n) (sym long));
    }

pub returns-clause-lanes : goal.returns-clause-lanes
returns-clause-lanes g c =
    let last = c.loop-part in
    let none : into_iter_items last.part-iterator ≡ [] = nil_from_length (into_iter_items last.part-iterator) (sym last.invariant.rest ∙ c.in-None.ensures.steps.0) in
    all-lanes c.args.grid.now c.args.parts.items last.yielded (into_iter_items last.part-iterator) last.lanes.items c.requires.parts last.invariant.parts none last.invariant.opened

pub returns-clause-directory : goal.returns-clause-directory
returns-clause-directory g c =
    let last = c.loop-part in
    let z = c.args.grid.now.shape in
    let none : into_iter_items last.part-iterator ≡ [] = nil_from_length (into_iter_items last.part-iterator) (sym last.invariant.rest ∙ c.in-None.ensures.steps.0) in
    let all = all-of c.args.parts.items last.yielded (into_iter_items last.part-iterator) last.invariant.parts none ∙ c.requires.parts.count in (
      last.invariant.at,
      last.invariant.next ∙ (ap (λ (n : ℕ). shard_start z n) all ∙ (sym c.requires.directory.2 ∙ sym last.invariant.count)),
    )
