use Rattle.std.proofs.Common.{◌≡◌, ◌-◌, arith, ℕ, true, false, Some, None, refl, sym, ap, ◌∙◌, subst}
use Rattle.std.specs.Prelude.{slice_get, slice_set}
use Rattle.std.proofs.lemmas.Option.{slice_get_within}
use Rattle.keybits.specs.declared.shape.Shape.{Shape}
use Rattle.keybits.specs.Places.{number_of}
use Rattle.keybits.specs.Shapes.{index_of, is_place}
use Rattle.freelists.specs.Shards.{IsOwn, place_numbered}
use Rattle.freelists.specs.Queues.{FreePlaces}
use Rattle.freelists.proofs.FreeLemmas.{numbered}
use Rattle.poolsteps.specs.Layout.{slot_start}
use Rattle.poolsteps.proofs.SlotLemmas.{in-row, row-small}
use Rattle.poolsteps.specs.Objects.{spot_at}
use Rattle.shardpool.proofs.free.Stores.{own-inside, first-in}
use Rattle.shardpool.proofs.free.Words.{stands-from, word-low, word-index}
use Rattle.shardpool.proofs.stores.take_own.Given.{Over}
use Rattle.shardpool.proofs.stores.take_own.Goals.{After-first-first, After-start_from-start}
use Rattle.shardpool.proofs.stores.take_own.Goals as goal

-- the place is one of the lane's shard
own : (g : Over) (c : After-first-first g) → IsOwn c.args.state.now.free.shard c.args.state.now.free.shape (place_numbered c.in_ok-place.place)
own g c = let e = c.in_ok-place.ensures in subst (λ (f : FreePlaces). IsOwn f.shard f.shape (place_numbered c.in_ok-place.place)) e.rest e.away.own

inside : (g : Over) (c : After-first-first g) → is_place c.args.state.now.shape c.in_ok-place.place ≡ true
inside g c =
    let s = c.args.state.now in
    let is = (own-inside s.shape s.free (place_numbered c.in_ok-place.place) c.requires.shape c.requires.lane c.requires.lists (own g c)).is_in in
    subst (λ (n : ℕ). is_place s.shape n ≡ true) (sym (numbered c.in_ok-place.place)) is

-- where it stands
stands : (g : Over) (c : After-start_from-start g) → c.start_from-start.result ≡ slot_start c.args.state.now.shape c.in_ok-place.place
stands g c = c.start_from-start.ensures.start ∙ ap (λ (z : Shape). slot_start z c.in_ok-place.place) c.requires.placed

-- how far behind the first
index : (g : Over) (c : After-start_from-start g) → IsOwn c.args.state.now.free.shard c.args.state.now.free.shape (place_numbered c.in_ok-place.place)
    → c.start_from-start.result - c.args.state.now.objects.first ≡ index_of c.args.state.now.shape (number_of (place_numbered c.in_ok-place.place))
index g c is_own =
    let s = c.args.state.now in let place = c.in_ok-place.place in
    word-index s.shape place s.free.shard c.start_from-start.result s.objects.first is_own.of_shard (stands g c) c.requires.begins
    ∙ ap (index_of s.shape) (numbered place)

pub overflow_cast-first : goal.overflow_cast-first
overflow_cast-first g c =
    let s = c.args.state.now in let place = c.in_ok-place.place in
    let from = stands-from s.shape place s.free.shard (own g c).of_shard in
    let low = in-row s.shape place (inside g c) in
    let small = row-small s.shape c.requires.shape in
    omega (arith, from, low, small, c.requires.begins, c.first-first.ensures)

pub take-requires : goal.take-requires
take-requires g c =
    let s = c.args.state.now in let place = c.in_ok-place.place in
    let is_own = own g (goal.at.take-requires g c).After-first-first in
    let h = (goal.at.take-requires g c).After-start_from-start in
    let stood = c.requires.objects (place_numbered place) (first-in (place_numbered place) c.pop_number.new.self.own s.free.own c.in_ok-place.ensures.first) in
    let low = slice_get_within s.objects.items _ _ stood.1 in
    let at = index g h is_own in
    let begin = word-low s.shape place s.free.shard c.start_from-start.result s.objects.first is_own.of_shard (stands g h) c.requires.begins in
    (begin, omega (arith, low, at, begin))

pub unreachable-requires : goal.unreachable-requires
unreachable-requires g c =
    let s = c.args.state.now in let place = c.in_ok-place.place in
    let at = index g (goal.at.unreachable-requires g c).After-start_from-start (own g (goal.at.unreachable-requires g c).After-first-first) in
    let stood = c.requires.objects (place_numbered place) (first-in (place_numbered place) c.pop_number.new.self.own s.free.own c.in_ok-place.ensures.first) in
    let there = subst (λ n. slice_get s.objects.items n ≡ Some (Some stood.0)) (sym at) stood.1 in
    let bad = sym (c.in-None.ensures.none refl).0 ∙ there in
    cc bad

pub returns : goal.returns
returns g c =
    let old = c.args.state.now in let e = c.in_ok-place.ensures in
    let h = (goal.at.returns g c).After-start_from-start in
    let at = index g h (own g (goal.at.returns g c).After-first-first) in (
      record {
        list = e.first;
        stood = subst (λ n. slice_get old.objects.items n ≡ Some (Some c.in-Some.whole.object)) at c.in-Some.ensures.some.1;
        objects = c.in-Some.ensures.some.2 ∙ ap (λ i. record old.objects { items = slice_set old.objects.items i None; rights = slice_set old.objects.rights i false }) at;
        away = e.away;
        free = e.places;
        own = e.rest;
        rest = refl;
      },
      stands g h,
      c.in-Some.ensures.some.0 ∙ ap (spot_at old.objects.directory) (stands g h),
    )
