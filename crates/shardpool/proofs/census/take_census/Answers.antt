-- Each round marks and counts the shard of one state more.
use Rattle.std.proofs.Common.{rules, ◌≡◌, ◌+◌, [], ◌∷◌, ◌++◌, map, ◌<◌, ℕ, List, length, Some, sym, ap, ◌∙◌, subst, arith}
use Rattle.std.specs.Prelude.{slice_get}
use Rattle.std.specs.Vec.Iter.{into_iter_items}
use Rattle.std.proofs.lemmas.List.Elements.{All-same, All-nil, All-push}
use Rattle.std.proofs.lemmas.List.{nil_from_length, length_push}
use Rattle.std.proofs.lemmas.Option.{slice_get_within}
use Rattle.core.specs.Mem.Slots.{slots_items}
use Rattle.keybits.specs.Places.{number_of}
use Rattle.poolsteps.specs.Objects.{ObjectsOf}
use Rattle.shardpool.specs.Marks.{Blanks, AreFreePlaces, returned_places, Counts}
use Rattle.shardpool.proofs.count.Marks.{blanks-then}
use Rattle.shardpool.proofs.count.Rounds.{SlotsSoFar, slots-so-far-none, returned-own, unopened-idle, have-cells, slots-more, SoFar, so-far-none, so-far-counts, so-far-room, chain, threads, given, state-low, count-low, stand-now, so-far-more, all-gone, is-census, all-drained, all-at}
use Rattle.shardpool.proofs.at_close.ReturnedShares.{next-state, state-moves}
use Rattle.shardpool.proofs.census.take_census.Given.{Over}
use Rattle.shardpool.specs.Stores.{AreOfShard}
use Rattle.shardpool.proofs.census.take_census.Goals as goal
use Rattle.shardpool.proofs.census.take_census.Goals.{In-Some, After-mark_returned}

pub loop-state-init : goal.loop-state-init
loop-state-init g c = record {
  so_far = λ history lanes last. subst (SoFar c.args.shape.now history lanes c.args.words.now 0 c.args.words.now) (sym c.none-census.ensures)
      (so-far-none c.args.shape.now history lanes c.args.words.now c.requires.words);
  slots = λ history lanes last. slots-so-far-none c.args.shape.now history lanes c.args.slots.now c.requires.slots;
  states = c.into_iter-state-iterator.ensures.into_iter_gives.0;
  rights = All-same (λ objects. objects.directory ≡ c.args.directory.ptr) c.args.rights.now.items [] c.requires.rights.0 (All-nil (λ objects. objects.directory ≡ c.args.directory.ptr));
  kept = ap length c.requires.rights.0;
  room = c.requires.rights.1;
  rest = search rules;
}

-- the state of this round
at : (g : Over) (c : In-Some g) → slice_get c.args.states.items (length c.loop-state.yielded) ≡ Some c.in-Some.state
at g c = next-state c.args.states.items c.loop-state.yielded (into_iter_items c.loop-state.state-iterator) (into_iter_items c.next.new.self) c.in-Some.state
    c.loop-state.invariant.states c.in-Some.ensures.steps.0

-- its number, and its free places
low : (g : Over) (c : In-Some g) → c.in-Some.state.number < c.args.shape.now.lanes
low g c = let q = c.requires.last in
    state-low c.args.shape.now c.requires.shape q.0 q.1 c.args.states.items c.args.words.now c.requires.words q.2 (length c.loop-state.yielded) c.in-Some.state (at g c)

stands : (g : Over) (c : In-Some g) (opened : ℕ) → opened ≡ c.in-Some.state.pages.opened → (first : List ℕ) × (others : ℕ → List ℕ) × (by_guests : List ℕ)
    × AreFreePlaces c.args.shape.now (slots_items c.loop-state.words) c.in-Some.state.number opened c.in-Some.state.free first others by_guests
stands g c opened same =
    let z = c.args.shape.now in let q = c.requires.last in let before = c.loop-state in let states = c.args.states.items in let old = c.args.words.now in
    let first = chain z c.requires.shape q.0 q.1 states old c.requires.words q.2 (length before.yielded) c.in-Some.state (at g c) in
    let others = threads z c.requires.shape q.0 q.1 states old c.requires.words q.2 (length before.yielded) c.in-Some.state (at g c) in
    let by_guests = given z c.requires.shape q.0 q.1 states old c.requires.words q.2 (length before.yielded) c.in-Some.state (at g c) in (
      first,
      others,
      by_guests,
      subst (λ (n : ℕ). AreFreePlaces z (slots_items before.words) c.in-Some.state.number n c.in-Some.state.free first others by_guests) (sym same)
          (stand-now z c.requires.shape q.0 q.1 states old c.requires.words q.2 (length before.yielded) c.in-Some.state (at g c) before.words before.census
          (before.invariant.so_far q.0 q.1 q.2)),
    )

-- what the marks of the returned places do, by the pages that are opened
marks : (g : Over) (c : After-mark_returned g) → (first : List ℕ) (others : ℕ → List ℕ) (by_guests : List ℕ)
    → AreFreePlaces c.args.shape.now (slots_items c.loop-state.words) c.in-Some.state.number c.in-Some.state.pages.opened c.in-Some.state.free first others by_guests
    → Blanks c.args.shape.now (returned_places c.args.shape.now c.in-Some.state.number first others by_guests) c.loop-state.words c.mark_returned.new.words
marks g c = λ first others by_guests stand. c.mark_returned.ensures first others by_guests
    (subst (λ (n : ℕ). AreFreePlaces c.args.shape.now (slots_items c.loop-state.words) c.in-Some.state.number n c.in-Some.state.free first others by_guests)
    (sym c.opened-opened.ensures.opened) stand)

pub mark_returned-requires-clause-shard : goal.mark_returned-requires-clause-shard
mark_returned-requires-clause-shard g c = low g (goal.at.mark_returned-requires-clause-shard g c).In-Some

pub mark_returned-requires-clause-row : goal.mark_returned-requires-clause-row
mark_returned-requires-clause-row g c = let q = c.requires.last in (c.loop-state.invariant.so_far q.0 q.1 q.2).blanks.row

pub mark_returned-requires-clause-free : goal.mark_returned-requires-clause-free
mark_returned-requires-clause-free g c = stands g (goal.at.mark_returned-requires-clause-free g c).In-Some c.opened-opened.result c.opened-opened.ensures.opened

pub out_cells-requires-clause-shard : goal.out_cells-requires-clause-shard
out_cells-requires-clause-shard g c = low g (goal.at.out_cells-requires-clause-shard g c).In-Some

pub out_cells-requires-clause-words : goal.out_cells-requires-clause-words
out_cells-requires-clause-words g c = let free = stands g (goal.at.out_cells-requires-clause-words g c).In-Some c.opened-opened.result c.opened-opened.ensures.opened in (c.mark_returned.ensures free.0 free.1 free.2 free.3).row

pub out_cells-requires-clause-row : goal.out_cells-requires-clause-row
out_cells-requires-clause-row g c = let q = c.requires.last in (c.loop-state.invariant.slots q.0 q.1 q.2).row

pub out_cells-requires-clause-cells : goal.out_cells-requires-clause-cells
out_cells-requires-clause-cells g c =
    let z = c.args.shape.now in let q = c.requires.last in let before = c.loop-state in let states = c.args.states.items in let old = c.args.words.now in
    let here = at g (goal.at.out_cells-requires-clause-cells g c).In-Some in
    let so_far = before.invariant.so_far q.0 q.1 q.2 in
    have-cells z c.requires.shape q.0 q.1 states old c.requires.words q.2 (length before.yielded) c.in-Some.state here before.words before.census so_far c.mark_returned.new.words
    (returned-own z c.requires.shape q.0 q.1 states old c.requires.words q.2 (length before.yielded) c.in-Some.state here before.words before.census so_far c.mark_returned.new.words
    (marks g (goal.at.out_cells-requires-clause-cells g c).After-mark_returned)) q.3 (before.invariant.slots q.0 q.1 q.2)

pub out_cells-requires-clause-idle : goal.out_cells-requires-clause-idle
out_cells-requires-clause-idle g c = λ place inside of_shard unopened.
    let z = c.args.shape.now in let q = c.requires.last in let before = c.loop-state in let states = c.args.states.items in let old = c.args.words.now in
    let here = at g (goal.at.out_cells-requires-clause-idle g c).In-Some in
    let so_far = before.invariant.so_far q.0 q.1 q.2 in
    let same = c.opened-opened.ensures.opened in
    unopened-idle z c.requires.shape q.0 q.1 states old c.requires.words q.2 (length before.yielded) c.in-Some.state here before.words before.census so_far c.mark_returned.new.words
    (returned-own z c.requires.shape q.0 q.1 states old c.requires.words q.2 (length before.yielded) c.in-Some.state here before.words before.census so_far c.mark_returned.new.words
    (marks g (goal.at.out_cells-requires-clause-idle g c).After-mark_returned)) place inside of_shard (omega (arith, unopened, same))

-- its rights
rights : (g : Over) (c : In-Some g) → (c.in-Some.state.objects.directory ≡ c.args.directory.ptr) × AreOfShard c.args.shape.now c.in-Some.state.number c.in-Some.state.objects
rights g c = all-at (λ state. (state.objects.directory ≡ c.args.directory.ptr) × AreOfShard c.args.shape.now state.number state.objects) c.args.states.items
    (length c.loop-state.yielded) c.in-Some.state c.requires.objects (at g c)

pub out_cells-requires-clause-objects : goal.out_cells-requires-clause-objects
out_cells-requires-clause-objects g c = rights g (goal.at.out_cells-requires-clause-objects g c).In-Some

pub push_reserved-requires : goal.push_reserved-requires
push_reserved-requires g c =
    let low = slice_get_within c.args.states.items (length c.loop-state.yielded) c.in-Some.state (at g (goal.at.push_reserved-requires g c).In-Some) in
    let kept = c.loop-state.invariant.kept in
    let room = c.loop-state.invariant.room in
    let stand = c.loop-state.rights.ok.0 in
    omega (arith, low, kept, room, stand)

pub mark_list-requires-clause-row : goal.mark_list-requires-clause-row
mark_list-requires-clause-row g c = let free = stands g (goal.at.mark_list-requires-clause-row g c).In-Some c.opened-opened.result c.opened-opened.ensures.opened in (c.mark_returned.ensures free.0 free.1 free.2 free.3).row

pub mark_list-requires-clause-own : goal.mark_list-requires-clause-own
mark_list-requires-clause-own g c = (stands g (goal.at.mark_list-requires-clause-own g c).In-Some c.opened-opened.result c.opened-opened.ensures.opened).3.listed

pub count_shard-requires-clause-shard : goal.count_shard-requires-clause-shard
count_shard-requires-clause-shard g c = low g (goal.at.count_shard-requires-clause-shard g c).In-Some

pub count_shard-requires-clause-row : goal.count_shard-requires-clause-row
count_shard-requires-clause-row g c = c.mark_list.ensures.marks.row

pub count_shard-requires-clause-room : goal.count_shard-requires-clause-room
count_shard-requires-clause-room g c =
    let z = c.args.shape.now in let q = c.requires.last in let before = c.loop-state in let old = c.args.words.now in
    so-far-room z c.requires.shape q.0 q.1 old before.words (length before.yielded) before.census (before.invariant.so_far q.0 q.1 q.2)
    (count-low z c.requires.shape q.0 q.1 c.args.states.items old c.requires.words q.2 (length before.yielded) c.in-Some.state
    (at g (goal.at.count_shard-requires-clause-room g c).In-Some))

pub loop-state-preserved : goal.loop-state-preserved
loop-state-preserved g c =
    let z = c.args.shape.now in let before = c.loop-state in let states = c.args.states.items in let old = c.args.words.now in
    record {
      so_far = λ history lanes last.
          subst (λ (n : ℕ). SoFar z history lanes old n c.mark_list.new.words c.count_shard.new.census) (sym (length_push before.yielded c.in-Some.state))
          (so-far-more z c.requires.shape history lanes states old c.requires.words last (length before.yielded) c.in-Some.state
          (at g (goal.at.loop-state-preserved g c).In-Some) before.words before.census
          (before.invariant.so_far history lanes last) c.mark_list.new.words c.count_shard.new.census
          (λ first others by_guests stand. blanks-then z (returned_places z c.in-Some.state.number first others by_guests) (map number_of c.in-Some.state.free.own) before.words c.mark_returned.new.words
          c.mark_list.new.words (marks g (goal.at.loop-state-preserved g c).After-mark_returned first others by_guests stand) c.mark_list.ensures.marks)
          (subst (λ (n : ℕ). Counts z c.in-Some.state.number n (slots_items c.mark_list.new.words) before.census c.count_shard.new.census) c.opened-opened.ensures.opened c.count_shard.ensures));
      slots = λ history lanes last.
          let here = at g (goal.at.loop-state-preserved g c).In-Some in
          let so_far = before.invariant.so_far history lanes last in
          subst (λ (n : ℕ). SlotsSoFar z history lanes n c.args.slots.now c.out_cells.new.slots) (sym (length_push before.yielded c.in-Some.state))
          (slots-more z c.requires.shape history lanes states old c.requires.words last (length before.yielded) c.in-Some.state here before.words before.census so_far
          c.mark_returned.new.words
          (returned-own z c.requires.shape history lanes states old c.requires.words last (length before.yielded) c.in-Some.state here before.words before.census so_far
          c.mark_returned.new.words (marks g (goal.at.loop-state-preserved g c).After-mark_returned)) (before.invariant.slots history lanes last) c.out_cells.new.slots c.out_cells.ensures.drains);
      states = state-moves states before.yielded (into_iter_items before.state-iterator) (into_iter_items c.next.new.self) c.in-Some.state before.invariant.states c.in-Some.ensures.steps.0;
      rights =
          let P : ObjectsOf g.row.T.Denot → Type 0 = λ objects. objects.directory ≡ c.args.directory.ptr in
          let of : P c.rights_of.result
          = (λ i. (c.rights_of.ensures i).directory) ∙ ((λ i. (c.out_cells.ensures.objects i).directory) ∙ (rights g (goal.at.loop-state-preserved g c).In-Some).0) in
          All-same P c.push_reserved.new.self.items (before.rights.items ++ c.rights_of.result ∷ []) c.push_reserved.ensures.items (All-push P before.rights.items c.rights_of.result before.invariant.rights of);
      kept = ap length c.push_reserved.ensures.items ∙ (length_push before.rights.items c.rights_of.result ∙ (ap (λ (n : ℕ). n + 1) before.invariant.kept
          ∙ sym (length_push before.yielded c.in-Some.state)));
      room = rw c.push_reserved.ensures.capacity before.invariant.room;
      rest = let was = before.invariant.rest in let gone = c.in-Some.ensures.steps.1 in let shorter = ap length c.in-Some.ensures.steps.0 in omega arith;
    }

pub returns-clause-rights : goal.returns-clause-rights
returns-clause-rights g c = c.loop-state.invariant.rights

pub returns-clause-census : goal.returns-clause-census
returns-clause-census g c = λ history lanes last.
    let z = c.args.shape.now in let end = c.loop-state in let old = c.args.words.now in let left = into_iter_items end.state-iterator in
    let none = nil_from_length left (sym end.invariant.rest ∙ c.in-None.ensures.steps.0) in
    is-census z history lanes c.args.states.items old end.words end.census last
    (all-gone z history lanes c.args.states.items end.yielded left old end.words end.census last end.invariant.states none (end.invariant.so_far history lanes last))

pub returns-clause-adds : goal.returns-clause-adds
returns-clause-adds g c =
    let z = c.args.shape.now in let q = c.requires.last in let end = c.loop-state in let old = c.args.words.now in let left = into_iter_items end.state-iterator in
    let none = nil_from_length left (sym end.invariant.rest ∙ c.in-None.ensures.steps.0) in
    so-far-counts z q.0 q.1 old end.words z.lanes end.census
    (all-gone z q.0 q.1 c.args.states.items end.yielded left old end.words end.census q.2 end.invariant.states none (end.invariant.so_far q.0 q.1 q.2))

pub returns-clause-words : goal.returns-clause-words
returns-clause-words g c =
    let q = c.requires.last in
    let blanks = (c.loop-state.invariant.so_far q.0 q.1 q.2).blanks in
    (blanks.row.0, blanks.row.1 ∙ sym c.requires.words.1, blanks.start)

pub returns-clause-slots : goal.returns-clause-slots
returns-clause-slots g c = let q = c.requires.last in let slots = c.loop-state.invariant.slots q.0 q.1 q.2 in (slots.row, slots.start)

pub returns-clause-gone : goal.returns-clause-gone
returns-clause-gone g c = λ history lanes last.
    let end = c.loop-state in let left = into_iter_items end.state-iterator in
    let none = nil_from_length left (sym end.invariant.rest ∙ c.in-None.ensures.steps.0) in
    all-drained c.args.shape.now history lanes c.args.states.items end.yielded left (slots_items c.args.words.now) c.args.slots.now end.slots last end.invariant.states none
    (end.invariant.slots history lanes last)
