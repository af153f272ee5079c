-- Each round of the loop puts one slot more on the list.
use Rattle.std.proofs.Common.{rules, ◌≡◌, ℕ, true, Some, List, [], length, slice_get, sym, ap, ◌∙◌, subst, arith}
use Rattle.std.specs.List.{All}
use Rattle.std.specs.Vec.Iter.{into_iter_items}
use Rattle.std.proofs.lemmas.List.{nil_from_length}
use Rattle.keybits.specs.declared.shape.Shape.{Shape}
use Rattle.keybits.specs.Places.{place_at, shard_of}
use Rattle.keybits.specs.Shapes.{IsShape, is_place, shard_places, index_of}
use Rattle.freelists.specs.Queues.{IsAway}
use Rattle.freelists.specs.Shards.{place_numbered}
use Rattle.poolsteps.specs.Layout.{shard_start}
use Rattle.shardpool.specs.declared.pool.LaneState.{LaneState}
use Rattle.shardpool.specs.Stores.{KeepsOwn}
use Rattle.shardpool.proofs.free.Pages.{MayOpen, OpensSlots, page-opened, none-on, all-on, one-on, same-number, same-shape, low-shard, small-slot, slot-is, inside, shard-is, page-is, slot-away}
use Rattle.shardpool.proofs.stores.open_next.Goals as goal

pub loop-object-init : goal.loop-object-init
loop-object-init g c =
    let old = c.args.state.now in
    let content = g.T.Clear.content in
    let paged = ap (λ (z : Shape). z.pages) c.requires.paged in
    let low = c.requires.unopened in
    let gives = c.into_iter-object-iterator.ensures.into_iter_gives in
    let pages = page-opened c.open_next.result old.pages c.open_next.new.self c.open_next.ensures.some.1 c.open_next.ensures.lowest c.open_next.ensures.opened (omega (arith, paged, low)) in
    record {
      on = none-on content g.T.Clear.room old c.open_next.new.self (into_iter_items c.into_iter-object-iterator.result) c.requires.own pages c.requires.narrow
          (ap (λ (xs : List g.row.T.Denot). length xs) gives.0 ∙ c.requires.count)
          (subst (λ (xs : List g.row.T.Denot). All (λ object. content object ≡ []) xs) (sym gives.0) c.requires.empty);
      rest = search rules;
    }

pub overflow_cast-place : goal.overflow_cast-place
overflow_cast-place g c =
    let old = c.args.state.now in
    let content = g.T.Clear.content in
    let room = g.T.Clear.room in
    let may : MayOpen old = record {
      shape = c.requires.shape;
      lane = c.requires.lane;
      shard = c.requires.lists.0;
      list = c.requires.lists.1;
      unopened = c.requires.unopened;
      chain = c.requires.chain;
    } in
    let now = c.loop-object.state in
    let on = subst (λ (left : List g.row.T.Denot). OpensSlots content room old left now) c.in-Some.ensures.steps.0 c.loop-object.invariant.on in
    let same = same-number content room old may now on in
    let low = low-shard content room old may now on in
    omega (arith, same, low)

pub overflow_cast-place-in-loop-object-2 : goal.overflow_cast-place-in-loop-object-2
overflow_cast-place-in-loop-object-2 g c =
    let old = c.args.state.now in
    let content = g.T.Clear.content in
    let room = g.T.Clear.room in
    let may : MayOpen old = record {
      shape = c.requires.shape;
      lane = c.requires.lane;
      shard = c.requires.lists.0;
      list = c.requires.lists.1;
      unopened = c.requires.unopened;
      chain = c.requires.chain;
    } in
    let now = c.loop-object.state in
    let on = subst (λ (left : List g.row.T.Denot). OpensSlots content room old left now) c.in-Some.ensures.steps.0 c.loop-object.invariant.on in
    let slot = c.len.ensures.len ∙ slot-is content room old may now on in
    let small = small-slot content room old may now on in
    omega (arith, slot, small)

pub number-requires-clause-slot : goal.number-requires-clause-slot
number-requires-clause-slot g c =
    let old = c.args.state.now in
    let content = g.T.Clear.content in
    let room = g.T.Clear.room in
    let may : MayOpen old = record {
      shape = c.requires.shape;
      lane = c.requires.lane;
      shard = c.requires.lists.0;
      list = c.requires.lists.1;
      unopened = c.requires.unopened;
      chain = c.requires.chain;
    } in
    let now = c.loop-object.state in
    let on = subst (λ (left : List g.row.T.Denot). OpensSlots content room old left now) c.in-Some.ensures.steps.0 c.loop-object.invariant.on in
    let slot = c.len.ensures.len ∙ slot-is content room old may now on in
    let small = small-slot content room old may now on in
    omega (arith, slot, small)

pub list-requires-clause-shape : goal.list-requires-clause-shape
list-requires-clause-shape g c =
    let old = c.args.state.now in
    let content = g.T.Clear.content in
    let room = g.T.Clear.room in
    let may : MayOpen old = record {
      shape = c.requires.shape;
      lane = c.requires.lane;
      shard = c.requires.lists.0;
      list = c.requires.lists.1;
      unopened = c.requires.unopened;
      chain = c.requires.chain;
    } in
    let now = c.loop-object.state in
    let on = subst (λ (left : List g.row.T.Denot). OpensSlots content room old left now) c.in-Some.ensures.steps.0 c.loop-object.invariant.on in
    subst IsShape (sym (same-shape content room old may now on)) c.requires.shape

pub list-requires-clause-place : goal.list-requires-clause-place
list-requires-clause-place g c =
    let old = c.args.state.now in
    let content = g.T.Clear.content in
    let room = g.T.Clear.room in
    let may : MayOpen old = record {
      shape = c.requires.shape;
      lane = c.requires.lane;
      shard = c.requires.lists.0;
      list = c.requires.lists.1;
      unopened = c.requires.unopened;
      chain = c.requires.chain;
    } in
    let now = c.loop-object.state in
    let on = subst (λ (left : List g.row.T.Denot). OpensSlots content room old left now) c.in-Some.ensures.steps.0 c.loop-object.invariant.on in
    let at : c.number.result ≡ place_at old.number old.pages.opened on.slots
    = c.number.ensures ∙ (λ i. place_at (same-number content room old may now on i) (c.opened-page.ensures.opened i) ((c.len.ensures.len ∙ slot-is content room old may now on) i)) in
    ap (λ (n : ℕ). is_place now.shape n) at ∙ (ap (λ (z : Shape). is_place z (place_at old.number old.pages.opened on.slots)) (same-shape content room old may now on)
    ∙ inside content room old may now on)

pub list-requires-clause-narrow : goal.list-requires-clause-narrow
list-requires-clause-narrow g c =
    let old = c.args.state.now in
    let content = g.T.Clear.content in
    let room = g.T.Clear.room in
    let may : MayOpen old = record {
      shape = c.requires.shape;
      lane = c.requires.lane;
      shard = c.requires.lists.0;
      list = c.requires.lists.1;
      unopened = c.requires.unopened;
      chain = c.requires.chain;
    } in
    let now = c.loop-object.state in
    let on = subst (λ (left : List g.row.T.Denot). OpensSlots content room old left now) c.in-Some.ensures.steps.0 c.loop-object.invariant.on in
    on.narrow ∙ ap shard_places (sym (same-shape content room old may now on))

pub list-requires-clause-away : goal.list-requires-clause-away
list-requires-clause-away g c =
    let old = c.args.state.now in
    let content = g.T.Clear.content in
    let room = g.T.Clear.room in
    let may : MayOpen old = record {
      shape = c.requires.shape;
      lane = c.requires.lane;
      shard = c.requires.lists.0;
      list = c.requires.lists.1;
      unopened = c.requires.unopened;
      chain = c.requires.chain;
    } in
    let now = c.loop-object.state in
    let on = subst (λ (left : List g.row.T.Denot). OpensSlots content room old left now) c.in-Some.ensures.steps.0 c.loop-object.invariant.on in
    let at : c.number.result ≡ place_at old.number old.pages.opened on.slots
    = c.number.ensures ∙ (λ i. place_at (same-number content room old may now on i) (c.opened-page.ensures.opened i) ((c.len.ensures.len ∙ slot-is content room old may now on) i)) in
    subst (λ (n : ℕ). IsAway now.free (place_numbered n)) (sym at) (slot-away content room old may now on)

pub list-requires-clause-placed : goal.list-requires-clause-placed
list-requires-clause-placed g c =
    let old = c.args.state.now in
    let content = g.T.Clear.content in
    let room = g.T.Clear.room in
    let may : MayOpen old = record {
      shape = c.requires.shape;
      lane = c.requires.lane;
      shard = c.requires.lists.0;
      list = c.requires.lists.1;
      unopened = c.requires.unopened;
      chain = c.requires.chain;
    } in
    let now = c.loop-object.state in
    let on = subst (λ (left : List g.row.T.Denot). OpensSlots content room old left now) c.in-Some.ensures.steps.0 c.loop-object.invariant.on in
    ap (λ (s : LaneState g.row.T.Denot). s.places.shape) on.rest ∙ (c.requires.placed ∙ sym (same-shape content room old may now on))

pub list-requires-clause-begins : goal.list-requires-clause-begins
list-requires-clause-begins g c =
    let old = c.args.state.now in
    let content = g.T.Clear.content in
    let room = g.T.Clear.room in
    let may : MayOpen old = record {
      shape = c.requires.shape;
      lane = c.requires.lane;
      shard = c.requires.lists.0;
      list = c.requires.lists.1;
      unopened = c.requires.unopened;
      chain = c.requires.chain;
    } in
    let now = c.loop-object.state in
    let on = subst (λ (left : List g.row.T.Denot). OpensSlots content room old left now) c.in-Some.ensures.steps.0 c.loop-object.invariant.on in
    let at : c.number.result ≡ place_at old.number old.pages.opened on.slots
    = c.number.ensures ∙ (λ i. place_at (same-number content room old may now on i) (c.opened-page.ensures.opened i) ((c.len.ensures.len ∙ slot-is content room old may now on) i)) in
    on.same.1 ∙ (c.requires.begins
    ∙ (λ i. shard_start (sym (same-shape content room old may now on) i) (sym (ap shard_of at ∙ shard-is content room old may now on) i)))

pub list-requires-clause-right : goal.list-requires-clause-right
list-requires-clause-right g c =
    let old = c.args.state.now in
    let content = g.T.Clear.content in
    let room = g.T.Clear.room in
    let may : MayOpen old = record {
      shape = c.requires.shape;
      lane = c.requires.lane;
      shard = c.requires.lists.0;
      list = c.requires.lists.1;
      unopened = c.requires.unopened;
      chain = c.requires.chain;
    } in
    let now = c.loop-object.state in
    let on = subst (λ (left : List g.row.T.Denot). OpensSlots content room old left now) c.in-Some.ensures.steps.0 c.loop-object.invariant.on in
    let at : c.number.result ≡ place_at old.number old.pages.opened on.slots
    = c.number.ensures ∙ (λ i. place_at (same-number content room old may now on i) (c.opened-page.ensures.opened i) ((c.len.ensures.len ∙ slot-is content room old may now on) i)) in
    let index : index_of now.shape c.number.result ≡ index_of old.shape (place_at old.number old.pages.opened on.slots) = λ i. index_of (same-shape content room old may now on i) (at i) in
    subst (λ (n : ℕ). slice_get now.objects.rights n ≡ Some true) (sym index)
    (on.rights (index_of old.shape (place_at old.number old.pages.opened on.slots))
    (c.requires.rights (place_at old.number old.pages.opened on.slots) (inside content room old may now on) (shard-is content room old may now on) (page-is content room old may now on)))

pub loop-object-preserved : goal.loop-object-preserved
loop-object-preserved g c =
    let old = c.args.state.now in
    let content = g.T.Clear.content in
    let room = g.T.Clear.room in
    let may : MayOpen old = record {
      shape = c.requires.shape;
      lane = c.requires.lane;
      shard = c.requires.lists.0;
      list = c.requires.lists.1;
      unopened = c.requires.unopened;
      chain = c.requires.chain;
    } in
    let now = c.loop-object.state in
    let on = subst (λ (left : List g.row.T.Denot). OpensSlots content room old left now) c.in-Some.ensures.steps.0 c.loop-object.invariant.on in
    let at : c.number.result ≡ place_at old.number old.pages.opened on.slots
    = c.number.ensures ∙ (λ i. place_at (same-number content room old may now on i) (c.opened-page.ensures.opened i) ((c.len.ensures.len ∙ slot-is content room old may now on) i)) in
    record {
      on = one-on content room old may now on c.list.new.state (subst (λ (n : ℕ). KeepsOwn n c.in-Some.object now c.list.new.state) at c.list.ensures);
      rest = let was = c.loop-object.invariant.rest in let gone = c.in-Some.ensures.steps.1 in let shorter = ap length c.in-Some.ensures.steps.0 in omega arith;
    }

pub returns : goal.returns
returns g c =
    let old = c.args.state.now in
    let content = g.T.Clear.content in
    let room = g.T.Clear.room in
    let last = c.loop-object in
    let none : into_iter_items last.object-iterator ≡ [] = nil_from_length (into_iter_items last.object-iterator) (sym last.invariant.rest ∙ c.in-None.ensures.steps.0) in
    all-on content room old last.state (subst (λ (left : List g.row.T.Denot). OpensSlots content room old left last.state) none last.invariant.on)
