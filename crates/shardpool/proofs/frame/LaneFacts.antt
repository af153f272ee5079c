-- What calls leave of lanes, as contracts see them.
use Rattle.std.proofs.Common.{arith, ◌≡◌, ◌≢◌, ⊎_elim, ℕ, ◌<◌, Bool, true, false, cond, eqb, List, [], ◌∷◌, ◌++◌, Option, Some, None, refl, sym, ap, ◌∙◌, subst, Contains, not, ◌&&◌, length, eq-eqb, ne_eqb}
use Rattle.std.proofs.lemmas.List.Elements.{All-nil, All-cons, All-head, All-tail, All-contains, Contains-append_cases}
use Rattle.std.specs.List.{All}
use mathlib.Core.Logic.{dite}
use native.Mathlib.Decide.{ℕ_discrete}
use Rattle.atomic_table.specs.Seated.{TableId}
use Rattle.keybits.specs.declared.shape.Shape.{Shape}
use Rattle.keybits.specs.declared.place.Place.{Place}
use Rattle.keybits.specs.Places.{shard_of, page_of, number_of}
use Rattle.keybits.specs.Shapes.{is_place}
use Rattle.keybits.specs.Counts.{times}
use Rattle.keybits.specs.Keys.{place_of, generation_of}
use Rattle.freelists.specs.Shards.{ShardPages, place_numbered}
use Rattle.freelists.specs.Queues.{FreePlaces}
use Rattle.seqpool.specs.declared.act.Act.{Act}
use Rattle.seqpool.specs.declared.act.Act.TheVariants as acts
use Rattle.seqpool.specs.Pool.{with, has, pool_after}
use Rattle.seqpool.specs.Histories.{acts_of}
use Rattle.poolsteps.specs.declared.view.Status.TheVariants.{Untouched, Emptied}
use Rattle.poolsteps.specs.PlaceLaws.{gives_away, brings}
use Rattle.poolsteps.specs.declared.view.View.{View}
use Rattle.poolsteps.specs.Layout.{slot_start}
use Rattle.poolsteps.specs.Views.{the_lane, status_of}
use Rattle.poolsteps.specs.Told.{IsIdle, references_seen, MayPublish}
use Rattle.poolsteps.specs.ViewLaws.{references_made}
use Rattle.seatcalls.specs.Carried.{AreEmptied}
use Rattle.seatcalls.specs.declared.at.Reclaimed.{Reclaimed}
use Rattle.seatcalls.specs.Called.{MovedNothing}
use Rattle.shardpool.specs.declared.pool.LaneState.{LaneState}
use Rattle.shardpool.specs.Tokens.{LaneOf, FillingOf}
use Rattle.shardpool.specs.Lanes.{Made, Did, freed}
use Rattle.seatcalls.proofs.parts.Frames.{Passes}
use Rattle.shardpool.proofs.frame.LaneFrames.{passes-refs, away-elsewhere}
use Rattle.shardpool.proofs.frame.Standing.{sees-on}
use Rattle.shardpool.proofs.frame.KeptPlaces.{still-with, none-brings, may-passes}
use Rattle.shardpool.proofs.free.Stores.{numbered}
use Rattle.shardpool.proofs.calls.Ends.{touched_by, Ended}

-- the lane of a table with this view and this state
abbrev pub lane_of : {T : Type 0} → TableId → View → LaneState T → LaneOf
lane_of table v s = record { table = table; directory = s.objects.directory; shape = s.shape; number = s.number; book = v; free = s.free; pages = s.pages }

-- ---- what was freed

-- a place that no act brings isn't freed
module _ (z : Shape) (lane p : ℕ) where
  abbrev Other : Place → Type 0
  Other at = number_of at ≡ p → ⊥

  freed-else : (key : ℕ) (b : Bool) (places : List Place) → eqb p (place_of key) ≡ false → All Other places
      → All Other (cond b (place_numbered (place_of key) ∷ places) places)
  freed-else key true places off rest =
      All-cons Other (place_numbered (place_of key)) places
      (λ is. let on = eq-eqb p (place_of key) (sym is ∙ numbered (place_of key)) in let bad : true ≡ false = sym on ∙ off in cc bad) rest
  freed-else key false places off rest = rest

  freed-others : (made : List Act) → All (λ act. brings act p ≡ false) made → All Other (freed z lane made)
  freed-others [] none = All-nil Other
  freed-others (acts.Publish l key content with_ref ∷ made) none = freed-others made (All-tail (λ act. brings act p ≡ false) (acts.Publish l key content with_ref) made none)
  freed-others (acts.Get l key reply ∷ made) none = freed-others made (All-tail (λ act. brings act p ≡ false) (acts.Get l key reply) made none)
  freed-others (acts.Release l key ∷ made) none = freed-others made (All-tail (λ act. brings act p ≡ false) (acts.Release l key) made none)
  freed-others (acts.Clear l key reply ∷ made) none = freed-others made (All-tail (λ act. brings act p ≡ false) (acts.Clear l key reply) made none)
  freed-others (acts.Reclaim l key ∷ made) none =
      freed-else key (eqb (shard_of (place_of key)) lane && not (eqb (generation_of key) z.last_generation)) (freed z lane made)
      (All-head (λ act. brings act p ≡ false) (acts.Reclaim l key) made none) (freed-others made (All-tail (λ act. brings act p ≡ false) (acts.Reclaim l key) made none))
  freed-others (acts.Home l place ∷ made) none = freed-others made (All-tail (λ act. brings act p ≡ false) (acts.Home l place) made none)
  freed-others (acts.Collect l places ∷ made) none = freed-others made (All-tail (λ act. brings act p ≡ false) (acts.Collect l places) made none)

-- ---- fillings

-- a filling of the lane is one after what the lane did, where its slots weren't touched, it wasn't given away, and the list gained what was freed alone
pub made-passes : {T : Type 0} {at : ℕ → Bool} {made : List Act} (z : Shape) (old new : LaneOf) (filling : FillingOf T) → old.shape ≡ z → new.shape ≡ z
    → (the_lane old.book).lane ≡ old.number → new.number ≡ old.number → new.table ≡ old.table → new.directory ≡ old.directory
    → Passes z at made old.book new.book → length old.book.rooms ≡ length old.book.seen → (the_lane old.book).mine ≡ acts_of (the_lane old.book).lane old.book.seen
    → IsIdle new.book → (the_lane new.book).chain ≡ (the_lane old.book).chain → new.free ≡ record old.free { own = old.free.own ++ freed z old.number made }
    → new.pages ≡ old.pages → at (place_of filling.key) ≡ false → All (λ act. gives_away act (place_of filling.key) ≡ false) made
    → Made old filling → Made new filling
made-passes {made = made} z old new filling shape shape_now number same table directory passes paired own idle chain list pages off keeps was =
    let p : ℕ = place_of filling.key in
    let is : (pool_after z old.book.seen p).phase ≡ with (the_lane old.book).lane
    = subst (λ (y : Shape). (pool_after y old.book.seen p).phase ≡ with (the_lane old.book).lane) shape (was.place.with_lane ∙ ap with (sym number)) in
    let still = still-with passes.acted paired own p is keeps in record {
      table = was.table ∙ sym table;
      directory = was.directory ∙ sym directory;
      place = record {
        inside = subst (λ (y : Shape). is_place y p ≡ true) (shape ∙ sym shape_now) was.place.inside;
        own = was.place.own ∙ sym same;
        opened = subst (λ (n : ℕ). page_of p < n) (ap (λ (x : ShardPages). x.opened) (sym pages)) was.place.opened;
        with_lane = subst (λ (y : Shape). (pool_after y new.book.seen p).phase ≡ with new.number) (sym shape_now) (still ∙ ap with (passes.acted.lane ∙ (number ∙ sym same)));
        unlisted = λ at within is_at. ⊎_elim
            (λ (before : Contains old.free.own at). was.place.unlisted at before is_at)
            (λ (gained : Contains (freed z old.number made) at).
            All-contains (λ x. number_of x ≡ p → ⊥) (freed z old.number made) at (freed-others z old.number p made (none-brings passes.acted paired own p is keeps)) gained is_at)
            (Contains-append_cases old.free.own (freed z old.number made) at (subst (λ (x : FreePlaces). Contains x.own at) list within));
        unchained = ap (λ (ps : List ℕ). has ps p) chain ∙ was.place.unchained;
      };
      start = subst (λ (y : Shape). filling.start ≡ slot_start y (place_of filling.key)) (shape ∙ sym shape_now) was.start;
      may = subst (λ (y : Shape). MayPublish y new.book filling.key) (sym shape_now)
          (may-passes passes paired own (subst (λ (y : Shape). MayPublish y old.book filling.key) shape was.may) keeps idle
          (ap (λ (ps : List ℕ). times p ps) chain ∙ was.may.unchained));
      emptied = subst (λ (y : Shape). AreEmptied y (the_lane new.book) p) (sym shape_now)
          (λ k below. passes.deeds p k off ∙ subst (λ (y : Shape). AreEmptied y (the_lane old.book) p) shape was.emptied k below);
    }

-- what a call did with a lane
pub did-lane : {at : ℕ → Bool} {made : List Act} (z : Shape) (old new : LaneOf) → old.shape ≡ z → new.shape ≡ z → new.number ≡ old.number → new.table ≡ old.table
    → new.directory ≡ old.directory
    → Passes z at made old.book new.book → (the_lane old.book).mine ≡ acts_of (the_lane old.book).lane old.book.seen
    → new.free ≡ record old.free { own = old.free.own ++ freed z old.number made } → new.pages ≡ old.pages → Did made old new
did-lane {made = made} z old new shape shape_now same table directory passes own list pages = record {
  goes = sees-on z old new shape_now passes.acted own;
  same = (table, shape_now ∙ sym shape, same, directory);
  mine = passes.acted.mine;
  held = λ key. ap (λ (y : Shape). references_seen y new.book key) shape_now
      ∙ (passes-refs passes own key ∙ ap (λ (y : Shape). references_made made key (references_seen y old.book key)) (sym shape));
  list = list ∙ ap (λ (y : Shape). record old.free { own = old.free.own ++ freed y old.number made }) (sym shape);
  pages = pages;
}

-- where a place was reclaimed or not, a filling's slots weren't touched
pub filling-off : {T : Type 0} (z : Shape) (v w : View) (place p : ℕ) (reclaimed : Option (Reclaimed T)) → 0 < z.lanes → MovedNothing z place (the_lane v) (the_lane w) reclaimed
    → AreEmptied z (the_lane v) p → touched_by place reclaimed p ≡ false
filling-off z v w place p None some moved emptied = refl
filling-off z v w place p (Some reclaimed) some moved emptied = ne_eqb p place (λ here.
    let left : status_of (the_lane v) p 0 ≡ Untouched = ap (λ (q : ℕ). status_of (the_lane v) q 0) here ∙ moved 0 (omega (arith, some)) in
    let bad : Emptied ≡ Untouched = sym (emptied 0 (omega (arith, some))) ∙ left in cc bad)

-- and it wasn't given away
pub filling-kept : {T : Type 0} {content : T → List ℕ} {room : T → ℕ} {z : Shape} {v w : View} {s t : LaneState T} {made : List Act} (place p : ℕ)
    (reclaimed : Option (Reclaimed T)) → Ended content room z place reclaimed made v w s t → touched_by place reclaimed p ≡ false → All (λ act. gives_away act p ≡ false) made
filling-kept {made = made} place p None ended off = dite (ℕ_discrete p place)
    (λ (here : p ≡ place). subst (λ (q : ℕ). All (λ act. gives_away act q ≡ false) made) (sym here) (ended.keeps refl))
    (λ (other : p ≢ place). away-elsewhere place p made ended.only other)
filling-kept {made = made} place p (Some reclaimed) ended off = away-elsewhere place p made ended.only
    (λ here. let on = eq-eqb p place here in let bad : true ≡ false = sym on ∙ off in cc bad)
