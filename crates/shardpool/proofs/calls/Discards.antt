-- What a lane that dropped a filling has: what a publish leaves, and a clear of its key.
use Rattle.std.proofs.Common.{◌≡◌, ℕ, ◌+◌, Bool, true, false, List, [], ◌∷◌, Option, Some, refl, sym, ap, ◌∙◌, subst, arith, inl, inr}
use Rattle.std.proofs.lemmas.Bool.{cases_Bool}
use denote.RawPtr.{Ptr}
use Rattle.atomic_table.specs.Table.{Me}
use Rattle.atomic_table.specs.Seated.{TableId}
use Rattle.keybits.specs.declared.shape.Shape.{Shape}
use Rattle.keybits.specs.Keys.{place_of, is_key}
use Rattle.freelists.specs.Shards.{place_numbered}
use Rattle.freelists.specs.Queues.{IsAway}
use Rattle.seqpool.specs.declared.act.Act.TheVariants as acts
use Rattle.seqpool.specs.Histories.{ClearedAt}
use Rattle.steplaws.specs.Calls.Call.{Publishing, Clearing}
use Rattle.poolsteps.specs.Share.{Share}
use Rattle.poolsteps.specs.Whole.{Whole}
use Rattle.poolsteps.specs.Layout.{spots_at}
use Rattle.poolsteps.specs.Grids.{IsSpot}
use Rattle.poolsteps.specs.declared.grid.Spot.{Spot}
use Rattle.poolsteps.specs.declared.view.View.{View}
use Rattle.poolsteps.specs.Views.{the_lane}
use Rattle.poolsteps.specs.Told.{MayPublish}
use Rattle.poolsteps.proofs.ViewLemmas.{prefix-trans}
use Rattle.seatcalls.specs.declared.at.Reclaimed.{Reclaimed}
use Rattle.seatcalls.specs.declared.at.Reclaimed.TheVariants.{Own}
use Rattle.seatcalls.specs.Carried.{AreEmptied}
use Rattle.seatcalls.specs.Called.{MadeOne}
use Rattle.shardpool.specs.declared.pool.LaneState.{LaneState}
use Rattle.shardpool.specs.Tokens.{PoolOf, LaneOf, FillingOf}
use Rattle.shardpool.specs.LaneStates.{Fits}
use Rattle.shardpool.specs.Lanes.{Owns, Made, Calls}
use Rattle.shardpool.specs.Clears.{Clears}
use Rattle.shardpool.specs.Finishes.{ClearsAndKeeps}
use Rattle.shardpool.specs.AfterCalls.{AfterPublish, AfterClear}
use Rattle.shardpool.specs.Discards.{PublishesObject, DiscardsAndKeeps, AfterDiscard}
use Rattle.shardpool.proofs.calls.CallParts.{calls-more}
use Rattle.shardpool.proofs.calls.KeyCalls.{Ready, cleared, cleared-away}
use Rattle.shardpool.proofs.calls.QuietEnds.{Quieted}
use Rattle.shardpool.proofs.calls.Publishes.{made-spot, published-did, published-held, published-others, published-alone}
use Rattle.shardpool.proofs.calls.AfterCalls.{after-publish, after-clear}
use Rattle.shardpool.proofs.frame.LaneFacts.{lane_of}
use Rattle.shardpool.proofs.frame.SeenHistories.{same-shape}
use Rattle.shardpool.proofs.frame.Standing.{missed-cleared}
use Rattle.shardpool.proofs.parts.Discarding.{is-key}

-- a publish, and a clear of its key, drop a filling
pub after-discard : {T : Type 0} {content : T → List ℕ} {room : T → ℕ} {pool : PoolOf} {filling : FillingOf T} {old between new : LaneOf} {marked : Bool}
    → AfterPublish content room pool filling old between filling.key → AfterClear T pool filling.key between new marked → AfterDiscard content room pool filling old new
after-discard {filling = filling} {old = old} {between = between} {new = new} {marked = marked} publishes clears =
    let one = publishes.same in
    let two = clears.same in
    record {
      continues = record {
        owns = clears.owns;
        same = (two.0 ∙ one.0, two.1 ∙ one.1, two.2 ∙ one.2, two.3 ∙ one.3);
        seen = prefix-trans old.book.seen between.book.seen new.book.seen publishes.seen clears.seen;
      };
      between = between;
      marked = marked;
      publishes = publishes;
      clears = clears;
      gone = elim (cases_Bool marked) [
        | inl marks ↦ ((clears.cleared marks).clear.position, (clears.cleared marks).cleared)
        | inr misses ↦ missed-cleared clears.seen (clears.missed misses) publishes.published.publish.position _ publishes.published.published
      ];
      refs = clears.refs ∙ publishes.refs;
      held = λ k. clears.held k ∙ publishes.held k;
      fillings = λ other differs was. clears.fillings other (publishes.fillings other differs was);
    }

-- what the lane keeps fits what it has seen, and the filling is its own
pub record IsOurs {T : Type 0} (content : T → List ℕ) (room : T → ℕ) (z : Shape) (table : TableId) (v : View) (s : LaneState T) (filling : FillingOf T) : Type 0 where
  pub fits : Fits content room z v s
  pub was : Made (lane_of table v s) filling
  pub there : IsSpot z (record { place = place_of filling.key; start = filling.start }) (place_of filling.key)

-- so it is of a lane of a pool
pub ours : {T : Type 0} {content : T → List ℕ} {room : T → ℕ} {table : TableId} {v : View} {s : LaneState T} {lane : LaneOf} {grid pool : PoolOf} {filling given : FillingOf T}
    → lane_of table v s ≡ lane → lane.shape ≡ pool.shape → grid ≡ pool → Fits content room s.shape v s → filling ≡ given → Made lane given → IsOurs content room grid.shape table v s filling
ours {content = content} {room = room} {table = table} {v = v} {s = s} {filling = filling} {given = given} seen owned of_pool fits same made =
    let shape = same-shape seen owned of_pool in
    let was : Made (lane_of table v s) filling = subst (λ (f : FillingOf _). Made (lane_of table v s) f) (sym same) (subst (λ (l : LaneOf). Made l given) (sym seen) made) in record {
      fits = subst (λ (z : Shape). Fits content room z v s) (sym shape) fits;
      was = was;
      there = made-spot (record { place = place_of filling.key; start = filling.start }) filling.key was (sym shape) refl refl refl;
    }

-- so it may be published, out of slots that the lane emptied
module _ {T : Type 0} {content : T → List ℕ} {room : T → ℕ} {z : Shape} {table : TableId} {v : View} {s : LaneState T} {filling : FillingOf T} (mine : IsOurs content room z table v s filling) where
  pub our-key : MayPublish z v filling.key
  our-key = subst (λ (y : Shape). MayPublish y v filling.key) mine.fits.shape_is mine.was.may

  pub our-slots : AreEmptied z (the_lane v) (place_of filling.key)
  our-slots = subst (λ (y : Shape). AreEmptied y (the_lane v) (place_of filling.key)) mine.fits.shape_is mine.was.emptied

module _ {T : Type 0} {content : T → List ℕ} {room : T → ℕ} {z : Shape} {table : TableId} {a : Me (Option (Share T)) View} {s : LaneState T} {filling : FillingOf T} (mine : IsOurs content room z table a.0 s filling) where
  module _ {b : Me (Option (Share T)) View} (publishes : PublishesObject content room z filling.key filling.object a b) where
    act-so : MadeOne a.0 b.0 (acts.Publish s.number filling.key (content filling.object) false)
    act-so = subst (λ (lane : ℕ). MadeOne a.0 b.0 (acts.Publish lane filling.key (content filling.object) false)) (sym mine.fits.seat.number_is) publishes.act

    -- what the lane keeps fits behind the publish
    ready-between : Ready content room z filling.key (record { place = place_of filling.key; start = filling.start }) b.0 s
    ready-between = record {
      fits = published-alone {count = s.references} s s table filling (content filling.object) false mine.fits publishes.called.did publishes.called.idle act-so mine.was refl refl refl refl;
      there = mine.there;
    }

    -- so the key may be cleared
    pub discard-away : {directory : Ptr} (looks : ℕ) (after : Me (Option (Share T)) View) (marked : Bool) (reclaimed : Option (Reclaimed T))
        → Clears content room z (spots_at directory z (place_of filling.key)) filling.key s.number looks b after marked reclaimed
        → (whole : Whole T) → reclaimed ≡ Some (Own whole) → IsAway s.free (place_numbered (place_of filling.key))
    discard-away looks after marked reclaimed clears = cleared-away ready-between reclaimed marked clears.called clears.acts clears.told

    module _ {d : Me (Option (Share T)) View} {t : LaneState T} {directory : Ptr} {marked : Bool} (clears : ClearsAndKeeps content room z filling.key directory 36 b d s t marked) where
      left : Quieted content room z (acts.Clear s.number filling.key marked ∷ []) b.0 d.0 s t
      left = cleared ready-between clears.reclaimed t clears.kept marked clears.clears.called clears.clears.acts clears.clears.told

      pub discard-fits : Fits content room z d.0 t
      discard-fits = left.fits

      pub discard-left : {pool : PoolOf} (table_now : TableId) → table_now ≡ table → z ≡ pool.shape → Owns pool (lane_of table a.0 s)
          → AfterDiscard content room pool filling (lane_of table a.0 s) (lane_of table_now d.0 t)
      discard-left {pool = pool} table_now same shape owns = after-discard
          (after-publish {pool = pool} {old = lane_of table a.0 s} {new = lane_of table b.0 s} owns {filling = filling} mine.was filling.key refl
          (subst (λ (y : Shape). Calls y (Publishing filling.key (content filling.object) false) a.0 b.0) shape (calls-more publishes.called (omega arith)))
          (published-did {count = s.references} s s table filling (content filling.object) false mine.fits publishes.called.did publishes.called.idle act-so mine.was refl table refl)
          publishes.room_is
          (λ other differs is. published-others {count = s.references} s s table filling (content filling.object) false mine.fits publishes.called.did publishes.called.idle act-so mine.was refl
          table refl other differs is)
          (published-held {count = s.references} s s table filling (content filling.object) false mine.fits publishes.called.did publishes.called.idle act-so mine.was refl))
          (after-clear {pool = pool} {key = filling.key} {old = lane_of table b.0 s} {new = lane_of table_now d.0 t} owns marked (subst (λ (y : Shape). is_key y filling.key ≡ true) shape (is-key (our-key mine)))
          (subst (λ (y : Shape). Calls y (Clearing filling.key) b.0 d.0) shape (calls-more clears.clears.called (omega arith)))
          (left.did table table_now same)
          left.refs
          (λ other. left.fillings table table_now same other))
