-- A filling that is dropped: the call that publishes it, and what its lane may do behind that.
use Rattle.std.proofs.lemmas.Bool.{and_parts}
use Rattle.std.proofs.Common.{◌≡◌, ℕ, ◌≤◌, Bool, true, false, List, [], ◌∷◌, ◌++◌, sym, ap, ◌∙◌, subst, arith}
use denote.RawPtr.{Ptr}
use Rattle.atomic_table.specs.Table.{Me}
use Rattle.keybits.specs.declared.shape.Shape.{Shape}
use Rattle.keybits.specs.Keys.{place_of, is_key}
use Rattle.keybits.specs.Places.{shard_of}
use Rattle.keybits.specs.Shapes.{is_place}
use Rattle.seqpool.specs.declared.act.Act.TheVariants as acts
use Rattle.poolsteps.specs.declared.view.Stored.{Stored}
use Rattle.poolsteps.specs.declared.view.LaneRecord.{LaneRecord}
use Rattle.poolsteps.specs.declared.view.View.{View}
use Rattle.poolsteps.specs.declared.grid.Spot.{Spot}
use Rattle.poolsteps.specs.Grids.{IsSpot}
use Rattle.poolsteps.specs.Layout.{slot_start}
use Rattle.poolsteps.specs.Views.{head_record, the_lane, pushed_in, known_of}
use Rattle.poolsteps.specs.Told.{MayPublish, Publishes, Sees}
use Rattle.seatcalls.specs.Carried.{Carries}
use Rattle.shardpool.specs.declared.pool.LaneState.{LaneState}
use Rattle.shardpool.specs.Finishes.{IsKeeper}
use Rattle.shardpool.specs.Discards.{PublishesObject}
use Rattle.seatcalls.proofs.parts.Moves.{carries-more, carries-sees}
use Rattle.shardpool.proofs.parts.Filling.{publish-called, room-published}

-- moves at the place where a key is
pub carries-at : {S : Type 0} {z : Shape} {here place n : ℕ} {a b : Me S View} → here ≡ place → Carries z here n a b → Carries z place n a b
carries-at {z = z} {n = n} {a = a} {b = b} at carries = subst (λ (p : ℕ). Carries z p n a b) at carries

-- what may be published is a key of the pool
pub is-key : {z : Shape} {v : View} {key : ℕ} → MayPublish z v key → is_key z key ≡ true
is-key {z = z} {key = key} may = (and_parts (is_key z key) _ may.current).0

-- where the place of a key stands
pub spot-here : {z : Shape} {spot : Spot} (key : ℕ) → spot.place ≡ place_of key → is_place z (place_of key) ≡ true → spot.start ≡ slot_start z (place_of key) → IsSpot z spot (place_of key)
spot-here key place inside start = record { place_is = place; inside = inside; start = start }

-- by a PUBLISH the lane pushes nothing
pub published-lane : {S : Type 0} {z : Shape} {key found : ℕ} {c : Stored} {with_ref : Bool} {b d : Me S View} → Publishes z key c with_ref b found d → (the_lane d.0).lane ≡ (the_lane b.0).lane
published-lane publishes = ap (λ (lanes : List LaneRecord). (head_record lanes).lane) publishes.goes.lanes

pub published-pushed : {S : Type 0} {z : Shape} {key found : ℕ} {c : Stored} {with_ref : Bool} {b d : Me S View} → Publishes z key c with_ref b found d
    → (the_lane d.0).pushed ≡ (the_lane b.0).pushed
published-pushed publishes = ap (λ (lanes : List LaneRecord). (head_record lanes).pushed) publishes.goes.lanes

-- moves of the place's shares, and the PUBLISH of the cell, publish its object
pub publishes-object : {S T : Type 0} {content : T → List ℕ} {room : T → ℕ} {z : Shape} {key n found : ℕ} {c : Stored} {object : T} {a b d : Me S View}
    → Carries z (place_of key) n a b → n ≤ 34 → content object ≡ c.content → room object ≡ c.room → Publishes z key c false b found d
    → PublishesObject content room z key object a d
publishes-object {key = key} carries few content_is room_is publishes = record {
  called = publish-called carries few (sym content_is) publishes;
  act = (
    ap (λ (lanes : List LaneRecord). (head_record lanes).mine) publishes.goes.lanes
        ∙ (λ i. carries.elsewhere.mine i ++ acts.Publish (carries.elsewhere.lane i) key (sym content_is i) false ∷ []),
    ap (λ (lanes : List LaneRecord). (head_record lanes).pushed) publishes.goes.lanes ∙ carries.elsewhere.pushed,
  );
  room_is = room-published publishes ∙ sym room_is;
}

-- so does the PUBLISH of a whole cell that was spread there, behind a look or none
module _ {S T : Type 0} {content : T → List ℕ} {room : T → ℕ} {z : Shape} {here key found : ℕ} {object : T} {a b : Me S View} (at : here ≡ place_of key) (carries : Carries z here 2 a b)
    (content_is : content object ≡ (known_of (the_lane b.0) here).content) (room_is : room object ≡ (known_of (the_lane b.0) here).room) where
  pub published-at : {d : Me S View} → Publishes z key (known_of (the_lane b.0) (place_of key)) false b found d → PublishesObject content room z key object a d
  published-at publishes = publishes-object (carries-at at carries) (omega arith)
      (content_is ∙ ap (λ (p : ℕ). (known_of (the_lane b.0) p).content) at)
      (room_is ∙ ap (λ (p : ℕ). (known_of (the_lane b.0) p).room) at) publishes

  pub published-behind : {c d : Me S View} → Sees z b c → Publishes z key (known_of (the_lane c.0) (place_of key)) false c found d → PublishesObject content room z key object a d
  published-behind {c = c} sees publishes =
      let still : known_of (the_lane c.0) (place_of key) ≡ known_of (the_lane b.0) (place_of key)
      = ap (λ (lanes : List LaneRecord). known_of (head_record lanes) (place_of key)) sees.goes.lanes in
      publishes-object (carries-more (carries-at at carries) (carries-sees (place_of key) sees)) (omega arith)
      (content_is ∙ (ap (λ (p : ℕ). (known_of (the_lane b.0) p).content) at ∙ ap (λ (x : Stored). x.content) (sym still)))
      (room_is ∙ (ap (λ (p : ℕ). (known_of (the_lane b.0) p).room) at ∙ ap (λ (x : Stored). x.room) (sym still))) publishes

-- a lane that pushed nothing since can still keep what becomes of the place
pub keeper-behind : {T : Type 0} {z : Shape} {v w : View} {s : LaneState T} {directory : Ptr} {place : ℕ} → (the_lane w).lane ≡ (the_lane v).lane
    → (the_lane w).pushed ≡ (the_lane v).pushed → IsKeeper z directory place v s → IsKeeper z directory place w s
keeper-behind {place = place} lane pushed before = record {
  shape = before.shape;
  shape_is = before.shape_is;
  directory_is = before.directory_is;
  narrow = before.narrow;
  wide = before.wide;
  begins = before.begins;
  lane = before.lane ∙ sym lane;
  below = before.below;
  top = before.top ∙ ap (λ (pushes : List (ℕ × ℕ)). pushed_in pushes (shard_of place)) (sym pushed);
}
