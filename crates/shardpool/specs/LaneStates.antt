-- What a lane keeps beside its seat, and how it fits what the lane has seen and did.
use Rattle.std.specs.Prelude.{◌≡◌, ◌≢◌, ◌==◌, ℕ, ◌<◌, ◌≤◌, true, false, List, [], ◌∷◌, length, sum_by, Contains, Option, Some, None, slice_get, slice_index, if◌then◌else◌}
use Rattle.keybits.specs.declared.shape.Shape.{Shape}
use Rattle.keybits.specs.declared.place.Place.{Place}
use Rattle.keybits.specs.Places.{shard_of, page_of, number_of}
use Rattle.keybits.specs.Shapes.{callers, IsShape, shard_places, is_place, index_of}
use Rattle.keybits.specs.Keys.{place_of, generation_of, is_key}
use Rattle.freelists.specs.Shards.{ShardPages, shape_of}
use Rattle.freelists.specs.Queues.{FreePlaces}
use Rattle.seqpool.specs.Pool.{has, NoRepeats, IsLegal}
use Rattle.seqpool.specs.Histories.{PublishedAt, acts_of}
use Rattle.poolsteps.specs.declared.view.Status.TheVariants.{Emptied}
use Rattle.poolsteps.specs.Share.{Share}
use Rattle.poolsteps.specs.declared.view.View.{View}
use Rattle.poolsteps.specs.Owners.{ArePublishedByOwners}
use Rattle.poolsteps.specs.Views.{the_lane, pushed_in, status_of, known_of, IsOne}
use Rattle.poolsteps.specs.Told.{IsIdle, Quiet, references_seen}
use Rattle.poolsteps.specs.Moved.{stored_of}
use Rattle.poolsteps.specs.Returned.{rest_of}
use Rattle.poolsteps.specs.Layout.{slot_start, slot_row, shard_start}
use Rattle.poolsteps.specs.Objects.{ObjectsOf}
use Rattle.shardpool.specs.HeldKeys.{HeldKey}
use Rattle.shardpool.specs.declared.pool.LaneState.{LaneState}
use Rattle.shardpool.specs.Rows.{AreStanding}
use Rattle.seatcalls.specs.Carried.{AreAtRest}
use Rattle.shardpool.specs.Places.{IsBlank, IsResting}
use Rattle.seatcalls.specs.Left.{held_after, left_with, has_retired}

-- the seat is that of one lane of the pool, which saw a legal history with just its own acts, in which owners alone publish, has nothing under way, and whose acts left it no place of another lane's shard
pub record FitsSeat (z : Shape) (v : View) (number : ℕ) : Type 0 where
  pub shape : IsShape z
  pub one : IsOne v
  pub number_is : number ≡ (the_lane v).lane
  pub below : number < z.lanes
  pub idle : IsIdle v
  pub legal : IsLegal z v.seen
  pub owners : ArePublishedByOwners v.seen
  pub quiet : Quiet z v
  pub own : (the_lane v).mine ≡ acts_of (the_lane v).lane v.seen
  pub paired : length v.rooms ≡ length v.seen
  pub alone : (place : ℕ) → is_place z place ≡ true → shard_of place ≢ number → left_with z place (the_lane v).mine false ≡ false
  -- a place that it retired is at rest
  pub retires : (place : ℕ) → is_place z place ≡ true → has_retired z place (the_lane v).mine false ≡ true → AreAtRest z (the_lane v) place

-- these are the words that the lane last pushed, by their shards
pub record FitsTops (z : Shape) (v : View) (last_pushed : List ℕ) : Type 0 where
  pub wide : length last_pushed ≡ z.lanes
  pub each : (shard : ℕ) → shard < z.lanes → slice_index last_pushed shard ≡ pushed_in (the_lane v).pushed shard

-- the place is the first of the taken chain, if one hangs
abbrev pub IsFirst : Option Place → List ℕ → Type 0
IsFirst None chain = chain ≡ []
IsFirst (Some place) chain = chain ≡ number_of place ∷ rest_of chain

-- the places of the lane's shard that were never opened are with its objects
pub record FitsRights {T : Type 0} (z : Shape) (number opened : ℕ) (objects : ObjectsOf T) : Type 0 where
  pub first_is : objects.first ≡ shard_start z number
  pub narrow : length objects.rights ≡ shard_places z
  pub has_right : (place : ℕ) → is_place z place ≡ true → shard_of place ≡ number → opened ≤ page_of place
      → slice_get objects.rights (index_of z place) ≡ Some true

module _ {T : Type 0} (content : T → List ℕ) (room : T → ℕ) (z : Shape) where
  -- the share that the lane has under its references to the key of a place and a generation
  pub record IsHeld (v : View) (place generation : ℕ) (s : Share T) : Type 0 where
    pub number_is : s.number ≡ (the_lane v).lane
    pub of_is : s.of ≡ callers z
    pub emptied : status_of (the_lane v) place (the_lane v).lane ≡ Emptied
    pub known : known_of (the_lane v) place ≡ stored_of content room s
    pub shows : (key : ℕ) → is_key z key ≡ true → place_of key ≡ place → generation_of key ≡ generation
        → (j : ℕ) × PublishedAt v.seen j key (content s.object)

  -- the row of a place counts the lane's references to its keys, and has the share under them
  pub record FitsRow (v : View) (place : ℕ) (row : HeldKey T) : Type 0 where
    pub counts : (key : ℕ) → is_key z key ≡ true → place_of key ≡ place
        → references_seen z v key ≡ (if generation_of key == row.generation then row.count else 0)
    pub keyed : 0 < row.count → (key : ℕ) × (is_key z key ≡ true) × (place_of key ≡ place) × (generation_of key ≡ row.generation)
    pub held : 0 < row.count → (s : Share T) × (row.share ≡ Some s) × IsHeld v place row.generation s

  -- so do all rows, and they count as many references as the lane has by its acts
  pub record FitsRows (v : View) (rows : List (HeldKey T)) (references : ℕ) : Type 0 where
    pub wide : length rows ≡ slot_row z
    pub total : sum_by (λ row. row.count) rows ≡ references
    pub by_acts : references ≡ held_after (the_lane v).mine 0
    pub each : (place : ℕ) (row : HeldKey T) → is_place z place ≡ true → slice_get rows (slot_start z place) ≡ Some row
        → FitsRow v place row

  -- a place of the own list: of an opened page, and blank; its object is with the lane, empty and with at least its room
  pub record IsListed (v : View) (opened : ℕ) (objects : List (Option T)) (place : Place) : Type 0 where
    pub opened_is : page_of (number_of place) < opened
    pub object : T
    pub stands : slice_get objects (index_of z (number_of place)) ≡ Some (Some object)
    pub empty : content object ≡ []
    pub blank : IsBlank z v (number_of place) (room object)

  -- the free places: those of the own list, those of unopened pages, which were never used, and those of the taken chain
  pub record FitsStores (v : View) (free : FreePlaces) (pages : ShardPages) (objects : List (Option T)) : Type 0 where
    pub lists : (free.shard ≡ (the_lane v).lane) × (free.shape ≡ shape_of z.first_page z.pages)
    pub paged : (pages.shard ≡ (the_lane v).lane) × (pages.shape ≡ shape_of z.first_page z.pages)
    pub narrow : length objects ≡ shard_places z
    pub listed : (place : Place) → Contains free.own place → IsListed v pages.opened objects place
    pub unopened : (place : ℕ) → is_place z place ≡ true → shard_of place ≡ (the_lane v).lane → pages.opened ≤ page_of place
        → IsBlank z v place 0
    pub chained : (place : ℕ) → has (the_lane v).chain place ≡ true → IsResting z v place × (page_of place < pages.opened)
    pub unrepeated : NoRepeats (the_lane v).chain
    pub first : IsFirst free.chain (the_lane v).chain

  -- what the lane keeps beside its seat fits what it has seen and did
  pub record Fits (v : View) (s : LaneState T) : Type 0 where
    pub shape_is : s.shape ≡ z
    pub placed : s.places.shape ≡ z
    pub seat : FitsSeat z v s.number
    pub last_pushed : FitsTops z v s.last_pushed.items
    pub rows : FitsRows v s.rows.items s.references
    pub stores : FitsStores v s.free s.pages s.objects.items
    pub rights : FitsRights z s.number s.pages.opened s.objects
    pub standing : AreStanding s.objects.directory s.rows.items
