-- What a contract sees of guests, of their references, and of the places that they claimed; and what holds of each.
use Rattle.std.specs.Prelude.{◌≡◌, ◌≢◌, ◌==◌, ℕ, ◌+◌, ◌<◌, ◌≤◌, true, false, List, ◌++◌, length, if◌then◌else◌}
use denote.RawPtr.{Ptr}
use Rattle.atomic_table.specs.Seated.{TableId}
use Rattle.keybits.specs.declared.shape.Shape.{Shape}
use Rattle.keybits.specs.Shapes.{callers, is_place}
use Rattle.keybits.specs.Keys.{place_of, is_key}
use Rattle.seqpool.specs.declared.act.Act.{Act}
use Rattle.seqpool.specs.Histories.{PublishedAt}
use Rattle.poolsteps.specs.Share.{Share}
use Rattle.poolsteps.specs.Layout.{slot_start}
use Rattle.poolsteps.specs.declared.view.Status.TheVariants.{Emptied}
use Rattle.poolsteps.specs.declared.view.View.{View}
use Rattle.poolsteps.specs.Moved.{stored_of}
use Rattle.poolsteps.specs.Views.{the_lane, status_of, known_of, IsOne}
use Rattle.poolsteps.specs.Told.{IsIdle, HasPlace, claimed_under, references_seen}
use Rattle.seatcalls.specs.Acted.{Acted}
use Rattle.seatcalls.specs.Called.{IsLawful}
use Rattle.seatcalls.specs.Carried.{AreAtRest}
use Rattle.seatcalls.specs.Left.{left_with, has_retired}
use Rattle.seatcalls.specs.Guests.{given_acts}

-- a guest: the table and the shape of its pool, its number, and the view of its seat
pub record GuestOf : Type 0 where
  pub table : TableId
  pub shape : Shape
  pub number : ℕ
  pub book : View

-- a reference: the guest that has it, where the directory of the pool's objects begins, and its key
pub record GuestRefOf : Type 0 where
  pub guest : GuestOf
  pub directory : Ptr
  pub key : ℕ

-- a place that a guest claimed: the guest, where the directory of the pool's objects begins, the place, the generation of the claim, and the place's object
pub record ClaimedOf (T : Type 0) : Type 0 where
  pub guest : GuestOf
  pub directory : Ptr
  pub place : ℕ
  pub generation : ℕ
  pub object : T

-- ---- what holds of a guest's seat

-- it is that of one guest of the shape, which saw a legal history with just its own acts, in which owners alone publish
pub record IsSeated (z : Shape) (v : View) (number : ℕ) : Type 0 where
  pub one : IsOne v
  pub number_is : number ≡ (the_lane v).lane
  pub guest : z.lanes ≤ number
  pub below : number < callers z
  pub seen : IsLawful z v
  pub paired : length v.rooms ≡ length v.seen

-- its acts left no place with it, and each that it retired is at rest
pub record FitsGuest (z : Shape) (v : View) (number : ℕ) : Type 0 where
  pub seat : IsSeated z v number
  pub left : (place : ℕ) → is_place z place ≡ true → left_with z place (the_lane v).mine false ≡ false
  pub retires : (place : ℕ) → is_place z place ≡ true → has_retired z place (the_lane v).mine false ≡ true → AreAtRest z (the_lane v) place

-- the guest has no reference
abbrev pub HasNoReference : Shape → View → Type 0
HasNoReference z v = (key : ℕ) → references_seen z v key ≡ 0

-- it has one reference to this key, and no other
abbrev pub HasOneReference : Shape → View → ℕ → Type 0
HasOneReference z v key = (k : ℕ) → references_seen z v k ≡ (if key == k then 1 else 0)

-- a guest between two calls
pub record IsFree (guest : GuestOf) : Type 0 where
  pub fits : FitsGuest guest.shape guest.book guest.number
  pub idle : IsIdle guest.book
  pub bare : HasNoReference guest.shape guest.book

-- a guest that has a reference to this key, whose place stands here in this directory, with this share under it
pub record IsReferring {T : Type 0} (content : T → List ℕ) (room : T → ℕ) (guest : GuestOf) (directory : Ptr) (key start : ℕ)
    (share : Share T) :
    Type 0 where
  pub fits : FitsGuest guest.shape guest.book guest.number
  pub idle : IsIdle guest.book
  pub key_is : is_key guest.shape key ≡ true
  pub one : HasOneReference guest.shape guest.book key
  pub start_is : start ≡ slot_start guest.shape (place_of key)
  pub spot : share.spot ≡ record { directory = directory; index = start }
  pub share_is : (share.number ≡ guest.number) × (share.of ≡ callers guest.shape)
  pub emptied : status_of (the_lane guest.book) (place_of key) guest.number ≡ Emptied
  pub known : stored_of content room share ≡ known_of (the_lane guest.book) (place_of key)
  pub shows : (j : ℕ) × PublishedAt guest.book.seen j key (content share.object)

-- a guest that claimed the place at this generation has all its shares, and is to return it, or retired it; with its return no place is left with the guest
pub record HasClaimedPlace (z : Shape) (v : View) (number place generation : ℕ) : Type 0 where
  pub seat : IsSeated z v number
  pub bare : HasNoReference z v
  pub under : (the_lane v).under ≡ claimed_under z number place generation
  pub has : HasPlace z v place
  pub left : (p : ℕ) → is_place z p ≡ true → left_with z p ((the_lane v).mine ++ given_acts z number place generation) false ≡ false
  pub retires : (p : ℕ) → is_place z p ≡ true → p ≢ place → has_retired z p (the_lane v).mine false ≡ true → AreAtRest z (the_lane v) p
  pub retired : has_retired z place ((the_lane v).mine ++ given_acts z number place generation) false ≡ true
      → generation ≡ z.last_generation

-- ---- what a guest did

-- it is the same guest, which made these acts, among what other callers did, in so many steps and looks at most
pub record Visits (made : List Act) (steps looks : ℕ) (old new : GuestOf) : Type 0 where
  pub same : (new.table ≡ old.table) × (new.shape ≡ old.shape) × (new.number ≡ old.number)
  pub acted : Acted old.shape made old.book new.book
  pub stepped : new.book.steps ≤ old.book.steps + steps
  pub looked : new.book.looks ≤ old.book.looks + looks
