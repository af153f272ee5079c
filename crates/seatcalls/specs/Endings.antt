-- What a guest has after its call.
use Rattle.std.specs.Prelude.{◌≡◌, ℕ, ◌≤◌, List, [], ◌∷◌, ◌++◌, Option, Some, None}
use denote.RawPtr.{Ptr}
use Rattle.keybits.specs.declared.shape.Shape.{Shape}
use Rattle.keybits.specs.Keys.{key_number}
use Rattle.seqpool.specs.declared.act.Act.{Act}
use Rattle.steplaws.specs.StepLaws.{reclaim}
use Rattle.poolsteps.specs.Shares.{room_of}
use Rattle.poolsteps.specs.Told.{WasPublished}
use Rattle.seatcalls.specs.declared.ended.Ended.{Ended}
use Rattle.seatcalls.specs.declared.ended.Ended.TheVariants.{Free, Kept}
use Rattle.seatcalls.specs.Guests.{given_acts}
use Rattle.seatcalls.specs.Visitors.{GuestOf, ClaimedOf, Visits}

module _ {T : Type 0} (content : T → List ℕ) (room : T → ℕ) (directory : Ptr) (place : ℕ) where
  -- after these acts, in so many steps and looks at most, the guest claimed the place, and has its object: as it was published there, with the place's room
  pub record Keeps (first : List Act) (steps looks : ℕ) (old : GuestOf) (claimed : ClaimedOf T) : Type 0 where
    pub at : (claimed.directory ≡ directory) × (claimed.place ≡ place)
    pub made : Visits (first ++ reclaim old.shape old.number place claimed.generation ∷ []) steps looks old claimed.guest
    pub object : WasPublished claimed.guest.book.seen (key_number old.shape.tag place claimed.generation) (content claimed.object)
    pub room_is : room_of claimed.guest.book.seen claimed.guest.book.rooms place ≤ room claimed.object

  -- after these acts the guest is free, or it claimed the place
  abbrev pub Ends : List Act → ℕ → ℕ → GuestOf → Ended T → Type 0
  Ends first steps looks old (Free new) = Visits first steps looks old new
  Ends first steps looks old (Kept claimed) = Keeps first steps looks old claimed

-- what followed, where the place was given back: its reclaim at this generation and its return; nothing where none was claimed
abbrev pub ended_acts : Shape → ℕ → ℕ → Option ℕ → List Act
ended_acts z number place None = []
ended_acts z number place (Some generation) = reclaim z number place generation ∷ given_acts z number place generation

-- the guest made these acts, in so many steps and looks at most, and gave the place back, if it claimed it
abbrev pub Settles : ℕ → List Act → ℕ → ℕ → GuestOf → GuestOf → Type 0
Settles place first steps looks old new =
    (claimed : Option ℕ) × Visits (first ++ ended_acts old.shape old.number place claimed) steps looks old new
