-- What the moves of shares ask, and what they tell.
use Rattle.poolsteps.specs.Spot.{Spot as CellSpot}
use Rattle.keybits.specs.Shapes.{callers}
use Rattle.std.specs.Prelude.{◌≡◌, ◌≢◌, ◌⊎◌, ℕ, ◌+◌, ◌<◌, List, [], ◌∷◌, Option, Some, None}
use Rattle.atomic_table.specs.Table.{Me, rest}
use Rattle.keybits.specs.declared.shape.Shape.{Shape}
use Rattle.seqpool.specs.Pool.{pool_after}
use Rattle.poolsteps.specs.Share.{Share}
use Rattle.poolsteps.specs.declared.view.Stored.{Stored}
use Rattle.poolsteps.specs.declared.view.Status.{Status}
use Rattle.poolsteps.specs.declared.view.Status.TheVariants.{Untouched, Emptied, InHand, Whole}
use Rattle.poolsteps.specs.Shares.{room_of, IsKept, IsShareOf, at_home}
use Rattle.poolsteps.specs.ShareLaws.{Leaves}
use Rattle.poolsteps.specs.declared.view.Deed.TheVariants.{Left}
use Rattle.poolsteps.specs.declared.view.LaneRecord.{LaneRecord}
use Rattle.poolsteps.specs.declared.view.View.{View}
use Rattle.poolsteps.specs.Layout.{slot_index}
use Rattle.poolsteps.specs.Views.{the_lane, status_of, known_of}
use Rattle.poolsteps.specs.Told.{GoesOn, HasPlace}

-- the record after the lane left a slot so, where the place has this cell
abbrev pub moved_record : LaneRecord → ℕ → ℕ → Status → Stored → LaneRecord
moved_record r place number status c = record r { deeds = Left place number status ∷ r.deeds; cells = (place, c) ∷ r.cells }

-- ---- what the moves ask

-- the lane may put a share of this cell in a slot: of the cell that it knows, or of a new one, where all shares are with it and no other slot of the place has any
abbrev pub MayStore : Shape → View → ℕ → ℕ → Stored → Type 0
MayStore z v place number c = (c ≡ known_of (the_lane v) place)
    ⊎ (HasPlace z v place × ((k : ℕ) → k < (callers z) → k ≢ number → (status_of (the_lane v) place k ≡ Emptied)
    ⊎ (status_of (the_lane v) place k ≡ InHand)))

-- ---- what they tell: an object's content and room are as its type has them
module _ {T : Type 0} (content : T → List ℕ) (room : T → ℕ) where
  -- what is known of a share's cell
  abbrev pub stored_of : Share T → Stored
  stored_of share = record { cell = share.cell; content = content share.object; room = room share.object }

-- and a share is of the cell that stands at its place
module _ {T : Type 0} (content : T → List ℕ) (room : T → ℕ) (spots : ℕ → CellSpot) where
  -- the share is that which a slot left so has: the lane's share, or the only one
  abbrev pub IsLeft : ℕ → Shape → ℕ → Stored → Status → Share T → Type 0
  IsLeft place z number c Untouched share = IsShareOf content room spots place c number (callers z) share
  IsLeft place z number c Emptied share = ⊥
  IsLeft place z number c InHand share = ⊥
  IsLeft place z number c Whole share = IsShareOf content room spots place c 0 1 share

  -- a look at which the seat takes what stands in a slot that its lane left so
  pub record Lifts (z : Shape) (place number : ℕ) (status : Status) (before after : Me (Option (Share T)) View) : Type 0 where
    pub c : Stored
    pub value : Option (Share T)
    pub leaves : Leaves content room spots place z number c status (at_home value)
    pub goes : GoesOn z before.0 after.0 [] [] (moved_record (the_lane before.0) place number InHand c)
    pub held : after.1 ≡ (slot_index z place number, value) ∷ before.1
    -- the cell has the content of the key that is published at the place
    pub kept : IsKept c (room_of after.0.seen after.0.rooms place) (pool_after z after.0.seen place).phase
    pub known : HasPlace z before.0 place ⊎ (status ≢ Untouched) → c ≡ known_of (the_lane before.0) place
    pub steps : after.0.steps ≡ before.0.steps
    pub looks : after.0.looks ≡ before.0.looks + 1

  -- a look at which the seat gives back the slot that it took last, as its lane leaves it
  pub record Lays (z : Shape) (place number : ℕ) (status : Status) (c : Stored) (before after : Me (Option (Share T)) View) : Type 0 where
    pub goes : GoesOn z before.0 after.0 [] [] (moved_record (the_lane before.0) place number status c)
    pub held : after.1 ≡ rest before.1
    pub steps : after.0.steps ≡ before.0.steps
    pub looks : after.0.looks ≡ before.0.looks + 1

  -- OUT: the share that stood in a slot that the lane left so is in its hands, and the slot is empty
  pub record Outs (z : Shape) (place number : ℕ) (status : Status) (before : Me (Option (Share T)) View) (share : Share T)
      (after : Me (Option (Share T)) View) : Type 0 where
    pub is_left : IsLeft place z number (stored_of content room share) status share
    pub goes : GoesOn z before.0 after.0 [] []
        (moved_record (moved_record (the_lane before.0) place number InHand (stored_of content room share)) place number Emptied
        (stored_of content room share))
    pub held : after.1 ≡ before.1
    pub kept : IsKept (stored_of content room share) (room_of after.0.seen after.0.rooms place) (pool_after z after.0.seen place).phase
    pub known : HasPlace z before.0 place ⊎ (status ≢ Untouched) → stored_of content room share ≡ known_of (the_lane before.0) place
    pub steps : after.0.steps ≡ before.0.steps
    pub looks : after.0.looks ≡ before.0.looks + 2

  -- BACK: a share is put in a slot that was empty, and the lane leaves it so
  pub record Backs (z : Shape) (place number : ℕ) (status : Status) (before : Me (Option (Share T)) View) (share : Share T)
      (after : Me (Option (Share T)) View) : Type 0 where
    pub goes : GoesOn z before.0 after.0 [] []
        (moved_record (moved_record (the_lane before.0) place number InHand (known_of (the_lane before.0) place)) place number status
        (stored_of content room share))
    pub held : after.1 ≡ before.1
    pub steps : after.0.steps ≡ before.0.steps
    pub looks : after.0.looks ≡ before.0.looks + 2

  -- two looks at a slot that the lane has emptied, which stays so
  pub record Peeks (z : Shape) (place number : ℕ) (before after : Me (Option (Share T)) View) : Type 0 where
    pub goes : GoesOn z before.0 after.0 [] []
        (moved_record (moved_record (the_lane before.0) place number InHand (known_of (the_lane before.0) place)) place number Emptied
        (known_of (the_lane before.0) place))
    pub held : after.1 ≡ before.1
    pub steps : after.0.steps ≡ before.0.steps
    pub looks : after.0.looks ≡ before.0.looks + 2

  -- FETCH: OUT where the lane left the slot alone, and else what the lane has stays with it
  pub record Fetches (z : Shape) (place number : ℕ) (before : Me (Option (Share T)) View) (own fetched : Option (Share T))
      (after : Me (Option (Share T)) View) : Type 0 where
    pub first : status_of (the_lane before.0) place number ≡ Untouched → (share : Share T) × (fetched ≡ Some share)
        × Outs z place number Untouched before share after
    pub again : status_of (the_lane before.0) place number ≡ Emptied → (fetched ≡ own) × Peeks z place number before after

  -- SETTLE: BACK of a share where one is given, and else nothing is moved
  pub record Settles (z : Shape) (place number : ℕ) (before : Me (Option (Share T)) View) (given : Option (Share T))
      (after : Me (Option (Share T)) View) : Type 0 where
    pub back : (share : Share T) → given ≡ Some share → Backs z place number Untouched before share after
    pub none : given ≡ None → Peeks z place number before after
