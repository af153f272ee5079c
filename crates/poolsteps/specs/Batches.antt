-- What it is to move the shares of a place from all its slots or into them, between one look and another.
use Rattle.poolsteps.specs.Spot.{Spot as CellSpot}
use Rattle.keybits.specs.Shapes.{callers}
use Rattle.std.specs.Prelude.{◌≡◌, ◌≢◌, ℕ, zero, suc, ◌+◌, ◌<◌, List, [], ◌∷◌, Option}
use Rattle.atomic_table.specs.Table.{Me}
use Rattle.keybits.specs.declared.shape.Shape.{Shape}
use Rattle.poolsteps.specs.Share.{Share}
use Rattle.poolsteps.specs.Rest.{Rest, lowest_share}
use Rattle.poolsteps.specs.declared.view.Stored.{Stored}
use Rattle.poolsteps.specs.declared.view.Status.{Status}
use Rattle.poolsteps.specs.declared.view.Status.TheVariants.{Untouched, Emptied, InHand}
use Rattle.poolsteps.specs.Shares.{at_home}
use Rattle.poolsteps.specs.ShareLaws.{Leaves}
use Rattle.poolsteps.specs.declared.view.LaneRecord.{LaneRecord}
use Rattle.poolsteps.specs.declared.view.View.{View}
use Rattle.poolsteps.specs.Layout.{slot_index}
use Rattle.poolsteps.specs.Views.{the_lane, status_of, known_of}
use Rattle.poolsteps.specs.Told.{GoesOn}
use Rattle.poolsteps.specs.Moved.{stored_of}

-- slots of a place for as many lanes, by this order of the lanes, the last of them first; each with its lane's value
abbrev pub held_of : {A : Type 0} → Shape → ℕ → (ℕ → ℕ) → (ℕ → A) → ℕ → List (ℕ × A)
held_of z place order values zero = []
held_of z place order values (suc more) = (slot_index z place (order more), values (order more)) ∷ held_of z place order values more

-- each lane of the shape has one position in this order
pub record IsOrder (z : Shape) (order : ℕ → ℕ) : Type 0 where
  pub below : (position : ℕ) → position < (callers z) → order position < (callers z)
  pub apart : (one other : ℕ) → one < (callers z) → other < (callers z) → order one ≡ order other → one ≡ other
  pub all : (number : ℕ) → number < (callers z) → (position : ℕ) × (position < (callers z)) × (order position ≡ number)

-- the lane left each slot of the place so, and knows this cell there; no more of its record is changed
pub record LeavesAll (z : Shape) (place : ℕ) (status : Status) (c : Stored) (before after : LaneRecord) : Type 0 where
  pub lane : after.lane ≡ before.lane
  pub mine : after.mine ≡ before.mine
  pub under : after.under ≡ before.under
  pub pushed : after.pushed ≡ before.pushed
  pub chain : after.chain ≡ before.chain
  pub deeds : (p number : ℕ) → p ≢ place → status_of after p number ≡ status_of before p number
  pub cells : (p : ℕ) → p ≢ place → known_of after p ≡ known_of before p
  pub here : (number : ℕ) → number < (callers z) → status_of after place number ≡ status
  pub known : known_of after place ≡ c

-- by so many looks the lane left each slot of the place so, and knows this cell there
pub record GoesAll (z : Shape) (place : ℕ) (status : Status) (c : Stored) (looks : ℕ) (before after : View) : Type 0 where
  pub goes : GoesOn z before after [] [] (the_lane after)
  pub leaves : LeavesAll z place status c (the_lane before) (the_lane after)
  pub steps : after.steps ≡ before.steps
  pub looked : after.looks ≡ before.looks + looks

-- ---- an object's content and room are as its type has them
module _ {T : Type 0} (content : T → List ℕ) (room : T → ℕ) (spots : ℕ → CellSpot) where
  -- what the slots of a place have that a lane left so
  abbrev pub AreLeft : ℕ → Shape → Status → Stored → (ℕ → Option (Share T)) → Type 0
  AreLeft place z status c values = (number : ℕ) → number < (callers z)
      → Leaves content room spots place z number c status (at_home (values number))

  -- a look at which the seat takes all slots of a place, which its lane left so
  pub record LiftsAll (z : Shape) (place : ℕ) (order : ℕ → ℕ) (status : Status) (before after : Me (Option (Share T)) View) : Type 0 where
    pub values : ℕ → Option (Share T)
    pub are : AreLeft place z status (known_of (the_lane before.0) place) values
    pub goes : GoesAll z place InHand (known_of (the_lane before.0) place) 1 before.0 after.0
    pub held : after.1 ≡ held_of z place order values (callers z)

  -- a look at which the seat gives them back, as its lane leaves them
  pub record LaysAll (z : Shape) (place : ℕ) (status : Status) (c : Stored) (before after : Me (Option (Share T)) View) : Type 0 where
    pub goes : GoesAll z place status c 1 before.0 after.0
    pub held : after.1 ≡ []

  -- the shares of a rest are all those of this cell
  pub record AreOf (place : ℕ) (z : Shape) (c : Stored) (rest : Rest T) : Type 0 where
    pub spot_is : rest.spot ≡ spots place
    pub number_is : rest.number ≡ 0
    pub of_is : rest.of ≡ (callers z)
    pub cell_is : stored_of content room (lowest_share rest) ≡ c

  -- OUT of all shares of a place
  pub record OutsAll (z : Shape) (place : ℕ) (before : Me (Option (Share T)) View) (rest : Rest T) (after : Me (Option (Share T)) View) :
      Type 0 where
    pub are : AreOf place z (known_of (the_lane before.0) place) rest
    pub goes : GoesAll z place Emptied (known_of (the_lane before.0) place) 2 before.0 after.0
    pub held : after.1 ≡ []

  -- BACK of all shares of a cell
  pub record BacksAll (z : Shape) (place : ℕ) (before : Me (Option (Share T)) View) (rest : Rest T) (after : Me (Option (Share T)) View) :
      Type 0 where
    pub goes : GoesAll z place Untouched (stored_of content room (lowest_share rest)) 2 before.0 after.0
    pub held : after.1 ≡ []
