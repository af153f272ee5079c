-- What moves of one place's shares leave of a lane's view.
use Rattle.keybits.specs.Shapes.{callers}
use Rattle.std.specs.Prelude.{◌≡◌, ◌≢◌, ℕ, ◌+◌, ◌<◌, List, [], Option}
use Rattle.atomic_table.specs.Table.{Me}
use Rattle.atomic_table.specs.declared.shared.Seat.{Seat}
use Rattle.poolsteps.specs.Share.{Share}
use Rattle.poolsteps.specs.Spot.{Spot as CellSpot}
use Rattle.poolsteps.specs.Whole.{Whole}
use Rattle.keybits.specs.declared.shape.Shape.{Shape}
use Rattle.poolsteps.specs.declared.grid.Grid.{Grid}
use Rattle.poolsteps.specs.declared.grid.Spot.{Spot}
use Rattle.poolsteps.specs.declared.view.Stored.{Stored}
use Rattle.poolsteps.specs.declared.view.Status.TheVariants.{Emptied}
use Rattle.poolsteps.specs.Shares.{at_rest}
use Rattle.poolsteps.specs.declared.view.LaneRecord.{LaneRecord}
use Rattle.poolsteps.specs.declared.view.View.{View}
use Rattle.poolsteps.specs.Views.{the_lane, status_of, known_of, IsOne}
use Rattle.poolsteps.specs.Grids.{IsSpot, IsOf, SameSeat}
use Rattle.poolsteps.specs.Layout.{spots_at}
use Rattle.poolsteps.specs.Told.{GoesOn, HasPlace}

-- of the lane's record no more is changed than what it did with the slots of one place, and what it knows of its cell
pub record IsElsewhere (place : ℕ) (r s : LaneRecord) : Type 0 where
  pub lane : s.lane ≡ r.lane
  pub mine : s.mine ≡ r.mine
  pub under : s.under ≡ r.under
  pub pushed : s.pushed ≡ r.pushed
  pub chain : s.chain ≡ r.chain
  pub deeds : (p number : ℕ) → p ≢ place → status_of s p number ≡ status_of r p number
  pub cells : (p : ℕ) → p ≢ place → known_of s p ≡ known_of r p

-- by so many looks the lane moved shares of the place, and did nothing else
pub record Carries {S : Type 0} (z : Shape) (place looks : ℕ) (before after : Me S View) : Type 0 where
  pub goes : GoesOn z before.0 after.0 [] [] (the_lane after.0)
  pub elsewhere : IsElsewhere place (the_lane before.0) (the_lane after.0)
  pub held : after.1 ≡ before.1
  pub steps : after.0.steps ≡ before.0.steps
  pub looked : after.0.looks ≡ before.0.looks + looks

-- the lane emptied each slot of the place
abbrev pub AreEmptied : Shape → LaneRecord → ℕ → Type 0
AreEmptied z r place = (number : ℕ) → number < callers z → status_of r place number ≡ Emptied

-- the lane left the slots of the place as those of a place at rest
abbrev pub AreAtRest : Shape → LaneRecord → ℕ → Type 0
AreAtRest z r place = (number : ℕ) → number < callers z → status_of r place number ≡ at_rest place number

-- the cell has the content and the room of the whole's object, which stands where the place does
abbrev pub ShowsCell : {T : Type 0} → (T → List ℕ) → (T → ℕ) → (ℕ → CellSpot) → ℕ → Stored → Whole T → Type 0
ShowsCell content room spots place c whole = (content whole.object ≡ c.content) × (room whole.object ≡ c.room) × (whole.spot ≡ spots place)

module _ {T : Type 0} (grid : Grid T) where
  -- the hand is one lane's of the grid, which has all shares of the place that stands here; the number is that of a lane
  pub record MayMoveCell (seat : Seat (Option (Share T)) View) (at : Spot) (number : ℕ) : Type 0 where
    pub hand : IsOf grid seat × IsOne seat.me.0
    pub spot : IsSpot grid.shape at at.place
    pub below : number < callers grid.shape
    pub place : HasPlace grid.shape seat.me.0 at.place

  -- by so many looks the lane moved shares of the place, all of which it still has
  pub record MovesCell (at looks : ℕ) (before after : Seat (Option (Share T)) View) : Type 0 where
    pub hand : SameSeat before after × IsOne after.me.0
    pub place : HasPlace grid.shape after.me.0 at
    pub carries : Carries grid.shape at looks before.me after.me

  -- the whole is the place's cell, as the lane knows it
  abbrev pub IsKnown : (T → List ℕ) → (T → ℕ) → ℕ → LaneRecord → Whole T → Type 0
  IsKnown content room place r whole = ShowsCell content room (spots_at grid.objects.ptr grid.shape) place (known_of r place) whole
