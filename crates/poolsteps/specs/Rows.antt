-- What the row of a lane holds. No public clause cites this module.
use Rattle.std.specs.Prelude.{◌≡◌, ℕ, ◌+◌, ◌^◌, ◌<◌, ◌≤◌, ⊤, Bool, true, false, List, length, slice_get, Option, Some, None}
use denote.RawPtr.{Ptr}
use Rattle.poolsteps.specs.Objects.{spot_at}
use Rattle.poolsteps.specs.declared.layout.TheConstants.{SHARDS_APART}
use Rattle.poolsteps.specs.declared.rows.Own.{Own}
use Rattle.poolsteps.specs.declared.rows.Own.TheVariants.{Away, Unused, Back, Whole}

module _ {T : Type 0} where
  -- the object that waits at a place
  abbrev pub object_in : Own T → Option T
  object_in Away = None
  object_in (Unused _) = None
  object_in (Back _) = None
  object_in (Whole whole) = Some whole.object

  -- whether the right to it is here, and in use
  abbrev pub is_here : Own T → Bool
  is_here Away = false
  is_here (Unused _) = true
  is_here (Back _) = false
  is_here (Whole _) = true

  -- the right, if it is here, is that to this place
  abbrev pub IsOwnOf : Ptr → ℕ → Own T → Type 0
  IsOwnOf directory start Away = ⊤
  IsOwnOf directory start (Unused whole) = whole.spot ≡ spot_at directory start
  IsOwnOf directory start (Back whole) = whole.spot ≡ spot_at directory start
  IsOwnOf directory start (Whole whole) = whole.spot ≡ spot_at directory start

  -- each right of a row is that to the place whose word has its number, from the first on
  abbrev pub AreOwn : Ptr → ℕ → List (Own T) → Type 0
  AreOwn directory first row = (index : ℕ) (own : Own T) → slice_get row index ≡ Some own → IsOwnOf directory (first + index) own

-- what holds of the row of a lane, whose own places stand from the first on
pub record AreRows {T : Type 0} (directory : Ptr) (first places : ℕ) (row : List (Own T)) : Type 0 where
  pub own : AreOwn directory first row
  pub room : places + SHARDS_APART ≤ length row
  pub fits : first + length row < 2 ^ 64
