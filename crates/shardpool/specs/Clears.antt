-- What the parts of a clear did.
use Rattle.std.specs.Prelude.{◌⊎◌, ℕ, Bool, List, [], ◌∷◌, Option, IfSome}
use Rattle.atomic_table.specs.Table.{Me}
use Rattle.poolsteps.specs.Spot.{Spot as CellSpot}
use Rattle.keybits.specs.declared.shape.Shape.{Shape}
use Rattle.keybits.specs.Keys.{place_of}
use Rattle.seqpool.specs.declared.act.Act.TheVariants as acts
use Rattle.steplaws.specs.Calls.Call.{Clearing}
use Rattle.poolsteps.specs.declared.view.View.{View}
use Rattle.poolsteps.specs.Told.{Sees}
use Rattle.seatcalls.specs.declared.at.Reclaimed.{Reclaimed}
use Rattle.seatcalls.specs.Called.{Called, EndsWithActs, IsReclaimed, StandsAt}

-- the lane made a clear of the key, in so many looks at most: this is its reply, and this became of the place, whose object stands in this word
pub record Clears {S T : Type 0} (content : T → List ℕ) (room : T
    → ℕ) (z : Shape) (spot : CellSpot) (key lane looks : ℕ) (before after : Me S View) (marked : Bool)
    (reclaimed : Option (Reclaimed T)) : Type 0 where
  pub called : Called z (Clearing key) looks before after
  pub acts : EndsWithActs z (place_of key) (acts.Clear lane key marked ∷ []) before.0 after.0 reclaimed
  pub told : IfSome reclaimed (IsReclaimed content room z (place_of key) lane after.0)
  pub at : StandsAt spot reclaimed

-- the lane looked, twice at most, and did nothing
abbrev pub LooksTwice : {S : Type 0} → Shape → Me S View → Me S View → Type 0
LooksTwice z before after = Sees z before after ⊎ ((between : Me _ View) × Sees z before between × Sees z between after)
