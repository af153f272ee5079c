-- What a guest's calls do: those of a caller that owns no shard.
use Rattle.std.specs.Prelude.{◌≡◌, ◌==◌, ℕ, ◌<◌, ◌≤◌, List, [], ◌∷◌, Option, if◌then◌else◌}
use Rattle.atomic_table.specs.declared.shared.Seat.{Seat}
use Rattle.keybits.specs.declared.shape.Shape.{Shape}
use Rattle.keybits.specs.Shapes.{callers}
use Rattle.seqpool.specs.declared.act.Act.{Act}
use Rattle.seqpool.specs.declared.act.Act.TheVariants as acts
use Rattle.poolsteps.specs.Share.{Share}
use Rattle.poolsteps.specs.declared.grid.Grid.{Grid}
use Rattle.poolsteps.specs.declared.grid.Spot.{Spot}
use Rattle.poolsteps.specs.declared.view.View.{View}
use Rattle.poolsteps.specs.Views.{the_lane, IsOne}
use Rattle.poolsteps.specs.Grids.{IsSpot, IsOf}

-- the acts by which a guest returned a place that it claimed at this generation: none where the place retired
abbrev pub given_acts : Shape → ℕ → ℕ → ℕ → List Act
given_acts z lane place generation = if generation == z.last_generation then [] else acts.Home lane place ∷ []

-- the hand is a guest's of the grid, with no share in it, and acts at a place that stands here
pub record MayGive {T : Type 0} (grid : Grid T) (seat : Seat (Option (Share T)) View) (stands : Spot) (number : ℕ) : Type 0 where
  pub hand : IsOf grid seat × IsOne seat.me.0
  pub bare : seat.me.1 ≡ []
  pub spot : IsSpot grid.shape stands stands.place
  pub lane : number ≡ (the_lane seat.me.0).lane
  pub guest : grid.shape.lanes ≤ number
  pub below : number < callers grid.shape
