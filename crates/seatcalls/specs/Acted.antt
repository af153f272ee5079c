-- What a lane's acts leave of its view.
use Rattle.std.specs.Prelude.{◌≡◌, ℕ, ◌+◌, List, ◌++◌, length}
use mathlib.Core.List.{IsPrefix}
use Rattle.keybits.specs.declared.shape.Shape.{Shape}
use Rattle.seqpool.specs.declared.act.Act.{Act}
use Rattle.seqpool.specs.Pool.{IsLegal}
use Rattle.seqpool.specs.Histories.{acts_of}
use Rattle.poolsteps.specs.declared.view.View.{View}
use Rattle.poolsteps.specs.Owners.{ArePublishedByOwners}
use Rattle.poolsteps.specs.Views.{the_lane, IsOne}
use Rattle.poolsteps.specs.Told.{Quiet}

-- between two views the lane made these acts, among what other lanes did: it is the same lane, and what it has then seen goes on from what it had seen, is legal, has just its own acts, and in it owners alone publish
pub record Acted (z : Shape) (made : List Act) (before after : View) : Type 0 where
  pub one : IsOne after
  pub lane : (the_lane after).lane ≡ (the_lane before).lane
  pub mine : (the_lane after).mine ≡ (the_lane before).mine ++ made
  pub seen : IsPrefix before.seen after.seen
  -- a room stands beside each act that was then seen
  pub rooms : (more : List ℕ) × (after.rooms ≡ before.rooms ++ more) × (length after.seen ≡ length before.seen + length more)
  pub legal : IsLegal z after.seen
  pub owners : ArePublishedByOwners after.seen
  pub quiet : Quiet z after
  pub own : (the_lane after).mine ≡ acts_of (the_lane after).lane after.seen
