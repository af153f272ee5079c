-- OUT and BACK of all shares of a place: the look that takes the slots, and the look that gives them back.
use Rattle.poolsteps.specs.Spot.{Spot as CellSpot}
use Rattle.keybits.specs.Shapes.{callers}
use Rattle.std.proofs.Common.{◌≡◌, ℕ, zero, suc, ◌+◌, ◌-◌, ◌<◌, List, Option, Some, ap, sym, ◌∙◌, subst, arith}
use Rattle.keybits.specs.declared.shape.Shape.{Shape}
use Rattle.poolsteps.specs.Share.{Share}
use Rattle.poolsteps.specs.declared.view.Stored.{Stored}
use Rattle.poolsteps.specs.declared.view.Status.{Status}
use Rattle.poolsteps.specs.declared.view.Status.TheVariants.{Untouched}
use Rattle.poolsteps.specs.declared.view.View.{View}
use Rattle.poolsteps.specs.Views.{the_lane}
use Rattle.poolsteps.specs.Told.{HasPlace}
use Rattle.poolsteps.specs.Batches.{held_of, GoesAll, AreLeft}
use Rattle.poolsteps.proofs.Carrying.{first_value, stored_held, stored-is}
use Rattle.poolsteps.proofs.Keeping.{shares-law, goes-two}
use Rattle.poolsteps.proofs.OwnShares.{may-touch}

module _ {z : Shape} {place : ℕ} {status : Status} {c : Stored} {looks : ℕ} {before after : View} (goes : GoesAll z place status c looks before after) where
  -- the place is still with the lane
  pub all-place : HasPlace z before place → HasPlace z after place
  all-place has = (shares-law z before after (the_lane after) goes.goes goes.leaves.lane place 0 (may-touch z before place 0 has)).1 has

  -- and then it leaves all its slots once more
  pub goes-again : {later : Status} {d : Stored} {more : ℕ} {last : View} → GoesAll z place later d more after last → GoesAll z place later d (looks + more) before last
  goes-again {last = last} next = let one = goes.leaves in let two = next.leaves in record {
    goes = goes-two z before after last (the_lane after) (the_lane last) two.lane goes.goes next.goes;
    leaves = record {
      lane = two.lane ∙ one.lane;
      mine = two.mine ∙ one.mine;
      under = two.under ∙ one.under;
      pushed = two.pushed ∙ one.pushed;
      chain = two.chain ∙ one.chain;
      deeds = λ p k other. two.deeds p k other ∙ one.deeds p k other;
      cells = λ p other. two.cells p other ∙ one.cells p other;
      here = two.here;
      known = two.known;
    };
    steps = next.steps ∙ goes.steps;
    looked = let first = goes.looked in let second = next.looked in omega arith;
  }

-- the cell of the shares is that of the first in hand
pub first-stored : {T : Type 0} (content : T → List ℕ) (room : T → ℕ) (spots : ℕ → CellSpot) (z : Shape) (c : Stored) (place count : ℕ) (order : ℕ → ℕ) (values : ℕ → Option (Share T))
    → AreLeft content room spots place z Untouched c values → 0 < count → order (count - 1) < (callers z) → stored_held content room (first_value (held_of z place order values count)) ≡ c
first-stored content room spots z c place zero order values are some below = absurd (omega (arith, some))
first-stored {T} content room spots z c place (suc count) order values are some below =
    let same : suc count - 1 ≡ count = omega arith in
    let left = are (order count) (subst (λ (n : ℕ). order n < (callers z)) same below) in
    let is : values (order count) ≡ Some left.0 = cc left.1 in
    ap (stored_held content room) is ∙ sym (stored-is content room spots place c (order count) (callers z) left.0 left.2)
