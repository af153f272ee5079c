-- What a lane knows after OUTs of the shares of a place that is with it, which are of one cell, and after a BACK.
use Rattle.std.proofs.Common.{◌≡◌, inl, ℕ, Bool, ◌==◌, ◌&&◌, true, cond, List, ◌∷◌, Option, refl, sym, ap, ◌∙◌, eq-eqb}
use Rattle.atomic_table.specs.Table.{Me}
use Rattle.keybits.specs.declared.shape.Shape.{Shape}
use Rattle.seqpool.specs.Pool.{pool_after}
use Rattle.poolsteps.specs.Share.{Share}
use Rattle.poolsteps.specs.Spot.{Spot as CellSpot}
use Rattle.poolsteps.specs.declared.view.Status.{Status}
use Rattle.poolsteps.specs.declared.view.Status.TheVariants.{InHand}
use Rattle.poolsteps.specs.declared.view.Stored.{Stored}
use Rattle.poolsteps.specs.Shares.{reclaimer, room_of}
use Rattle.poolsteps.proofs.shares.Holders.{all-may}
use Rattle.poolsteps.specs.declared.view.LaneRecord.{LaneRecord}
use Rattle.poolsteps.specs.declared.view.View.{View}
use Rattle.poolsteps.specs.declared.view.Deed.TheVariants.{Left}
use Rattle.poolsteps.specs.Views.{head_record, the_lane, status_in, status_of, known_in, known_of}
use Rattle.poolsteps.specs.Told.{MayTouch, HasPlace}
use Rattle.poolsteps.specs.Moved.{stored_of, Outs, Backs}
use Rattle.poolsteps.specs.ViewLaws.{SharesLaw}

-- all shares are with the lane: it may have any
pub may-touch : (z : Shape) (v : View) (place number : ℕ) → HasPlace z v place → MayTouch z v place number
may-touch z v place number has = all-may (reclaimer v.seen place) (the_lane v).lane number (pool_after z v.seen place).phase has

module _ {T : Type 0} {content : T → List ℕ} {room : T → ℕ} {spots : ℕ → CellSpot} {z : Shape} {place number : ℕ} {status : Status} {before after : Me (Option (Share T)) View} {share : Share T}
    (outs : Outs content room spots z place number status before share after) where
  -- any place that was with the lane still is, and its room is the same
  pub still-has : SharesLaw → (p : ℕ) → HasPlace z before.0 p → HasPlace z after.0 p
  still-has law p has = (law z before.0 after.0 _ outs.goes refl p number (may-touch z before.0 p number has)).1 has

  pub same-room : SharesLaw → (p : ℕ) → HasPlace z before.0 p → room_of after.0.seen after.0.rooms p ≡ room_of before.0.seen before.0.rooms p
  same-room law p has = (law z before.0 after.0 _ outs.goes refl p number (may-touch z before.0 p number has)).2

  -- the lane knows the cell of the share
  pub known-after : known_of (the_lane after.0) place ≡ stored_of content room share
  known-after =
      ap (λ (lanes : List LaneRecord). known_of (head_record lanes) place) outs.goes.lanes
      ∙ ap (λ (b : Bool). cond b (stored_of content room share) (known_in ((place, stored_of content room share) ∷ (the_lane before.0).cells) place)) (eq-eqb place place refl)

-- a share that is next to one that was taken out before is of the same cell
pub one-cell : {T : Type 0} {content : T → List ℕ} {room : T → ℕ} {spots : ℕ → CellSpot} {z : Shape} {place number next : ℕ} {status : Status} {before between after : Me (Option (Share T)) View}
    {first last : Share T} → Outs content room spots z place number status before first between → Outs content room spots z place next status between last after
    → HasPlace z between.0 place → first.cell ≡ last.cell
one-cell outs more has = ap (λ (c : Stored). c.cell) (sym (more.known (inl has) ∙ known-after outs))

-- after a BACK the lane left the slot so
pub left-after : {T : Type 0} {content : T → List ℕ} {room : T → ℕ} {spots : ℕ → CellSpot} {z : Shape} {place number : ℕ} {status : Status} {before after : Me (Option (Share T)) View} {share : Share T}
    → Backs content room spots z place number status before share after → status_of (the_lane after.0) place number ≡ status
left-after {place = place} {number = number} {status = status} {before = before} backs =
    let here : (place == place) && (number == number) ≡ true = ap (λ (b : Bool). b && (number == number)) (eq-eqb place place refl) ∙ eq-eqb number number refl in
    let earlier : Status = status_in (the_lane before.0).lane (Left place number InHand ∷ (the_lane before.0).deeds) place number in
    ap (λ (lanes : List LaneRecord). status_of (head_record lanes) place number) backs.goes.lanes ∙ ap (λ (b : Bool). cond b status earlier) here
