-- A place with its shares on the way from a claim to a return, and from a TAKE on, by the view of a hand.
use Rattle.std.proofs.Common.{◌≡◌, ◌≢◌, ℕ, zero, suc, ◌<◌, ◌≤◌, Bool, true, false, cond, ◌==◌, ◌&&◌, List, [], ◌∷◌, Option, refl, ap, sym, ◌∙◌, arith, eq-eqb}
use Rattle.keybits.specs.Shapes.{callers}
use Rattle.atomic_table.specs.Table.{Me}
use Rattle.keybits.specs.declared.shape.Shape.{Shape}
use Rattle.keybits.specs.Places.{shard_of}
use Rattle.keybits.specs.Links.{linked_place}
use Rattle.keybits.specs.Words.{claimable}
use Rattle.seqpool.specs.Pool.{has}
use Rattle.poolsteps.specs.declared.view.Stored.{Stored}
use Rattle.poolsteps.specs.declared.view.Status.{Status}
use Rattle.poolsteps.specs.declared.view.Status.TheVariants.{Emptied, InHand, Whole}
use Rattle.poolsteps.specs.Shares.{room_of, at_rest}
use Rattle.poolsteps.specs.declared.view.LaneRecord.{LaneRecord}
use Rattle.poolsteps.specs.declared.view.View.{View}
use Rattle.poolsteps.specs.Views.{head_record, the_lane, status_of, known_of}
use Rattle.poolsteps.specs.Told.{GoesOn, HasPlace, Claims}
use Rattle.poolsteps.specs.Moved.{moved_record}
use Rattle.poolsteps.specs.Returned.{with_return, LeadsTo, IsAtRest}
use Rattle.poolsteps.specs.ViewLaws.{SharesLaw}
use Rattle.poolsteps.proofs.OwnShares.{may-touch}

-- what holds at 0 and at 1 holds at the number of each of two lanes
pub at-two : (P : ℕ → Type 0) → P 0 → P 1 → (lanes : ℕ) → lanes ≡ 2 → (number : ℕ) → number < lanes → P number
at-two P first second lanes two zero inside = first
at-two P first second lanes two (suc zero) inside = second
at-two P first second lanes two (suc (suc more)) inside = absurd (omega arith)

-- the lane goes on, without an act: a place that was with it still is, and its room is the same
module _ {z : Shape} {before after : View} {r : LaneRecord} (goes : GoesOn z before after [] [] r) where
  record-after : the_lane after ≡ r
  record-after = ap head_record goes.lanes

  module _ (law : SharesLaw) (same : r.lane ≡ (the_lane before).lane) (place : ℕ) (all : HasPlace z before place) where
    pub has-still : HasPlace z after place
    has-still = (law z before after r goes same place 0 (may-touch z before place 0 all)).1 all

    room-still : room_of after.seen after.rooms place ≡ room_of before.seen before.rooms place
    room-still = (law z before after r goes same place 0 (may-touch z before place 0 all)).2

-- after its CLAIM the lane knows the cell of the place, which has the place's room
pub claimed-room : {S : Type 0} (z : Shape) (place generation found : ℕ) (before after : Me S View) → Claims z place generation before found after
    → found ≡ claimable generation → room_of after.0.seen after.0.rooms place ≡ (known_of (the_lane after.0) place).room
claimed-room z place generation found before after claims is =
    let told = claims.0 is in
    sym told.2 ∙ sym (ap (λ (lanes : List LaneRecord). (known_of (head_record lanes) place).room) told.4.goes.lanes
    ∙ ap (λ (b : Bool). (cond b told.0 (known_of (the_lane before.0) place)).room) (eq-eqb place place refl))

rest-status : (here : Bool) (old : Status) → old ≡ Emptied → cond here Whole (cond here InHand old) ≡ cond here Whole Emptied
rest-status true old empty = refl
rest-status false old empty = empty

-- the record after the only share of a place's cell is put back
abbrev back_record : LaneRecord → ℕ → Stored → Stored → LaneRecord
back_record r place old new = moved_record (moved_record r place (shard_of place) InHand old) place (shard_of place) Whole new

-- the other slots of the place have none
rest-slots : (r : LaneRecord) (place : ℕ) (old new : Stored) (number : ℕ) → status_of r place number ≡ Emptied
    → status_of (back_record r place old new) place number ≡ at_rest place number
rest-slots r place old new number empty =
    let here : Bool = number == shard_of place in
    let status : Status = status_of r place number in
    ap (λ (b : Bool). cond (b && here) Whole (cond (b && here) InHand status)) (eq-eqb place place refl) ∙ rest-status here status empty

-- the place is at rest once its only share is put back, of an object with no content and with the place's room at least, and LINK follows
pub is-at-rest : {z : Shape} {before after last : View} {place at : ℕ} {old new : Stored} {linked : Option ℕ} {failed : Bool} (law : SharesLaw) → HasPlace z before place
    → ((number : ℕ) → number < (callers z) → status_of (the_lane before) place number ≡ Emptied)
    → GoesOn z before after [] [] (back_record (the_lane before) place old new) → GoesOn z after last [] [] (with_return (the_lane after) at linked failed)
    → new.content ≡ [] → room_of before.seen before.rooms place ≤ new.room → IsAtRest z last place
is-at-rest {before = before} {place = place} {old = old} {new = new} law all empty goes more none room =
    let known = ap (λ (r : LaneRecord). known_of r place) (record-after more) ∙ (ap (λ (r : LaneRecord). known_of r place) (record-after goes)
    ∙ ap (λ (b : Bool). cond b new (cond b old (known_of (the_lane before) place))) (eq-eqb place place refl)) in
    let last_room = room-still more law refl place (has-still goes law refl place all) in
    let back_room = room-still goes law refl place all in
    let new_room = ap (λ (c : Stored). c.room) known in
    record {
      slots = λ number inside. ap (λ (r : LaneRecord). status_of r place number) (record-after more)
          ∙ (ap (λ (r : LaneRecord). status_of r place number) (record-after goes) ∙ rest-slots (the_lane before) place old new number (empty number inside));
      empty = ap (λ (c : Stored). c.content) known ∙ none;
      room = omega arith;
    }

-- a word other than 0 leads first to the place that it stands for
pub first-led : (z : Shape) (shard word : ℕ) (places : List ℕ) → LeadsTo z shard word places → word ≢ 0 → has places (linked_place shard word) ≡ true
first-led z shard word [] leads more = absurd (more leads)
first-led z shard word (place ∷ rest) leads more = ap (λ (b : Bool). cond b true (has rest (linked_place shard word))) (eq-eqb _ _ (sym leads.2))
