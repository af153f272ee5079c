-- A call that publishes: the moves of the shares of its place, and its one step.
use Rattle.std.proofs.Common.{◌≡◌, ℕ, ◌+◌, ◌≤◌, Bool, cond, List, [], ◌∷◌, ◌++◌, length, Some, refl, ap, ◌∙◌, subst, arith, eq-eqb, length-append, if◌then◌else◌}
use Rattle.atomic_table.specs.Table.{Me}
use Rattle.keybits.specs.declared.shape.Shape.{Shape}
use Rattle.keybits.specs.declared.step.Kind.TheVariants as kinds
use Rattle.keybits.specs.declared.step.Step.{Step}
use Rattle.keybits.specs.declared.step.Word.TheVariants.{Life}
use Rattle.keybits.specs.Keys.{place_of}
use Rattle.seqpool.specs.declared.act.Act.{Act}
use Rattle.seqpool.specs.declared.act.Act.TheVariants as acts
use Rattle.poolsteps.specs.declared.view.Stored.{Stored}
use Rattle.poolsteps.specs.Shares.{room_of}
use Rattle.poolsteps.proofs.shares.Rooms.{rooms-behind}
use Rattle.steplaws.specs.declared.pending.Pending.TheVariants.{Nothing}
use Rattle.steplaws.specs.Calls.Call.{Publishing}
use Rattle.steplaws.proofs.Updates.{at-here}
use Rattle.poolsteps.specs.declared.view.LaneRecord.{LaneRecord}
use Rattle.poolsteps.specs.declared.view.View.{View}
use Rattle.poolsteps.specs.Views.{head_record, the_lane, known_of, after_step, with_cell}
use Rattle.poolsteps.specs.Told.{MayPublish, Publishes}
use Rattle.poolsteps.specs.ViewLaws.{FillingLaw}
use Rattle.seatcalls.specs.Carried.{Carries}
use Rattle.seatcalls.specs.Called.{caller_of, Did, Called}
use Rattle.seatcalls.proofs.parts.Doing.{cell-next, did-step, did-carries, did-more, make-one}

-- moves of the place's shares
module _ {S : Type 0} {z : Shape} {place n : ℕ} {a b : Me S View} (carries : Carries z place n a b) where
  lane-still : (the_lane b.0).lane ≡ (the_lane a.0).lane
  lane-still = carries.elsewhere.lane

  -- the lane still may publish the key
  pub still-may : FillingLaw → (key : ℕ) → MayPublish z a.0 key → MayPublish z b.0 key
  still-may law key may = law z a.0 b.0 (the_lane b.0) key carries.goes carries.elsewhere.lane carries.elsewhere.under carries.elsewhere.chain may

  -- a step behind them
  did-behind : {made : List Act} {c : Me S View} → n ≤ 34 → Did z place made 1 0 b c → Did z place made 1 34 a c
  did-behind few did = did-more (did-carries carries few) did

-- they and the PUBLISH are a call of the cell's content
pub publish-called : {S : Type 0} {z : Shape} {key n found : ℕ} {c : Stored} {content : List ℕ} {with_ref : Bool} {a b d : Me S View}
    → Carries z (place_of key) n a b → n ≤ 34 → c.content ≡ content → Publishes z key c with_ref b found d → Called z (Publishing key content with_ref) 34 a d
publish-called {S = S} {z = z} {key = key} {found = found} {c = c} {content = content} {with_ref = with_ref} {a = a} {b = b} {d = d} carries few is publishes =
    let act : Act = acts.Publish (the_lane a.0).lane key content with_ref in
    let step : Step = record { kind = kinds.Publish with_ref; word = Life (place_of key); before = found; after = if with_ref then found + 5 else found + 1 } in
    let did = did-step publishes (cell-next (the_lane b.0) (place_of key) (Some (acts.Publish (the_lane b.0).lane key c.content with_ref)) Nothing c) in
    let same : acts.Publish (the_lane b.0).lane key c.content with_ref ≡ act = λ i. acts.Publish (lane-still carries i) key (is i) with_ref in
    record {
      steps = step ∷ [];
      made = act ∷ [];
      are = (refl, tt);
      all = refl;
      make = make-one z (caller_of z a.0) (Publishing key content with_ref) step (Some act) (λ n. n) publishes.changes refl;
      did = subst (λ (x : Act). Did z (place_of key) (x ∷ []) 1 34 a d) same (did-behind carries few did);
      few = omega arith;
      idle = ap (λ lanes. (head_record lanes).under) publishes.goes.lanes;
    }

-- after it, the room of the key's place is that of the cell
pub room-published : {S : Type 0} {z : Shape} {key found : ℕ} {c : Stored} {with_ref : Bool} {b d : Me S View} → Publishes z key c with_ref b found d
    → room_of d.0.seen d.0.rooms (place_of key) ≡ c.room
room-published {key = key} {c = c} {with_ref = with_ref} {b = b} {d = d} publishes =
    let goes = publishes.goes in
    let place : ℕ = place_of key in
    let act : Act = acts.Publish (the_lane b.0).lane key c.content with_ref in
    let r : LaneRecord = with_cell (after_step (the_lane b.0) (Some act) Nothing) place c in
    let history : List Act = b.0.seen ++ goes.between in
    let kept : List ℕ = b.0.rooms ++ goes.rooms_between in
    let one = length-append b.0.seen goes.between in
    let two = length-append b.0.rooms goes.rooms_between in
    let same : length kept ≡ length history = omega (arith, one, two, goes.paired.0, goes.paired.1) in
    let known : (known_of r place).room ≡ c.room = ap (λ (here : Bool). (cond here c (known_of (the_lane b.0) place)).room) (eq-eqb place place refl) in
    (λ i. room_of (goes.seen i) (goes.rooms i) place)
    ∙ (ap (λ (rooms : ℕ → ℕ). rooms place) (rooms-behind (λ _. 0) history kept act (known_of r place).room same)
    ∙ (at-here (room_of history kept) place (known_of r place).room place refl ∙ known))
