-- What an OUT or a BACK of one share of a place leaves of a lane's view, and what such moves together leave.
use Rattle.std.proofs.Common.{◌≡◌, ◌≢◌, ◌⊎◌, ⊎_elim, ℕ, ◌+◌, ◌==◌, ◌&&◌, Bool, true, cond, eqb, List, [], Option, refl, ap, sym, ◌∙◌, subst, arith, eq-eqb, ne_eqb}
use Rattle.std.proofs.lemmas.Bool.{and_right}
use Rattle.atomic_table.specs.Table.{Me}
use Rattle.keybits.specs.declared.shape.Shape.{Shape}
use Rattle.poolsteps.specs.Spot.{Spot as CellSpot}
use Rattle.poolsteps.specs.Share.{Share}
use Rattle.poolsteps.specs.declared.view.Stored.{Stored}
use Rattle.poolsteps.specs.declared.view.Status.{Status}
use Rattle.poolsteps.specs.declared.view.Status.TheVariants.{Untouched, Emptied, InHand}
use Rattle.poolsteps.specs.declared.view.LaneRecord.{LaneRecord}
use Rattle.poolsteps.specs.declared.view.View.{View}
use Rattle.poolsteps.specs.Views.{head_record, the_lane, status_of, known_of, IsOne}
use Rattle.poolsteps.specs.Told.{GoesOn, Sees, HasPlace}
use mathlib.Core.Logic.{dite}
use native.Mathlib.Decide.{ℕ_discrete}
use Rattle.seatcalls.specs.Called.{IsUnmoved}
use Rattle.poolsteps.specs.Moved.{moved_record, stored_of, Outs, Backs, Peeks, Fetches}
use Rattle.poolsteps.specs.Batches.{GoesAll}
use Rattle.poolsteps.specs.ViewLaws.{SharesLaw}
use Rattle.poolsteps.proofs.Keeping.{goes-two}
use Rattle.poolsteps.proofs.OwnShares.{may-touch}
use Rattle.seatcalls.specs.Carried.{IsElsewhere, Carries}

-- by two looks the lane took a slot of the place and gave it back so, and it knows this of the cell
pub record Moves {S : Type 0} (z : Shape) (place number : ℕ) (status : Status) (c : Stored) (before after : Me S View) : Type 0 where
  pub first : Stored
  pub goes : GoesOn z before.0 after.0 [] [] (moved_record (moved_record (the_lane before.0) place number InHand first) place number status c)
  pub held : after.1 ≡ before.1
  pub steps : after.0.steps ≡ before.0.steps
  pub looks : after.0.looks ≡ before.0.looks + 2

-- of a move no more is told than of what the lane did with the place
module _ (r : LaneRecord) (place number : ℕ) (status : Status) (c : Stored) where
  deeds-elsewhere : (p k : ℕ) → p ≢ place → status_of (moved_record r place number status c) p k ≡ status_of r p k
  deeds-elsewhere p k other = ap (λ (b : Bool). cond (b && (k == number)) status (status_of r p k)) (ne_eqb p place other)

  cells-elsewhere : (p : ℕ) → p ≢ place → known_of (moved_record r place number status c) p ≡ known_of r p
  cells-elsewhere p other = ap (λ (b : Bool). cond b c (known_of r p)) (ne_eqb p place other)

  moved-here : status_of (moved_record r place number status c) place number ≡ status
  moved-here =
      let here : (place == place) && (number == number) ≡ true = ap (λ (b : Bool). b && (number == number)) (eq-eqb place place refl) ∙ eq-eqb number number refl in
      ap (λ (b : Bool). cond b status (status_of r place number)) here

  moved-beside : (k : ℕ) → k ≢ number → status_of (moved_record r place number status c) place k ≡ status_of r place k
  moved-beside k other = ap (λ (b : Bool). cond b status (status_of r place k)) (and_right (eqb place place) (eqb k number) (ne_eqb k number other))

  moved-known : known_of (moved_record r place number status c) place ≡ c
  moved-known = ap (λ (b : Bool). cond b c (known_of r place)) (eq-eqb place place refl)

module _ {S : Type 0} {z : Shape} {place number : ℕ} {status : Status} {c : Stored} {before after : Me S View} (moves : Moves z place number status c before after) where
  -- the record after the first look, and after the second
  abbrev taken : LaneRecord
  taken = moved_record (the_lane before.0) place number InHand moves.first

  lane-after : the_lane after.0 ≡ moved_record taken place number status c
  lane-after = ap head_record moves.goes.lanes

  moves-carry : Carries z place 2 before after
  moves-carry = record {
    goes = subst (λ (r : LaneRecord). GoesOn z before.0 after.0 [] [] r) (sym lane-after) moves.goes;
    elsewhere = subst (λ (r : LaneRecord). IsElsewhere place (the_lane before.0) r) (sym lane-after) (record {
      lane = refl;
      mine = refl;
      under = refl;
      pushed = refl;
      chain = refl;
      deeds = λ p k other. deeds-elsewhere taken place number status c p k other ∙ deeds-elsewhere (the_lane before.0) place number InHand moves.first p k other;
      cells = λ p other. cells-elsewhere taken place number status c p other ∙ cells-elsewhere (the_lane before.0) place number InHand moves.first p other;
    });
    held = moves.held;
    steps = moves.steps;
    looked = moves.looks;
  }

  -- the lane left the slot so, each other slot of the place as before, and it knows the cell
  pub moves-here : status_of (the_lane after.0) place number ≡ status
  moves-here = ap (λ (r : LaneRecord). status_of r place number) lane-after ∙ moved-here taken place number status c

  pub moves-beside : (k : ℕ) → k ≢ number → status_of (the_lane after.0) place k ≡ status_of (the_lane before.0) place k
  moves-beside k other =
      ap (λ (r : LaneRecord). status_of r place k) lane-after
      ∙ (moved-beside taken place number status c k other ∙ moved-beside (the_lane before.0) place number InHand moves.first k other)

  pub moves-known : known_of (the_lane after.0) place ≡ c
  moves-known = ap (λ (r : LaneRecord). known_of r place) lane-after ∙ moved-known taken place number status c

module _ {T : Type 0} {content : T → List ℕ} {room : T → ℕ} {spots : ℕ → CellSpot} {z : Shape} {place number : ℕ} {status : Status} {before after : Me (Option (Share T)) View} {share : Share T} where
  -- an OUT is such a move, which leaves the slot emptied
  pub out-moves : Outs content room spots z place number status before share after → Moves z place number Emptied (stored_of content room share) before after
  out-moves outs = record { first = stored_of content room share; goes = outs.goes; held = outs.held; steps = outs.steps; looks = outs.looks }

  pub carries-out : Outs content room spots z place number status before share after → Carries z place 2 before after
  carries-out outs = moves-carry (out-moves outs)

  -- and so is a BACK
  pub back-moves : Backs content room spots z place number status before share after → Moves z place number status (stored_of content room share) before after
  back-moves backs = record { first = known_of (the_lane before.0) place; goes = backs.goes; held = backs.held; steps = backs.steps; looks = backs.looks }

  pub carries-back : Backs content room spots z place number status before share after → Carries z place 2 before after
  carries-back backs = moves-carry (back-moves backs)

module _ {T : Type 0} {content : T → List ℕ} {room : T → ℕ} {spots : ℕ → CellSpot} {z : Shape} {place number : ℕ} {before after : Me (Option (Share T)) View} where
  fetched-first : {one : Share T} → Outs content room spots z place number Untouched before one after → Moves z place number Emptied (stored_of content room one) before after
  fetched-first {one = one} outs = record { first = stored_of content room one; goes = outs.goes; held = outs.held; steps = outs.steps; looks = outs.looks }

  -- and so are two looks at an empty slot
  pub peek-moves : Peeks content room spots z place number before after → Moves z place number Emptied (known_of (the_lane before.0) place) before after
  peek-moves peeks = record { first = known_of (the_lane before.0) place; goes = peeks.goes; held = peeks.held; steps = peeks.steps; looks = peeks.looks }

  pub carries-peek : Peeks content room spots z place number before after → Carries z place 2 before after
  carries-peek peeks = moves-carry (peek-moves peeks)

  -- which move nothing
  pub peek-unmoved : status_of (the_lane before.0) place number ≡ Emptied → Peeks content room spots z place number before after → IsUnmoved place (the_lane before.0) (the_lane after.0)
  peek-unmoved empty peeks = let moves = peek-moves peeks in record {
    deeds = λ k. dite (ℕ_discrete k number)
        (λ here. subst (λ (n : ℕ). status_of (the_lane after.0) place n ≡ status_of (the_lane before.0) place n) (sym here) (moves-here moves ∙ sym empty))
        (λ other. moves-beside moves k other);
    cell = moves-known moves;
  }

  -- a share is fetched so, or it was with the lane
  pub carries-fetch : {own fetched : Option (Share T)} → (status_of (the_lane before.0) place number ≡ Untouched) ⊎ (status_of (the_lane before.0) place number ≡ Emptied)
      → Fetches content room spots z place number before own fetched after → Carries z place 2 before after
  carries-fetch left fetches = ⊎_elim
      (λ (untouched : status_of (the_lane before.0) place number ≡ Untouched). moves-carry (fetched-first (fetches.first untouched).2))
      (λ (emptied : status_of (the_lane before.0) place number ≡ Emptied). carries-peek (fetches.again emptied).1)
      left

-- and so are moves of all shares of the place
pub carries-all : {S : Type 0} {z : Shape} {place looks : ℕ} {status : Status} {c : Stored} {before after : Me S View} → GoesAll z place status c looks before.0 after.0 → before.1 ≡ []
    → after.1 ≡ [] → Carries z place looks before after
carries-all all bare held = record {
  goes = all.goes;
  elsewhere = record {
    lane = all.leaves.lane;
    mine = all.leaves.mine;
    under = all.leaves.under;
    pushed = all.leaves.pushed;
    chain = all.leaves.chain;
    deeds = all.leaves.deeds;
    cells = all.leaves.cells;
  };
  held = held ∙ sym bare;
  steps = all.steps;
  looked = all.looked;
}

-- moves of a place after moves of it
pub carries-more : {S : Type 0} {z : Shape} {place n m : ℕ} {a b c : Me S View} → Carries z place n a b → Carries z place m b c → Carries z place (n + m) a c
carries-more {z = z} {n = n} {m = m} {a = a} {b = b} {c = c} first second =
    let one = first.elsewhere in
    let two = second.elsewhere in
    record {
      goes = goes-two z a.0 b.0 c.0 (the_lane b.0) (the_lane c.0) two.lane first.goes second.goes;
      elsewhere = record {
        lane = two.lane ∙ one.lane;
        under = two.under ∙ one.under;
        pushed = two.pushed ∙ one.pushed;
        mine = two.mine ∙ one.mine;
        chain = two.chain ∙ one.chain;
        deeds = λ p k other. two.deeds p k other ∙ one.deeds p k other;
        cells = λ p other. two.cells p other ∙ one.cells p other;
      };
      held = second.held ∙ first.held;
      steps = second.steps ∙ first.steps;
      looked = let earlier = first.looked in let later = second.looked in omega arith;
    }

module _ {S : Type 0} {z : Shape} {place n : ℕ} {before after : Me S View} (carries : Carries z place n before after) where
  -- the seat is still that of one lane
  pub one-after : IsOne after.0
  one-after = carries.goes.lanes

  -- any place that was with the lane still is
  pub carried-place : SharesLaw → (p : ℕ) → HasPlace z before.0 p → HasPlace z after.0 p
  carried-place law p has = (law z before.0 after.0 (the_lane after.0) carries.goes carries.elsewhere.lane p 0 (may-touch z before.0 p 0 has)).1 has

-- a look moves no share
pub carries-sees : {S : Type 0} {z : Shape} {a b : Me S View} (place : ℕ) → Sees z a b → Carries z place 1 a b
carries-sees {z = z} {a = a} {b = b} place sees =
    let now : the_lane b.0 ≡ the_lane a.0 = ap head_record sees.goes.lanes in record {
      goes = subst (λ (r : LaneRecord). GoesOn z a.0 b.0 [] [] r) (sym now) sees.goes;
      elsewhere = subst (λ (r : LaneRecord). IsElsewhere place (the_lane a.0) r) (sym now)
          (record { lane = refl; mine = refl; under = refl; pushed = refl; chain = refl; deeds = λ p number other. refl; cells = λ p other. refl });
      held = sees.held;
      steps = sees.steps;
      looked = sees.looks;
    }
