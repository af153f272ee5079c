-- The two looks that move all shares of a place: each is a move of one slot after another, at one moment.
use Rattle.poolsteps.specs.Spot.{Spot as CellSpot}
use Rattle.std.proofs.Common.{◌≡◌, ◌≢◌, inl, inr, ⊎_elim, ◌⊎◌, ℕ, zero, suc, ◌<◌, ◌≤◌, Bool, true, cond, eqb, ◌&&◌, List, ◌∷◌, [], length, length-set, slice_index, slice_set, Option, None, refl, ap, sym, ◌∙◌, subst, arith, eq-eqb, ne_eqb}
use Rattle.std.proofs.lemmas.Bool.{and_left}
use mathlib.Core.Logic.{dite}
use mathlib.Core.Option as maybe
use native.Mathlib.Decide.{ℕ_discrete}
use lib.ListN.{get_elem?}
use Rattle.atomic_table.specs.Table as table
use Rattle.atomic_table.specs.Table.{Me, Act, Allows, Valid, homes_after, carried_after, put_back, rest}
use Rattle.atomic_table.proofs.Lists.{set_else}
use Rattle.keybits.specs.declared.shape.Shape.{Shape}
use Rattle.keybits.specs.Shapes.{callers, is_place}
use Rattle.poolsteps.specs.Share.{Share}
use Rattle.poolsteps.specs.declared.view.Stored.{Stored}
use Rattle.poolsteps.specs.declared.view.Status.{Status}
use Rattle.poolsteps.specs.declared.view.Status.TheVariants.{InHand}
use Rattle.poolsteps.specs.Shares.{Slots, Stock, at_home, Shared, moved}
use Rattle.poolsteps.specs.ShareLaws.{Leaves, MayMove}
use Rattle.poolsteps.proofs.shares.Moving.{move-law}
use Rattle.poolsteps.specs.declared.view.LaneRecord.{LaneRecord}
use Rattle.poolsteps.specs.declared.view.View.{View}
use Rattle.poolsteps.specs.Layout.{slot_count, slot_index, slots_in}
use Rattle.poolsteps.specs.Views.{the_lane, status_of, known_of, IsOne}
use Rattle.poolsteps.specs.Rule.{World, Stands, Kept}
use Rattle.poolsteps.specs.Told.{GoesOn, HasPlace}
use Rattle.poolsteps.specs.Moved.{moved_record}
use Rattle.poolsteps.specs.Batches.{held_of, IsOrder, GoesAll, AreLeft, LiftsAll, LaysAll}
use Rattle.poolsteps.proofs.Carrying.{status-here, status-beside, known-moved}
use Rattle.poolsteps.proofs.Keeping.{StillHas, still-has}
use Rattle.poolsteps.proofs.Moving.{stands-there}
use Rattle.poolsteps.proofs.OwnShares.{may-touch}
use Rattle.poolsteps.proofs.SeatLemmas.{look_view, restocked_world, IsAt, Agrees, OthersStay, is-at, look-stands, stays-same}
use Rattle.poolsteps.proofs.SlotLemmas.{slot-is, slots-set, slot-apart}

-- the value that a slot has which is there; none where it isn't
abbrev value_there : {T : Type 0} → maybe.Option (maybe.Option (Option (Share T))) → Option (Share T)
value_there maybe.none = None
value_there (maybe.some maybe.none) = None
value_there (maybe.some (maybe.some value)) = value

module _ {T : Type 0} (content : T → List ℕ) (room : T → ℕ) (spots : ℕ → CellSpot) (z : Shape) (id : ℕ) (me : Me (Option (Share T)) View) (one : IsOne me.0)
    (place : ℕ) (inside : is_place z place ≡ true) (has : HasPlace z me.0 place) where
  abbrev r : LaneRecord
  r = the_lane me.0

  abbrev lane : ℕ
  lane = r.lane

  abbrev Homes : Type 0
  Homes = List (maybe.Option (Option (Share T)))

  -- at a moment at which the rule holds
  module _ (w : World) (homes : Homes) (words : List ℕ) (views : List View)
      (st : Stands content room spots z w homes words views) (at : get_elem? views id ≡ maybe.some me.0) where
    abbrev here : IsAt z w me.0
    here = is-at content room spots z id me one w homes words views st at

    still : (number : ℕ) → StillHas z me.0 w.history w.kept place number
    still number = still-has z me.0 w.history here.between w.kept here.rooms_between here.seen here.rooms here.paired here.others st.rule.legal place number
        (may-touch z me.0 place number has)

    -- the lane knows the cell
    knows : w.stock.stored place ≡ known_of r place
    knows = sym (here.record_is.cells place ∙ st.shared.owned lane place here.record_is.inside ((still 0).all has))

    -- some slots of the place were moved, and nothing else
    record Batch (stock : Stock) (now : LaneRecord) (homes_now : Homes) : Type 0 where
      deep : length homes_now ≡ slot_count z
      shared : Shared content room spots z w.history w.kept (slots_in z homes_now) stock
      lane_is : now.lane ≡ lane
      mine : now.mine ≡ r.mine
      under : now.under ≡ r.under
      pushed : now.pushed ≡ r.pushed
      chain : now.chain ≡ r.chain
      deeds : (p k : ℕ) → p ≢ place → status_of now p k ≡ status_of r p k
      cells : (p : ℕ) → p ≢ place → known_of now p ≡ known_of r p
      agrees : Agrees now w.lanes stock
      others : OthersStay lane w.lanes w.lanes w.stock stock

    none-moved : Batch w.stock r homes
    none-moved = record {
      deep = st.deep;
      shared = st.shared;
      lane_is = refl;
      mine = refl;
      under = refl;
      pushed = refl;
      chain = refl;
      deeds = λ p k other. refl;
      cells = λ p other. refl;
      agrees = record {
        under = here.record_is.under;
        pushed = here.record_is.pushed;
        chain = here.record_is.chain;
        deeds = here.record_is.deeds;
        cells = here.record_is.cells;
      };
      others = λ l other. stays-same l w.lanes w.stock;
    }

    -- one slot more
    module _ {q : Stock} {now : LaneRecord} {homes_now : Homes} (b : Batch q now homes_now) (number : ℕ) (below : number < (callers z)) (status : Status) (c : Stored)
        (value : maybe.Option (Option (Share T))) (cell : MayMove z w.history q lane place number c) (leaves : Leaves content room spots place z number c status (maybe.some value)) where
      abbrev stock : Stock
      stock = moved q lane place number status c

      abbrev then : LaneRecord
      then = moved_record now place number status c

      abbrev homes_then : Homes
      homes_then = slice_set homes_now (slot_index z place number) value

      shared-then : Shared content room spots z w.history w.kept (slots_in z homes_then) stock
      shared-then = subst (λ (slots : Slots T). Shared content room spots z w.history w.kept slots stock)
          (sym (slots-set z st.rule.limits homes_now b.deep place number inside below value))
          (move-law content room spots z w.history w.kept (slots_in z homes_now) q lane place number status c (maybe.some value)
          b.shared here.record_is.inside below (still number).may cell leaves)

      agrees-then : Agrees then w.lanes stock
      agrees-then = record {
        under = b.agrees.under;
        pushed = b.agrees.pushed;
        chain = b.agrees.chain;
        deeds = λ p k. ap (λ (x : Status). cond (eqb p place && eqb k number) status x) (b.agrees.deeds p k)
            ∙ sym (ap (λ (m : Bool). cond (m && (eqb p place && eqb k number)) status (q.status now.lane p k)) (eq-eqb now.lane lane b.lane_is));
        cells = λ p. ap (λ (x : Stored). cond (eqb p place) c x) (b.agrees.cells p)
            ∙ sym (ap (λ (m : Bool). cond (m && eqb p place) c (q.knows now.lane p)) (eq-eqb now.lane lane b.lane_is));
      }

      others-then : OthersStay lane w.lanes w.lanes w.stock stock
      others-then l other = let stay = b.others l other in record {
        under = stay.under;
        pushed = stay.pushed;
        chain = stay.chain;
        status = λ p k. ap (λ (m : Bool). cond m status (q.status l p k)) (and_left (eqb l lane) (eqb p place && eqb k number) (ne_eqb l lane other)) ∙ stay.status p k;
        knows = λ p. ap (λ (m : Bool). cond m c (q.knows l p)) (and_left (eqb l lane) (eqb p place) (ne_eqb l lane other)) ∙ stay.knows p;
      }

      one-moved : Batch stock then homes_then
      one-moved = record {
        deep = length-set homes_now (slot_index z place number) value ∙ b.deep;
        shared = shared-then;
        lane_is = b.lane_is;
        mine = b.mine;
        under = b.under;
        pushed = b.pushed;
        chain = b.chain;
        deeds = λ p k other. ap (λ (m : Bool). cond (m && eqb k number) status (status_of now p k)) (ne_eqb p place other) ∙ b.deeds p k other;
        cells = λ p other. ap (λ (m : Bool). cond m c (known_of now p)) (ne_eqb p place other) ∙ b.cells p other;
        agrees = agrees-then;
        others = others-then;
      }

      -- the place has that cell then
      stored-then : stock.stored place ≡ c
      stored-then = ap (λ (m : Bool). cond m c (q.stored place)) (eq-eqb place place refl)

    -- all slots of the place were moved, and are left so
    module _ (index : ℕ) (status : Status) (c : Stored) (q : Stock) (now : LaneRecord) (homes_now : Homes) (b : Batch q now homes_now)
        (each : (k : ℕ) → k < (callers z) → status_of now place k ≡ status) (known : known_of now place ≡ c) where
      abbrev view_now : View
      view_now = look_view me.0 now (restocked_world w q)

      batch-stands : Stands content room spots z (restocked_world w q) homes_now (slice_set words index (slice_index words index)) (slice_set views id view_now)
          × GoesOn z me.0 view_now [] [] now
      batch-stands = look-stands content room spots z id me one w homes words views st at index homes_now q now b.deep b.shared b.lane_is b.mine b.agrees b.others

      batch-goes : GoesAll z place status c 1 me.0 view_now
      batch-goes = record {
        goes = batch-stands.1;
        leaves = record {
          lane = b.lane_is;
          mine = b.mine;
          under = b.under;
          pushed = b.pushed;
          chain = b.chain;
          deeds = b.deeds;
          cells = b.cells;
          here = each;
          known = known;
        };
        steps = refl;
        looked = refl;
      }

    -- ---- taken
    module _ (order : ℕ → ℕ) (is : IsOrder z order) (status : Status) (left : (k : ℕ) → k < (callers z) → status_of r place k ≡ status) (aside : status ≢ InHand) where
      abbrev cell : Stored
      cell = w.stock.stored place

      abbrev values : ℕ → Option (Share T)
      values k = value_there (slots_in z homes place k)

      there : (k : ℕ) (below : k < (callers z)) → (slots_in z homes place k ≡ at_home (values k)) × Leaves content room spots place z k cell status (at_home (values k))
      there k below =
          let found = stands-there content room spots z id me one place k inside below (may-touch z me.0 place k has) w homes words views st at status (left k below) aside in
          let same : found.0 ≡ values k = sym (ap value_there found.1) in
          (found.1 ∙ ap at_home same, subst (λ (v : Option (Share T)). Leaves content room spots place z k cell status (at_home v)) same found.2)

      -- the first so many are taken
      record Taken (count : ℕ) : Type 0 where
        q : Stock
        now : LaneRecord
        homes_now : Homes
        act : Act (Option (Share T))
        batch : Batch q now homes_now
        valid : Valid homes [] act
        homes_are : homes_after homes [] act ≡ homes_now
        held_is : carried_after [] act ≡ held_of z place order values count
        stored_is : q.stored place ≡ cell
        in_hand : (j : ℕ) → j < count → status_of now place (order j) ≡ InHand
        same : (j : ℕ) → count ≤ j → j < (callers z) → get_elem? homes_now (slot_index z place (order j)) ≡ get_elem? homes (slot_index z place (order j))
        known : known_of now place ≡ known_of r place

      none-taken : Taken zero
      none-taken = record {
        q = w.stock;
        now = r;
        homes_now = homes;
        act = table.keeps;
        batch = none-moved;
        valid = tt;
        homes_are = refl;
        held_is = refl;
        stored_is = refl;
        in_hand = λ j less. absurd (omega arith);
        same = λ j least less. refl;
        known = refl;
      }

      one-taken : (count : ℕ) → count < (callers z) → Taken count → Taken (suc count)
      one-taken count below t =
          let k : ℕ = order count in
          let at : ℕ = slot_index z place k in
          let k_below : k < (callers z) = is.below count below in
          let slot = there k k_below in
          let there_now : get_elem? t.homes_now at ≡ maybe.some (maybe.some (values k)) =
          t.same count (omega arith) below ∙ (sym (slot-is z homes place k inside k_below) ∙ slot.0) in
          record {
            q = moved t.q lane place k InHand cell;
            now = moved_record t.now place k InHand cell;
            homes_now = slice_set t.homes_now at maybe.none;
            act = table.chain t.act (table.takes at (values k));
            batch = one-moved t.batch k k_below InHand cell maybe.none (inl (sym t.stored_is)) tt;
            valid = (t.valid, subst (λ (hs : Homes). get_elem? hs at ≡ maybe.some (maybe.some (values k))) (sym t.homes_are) there_now);
            homes_are = ap (λ (hs : Homes). slice_set hs at maybe.none) t.homes_are;
            held_is = ap (λ (held : List (ℕ × Option (Share T))). (at, values k) ∷ held) t.held_is;
            stored_is = stored-then t.batch k k_below InHand cell maybe.none (inl (sym t.stored_is)) tt;
            in_hand = λ j less. dite (ℕ_discrete j count)
                (λ (e : j ≡ count). subst (λ (n : ℕ). status_of (moved_record t.now place k InHand cell) place (order n) ≡ InHand) (sym e)
                (status-here t.now place k InHand cell))
                (λ (other : j ≢ count). status-beside t.now place k InHand cell (order j) (λ e. other (is.apart j count (omega arith) below e))
                ∙ t.in_hand j (omega (arith, other, less)));
            same = λ j least less.
                set_else t.homes_now at (slot_index z place (order j)) maybe.none
                (λ e. let bad = is.apart j count less below (slot-apart z st.rule.limits place (order j) place k inside inside e).1 in absurd (omega (arith, bad, least)))
                ∙ t.same j (omega (arith, least)) less;
            known = known-moved t.now place k InHand cell ∙ knows;
          }

      taken : (count : ℕ) → count ≤ (callers z) → Taken count
      taken zero most = none-taken
      taken (suc count) most = one-taken count (omega arith) (taken count (omega arith))

    -- ---- given back
    module _ (order : ℕ → ℕ) (is : IsOrder z order) (status : Status) (c : Stored) (values : ℕ → Option (Share T)) (held : List (ℕ × Option (Share T)))
        (held_are : held ≡ held_of z place order values (callers z)) (left : (k : ℕ) → k < (callers z) → status_of r place k ≡ InHand)
        (leaves : AreLeft content room spots place z status c values) where
      -- all but the first so many are given back
      record Given (count : ℕ) : Type 0 where
        q : Stock
        now : LaneRecord
        homes_now : Homes
        act : Act (Option (Share T))
        batch : Batch q now homes_now
        valid : Valid homes held act
        homes_are : homes_after homes held act ≡ homes_now
        held_is : carried_after held act ≡ held_of z place order values count
        may : (c ≡ q.stored place) ⊎ ((k : ℕ) → k < (callers z) → q.status lane place k ≡ InHand)
        given : (j : ℕ) → count ≤ j → j < (callers z) → status_of now place (order j) ≡ status
        known : count < (callers z) → known_of now place ≡ c

      none-given : Given (callers z)
      none-given = record {
        q = w.stock;
        now = r;
        homes_now = homes;
        act = table.keeps;
        batch = none-moved;
        valid = tt;
        homes_are = refl;
        held_is = held_are;
        may = inr (λ k less. sym (here.record_is.deeds place k) ∙ left k less);
        given = λ j least less. absurd (omega (arith, least, less));
        known = λ less. absurd (omega (arith, less));
      }

      one-given : (count : ℕ) → count < (callers z) → Given (suc count) → Given count
      one-given count below t =
          let k : ℕ = order count in
          let at : ℕ = slot_index z place k in
          let k_below : k < (callers z) = is.below count below in
          let value : maybe.Option (Option (Share T)) = maybe.some (values k) in
          let cell : MayMove z w.history t.q lane place k c = ⊎_elim (λ same. inl same) (λ all. inr ((still k).all has, λ j less other. inr (all j less))) t.may in
          record {
            q = moved t.q lane place k status c;
            now = moved_record t.now place k status c;
            homes_now = slice_set t.homes_now at value;
            act = table.chain t.act table.gives;
            batch = one-moved t.batch k k_below status c value cell (leaves k k_below);
            valid = (t.valid, tt);
            homes_are = ap (λ (hs : Homes). put_back hs (carried_after held t.act)) t.homes_are
                ∙ ap (put_back t.homes_now) t.held_is;
            held_is = ap rest t.held_is;
            may = inl (sym (stored-then t.batch k k_below status c value cell (leaves k k_below)));
            given = λ j least less. dite (ℕ_discrete j count)
                (λ (e : j ≡ count). subst (λ (n : ℕ). status_of (moved_record t.now place k status c) place (order n) ≡ status) (sym e)
                (status-here t.now place k status c))
                (λ (other : j ≢ count). status-beside t.now place k status c (order j) (λ e. other (is.apart j count less below e))
                ∙ t.given j (omega (arith, other, least)) less);
            known = λ less. known-moved t.now place k status c;
          }

      given : (count : ℕ) → count ≤ (callers z) → Given count → Given zero
      given zero most t = t
      given (suc count) most t = given count (omega arith) (one-given count (omega arith) t)

  -- a look at any word, at which all slots of the place are taken, as the lane left them
  pub lift-all-allows : (index : ℕ) (order : ℕ → ℕ) (status : Status) → IsOrder z order → ((k : ℕ) → k < (callers z) → status_of r place k ≡ status) → status ≢ InHand
      → me.1 ≡ [] → Allows (Kept content room spots z) (slot_count z) id me index (λ n. n) (λ found after. LiftsAll content room spots z place order status me after)
  lift-all-allows index order status is left aside bare s kept homes at small =
      let w : World = kept.0 in
      let st = kept.1 in
      let t = taken w s.homes s.words s.views st at order is status left aside (callers z) (omega arith) in
      let knows_it = knows w s.homes s.words s.views st at in
      let each : (k : ℕ) → k < (callers z) → status_of t.now place k ≡ InHand =
      λ k less. let found = is.all k less in subst (λ (n : ℕ). status_of t.now place n ≡ InHand) found.2 (t.in_hand found.0 found.1) in
      let e = batch-stands w s.homes s.words s.views st at index InHand (known_of r place) t.q t.now t.homes_now t.batch each t.known in
      let view : View = look_view me.0 t.now (restocked_world w t.q) in (
        view,
        t.act,
        subst (λ (held : List (ℕ × Option (Share T))). Valid s.homes held t.act) (sym bare) t.valid,
        (
          restocked_world w t.q,
          subst (λ (hs : Homes). Stands content room spots z (restocked_world w t.q) hs (slice_set s.words index (slice_index s.words index)) (slice_set s.views id view))
              (sym (ap (λ (held : List (ℕ × Option (Share T))). homes_after s.homes held t.act) bare ∙ t.homes_are)) e.0,
        ),
        record {
          values = λ k. value_there (slots_in z s.homes place k);
          are = λ k less. subst (λ (c : Stored). Leaves content room spots place z k c status (at_home (value_there (slots_in z s.homes place k)))) knows_it
              (there w s.homes s.words s.views st at order is status left aside k less).1;
          goes = batch-goes w s.homes s.words s.views st at index InHand (known_of r place) t.q t.now t.homes_now t.batch each t.known;
          held = ap (λ (held : List (ℕ × Option (Share T))). carried_after held t.act) bare ∙ t.held_is;
        },
      )

  -- and one at which they are given back
  pub lay-all-allows : (index : ℕ) (order : ℕ → ℕ) (status : Status) (c : Stored) (values : ℕ → Option (Share T)) → IsOrder z order → 0 < (callers z)
      → ((k : ℕ) → k < (callers z) → status_of r place k ≡ InHand) → AreLeft content room spots place z status c values → me.1 ≡ held_of z place order values (callers z)
      → Allows (Kept content room spots z) (slot_count z) id me index (λ n. n) (λ found after. LaysAll content room spots z place status c me after)
  lay-all-allows index order status c values is some left leaves held s kept homes at small =
      let w : World = kept.0 in
      let st = kept.1 in
      let t = given w s.homes s.words s.views st at order is status c values me.1 held left leaves (callers z) (omega arith)
      (none-given w s.homes s.words s.views st at order is status c values me.1 held left leaves) in
      let each : (k : ℕ) → k < (callers z) → status_of t.now place k ≡ status =
      λ k less. let found = is.all k less in subst (λ (n : ℕ). status_of t.now place n ≡ status) found.2 (t.given found.0 (omega arith) found.1) in
      let e = batch-stands w s.homes s.words s.views st at index status c t.q t.now t.homes_now t.batch each (t.known some) in
      let view : View = look_view me.0 t.now (restocked_world w t.q) in (
        view,
        t.act,
        t.valid,
        (
          restocked_world w t.q,
          subst (λ (hs : Homes). Stands content room spots z (restocked_world w t.q) hs (slice_set s.words index (slice_index s.words index)) (slice_set s.views id view))
              (sym t.homes_are) e.0,
        ),
        record {
          goes = batch-goes w s.homes s.words s.views st at index status c t.q t.now t.homes_now t.batch each (t.known some);
          held = t.held_is;
        },
      )
