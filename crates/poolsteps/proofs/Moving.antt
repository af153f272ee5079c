-- The two looks of a move, through the table: one takes a slot, and one gives it back.
use Rattle.poolsteps.specs.Spot.{Spot as CellSpot}
use Rattle.std.proofs.Common.{◌≡◌, ◌≢◌, inl, inr, ⊎_elim, ℕ, ◌<◌, Bool, true, false, cond, eqb, ◌&&◌, List, ◌∷◌, [], length-set, slice_index, slice_set, Option, Some, None, refl, ap, sym, ◌∙◌, subst, eq-eqb, ne_eqb}
use Rattle.std.proofs.lemmas.Bool.{and_left}
use mathlib.Core.Logic.{dite}
use mathlib.Core.Option as maybe
use native.Mathlib.Decide.{ℕ_discrete}
use lib.ListN.{get_elem?}
use Rattle.atomic_table.specs.Table as table
use Rattle.atomic_table.specs.Table.{Me, put_back, rest, Allows}
use Rattle.keybits.specs.declared.shape.Shape.{Shape}
use Rattle.keybits.specs.Shapes.{callers, is_place}
use Rattle.seqpool.specs.Pool.{Phase, pool_after}
use Rattle.poolsteps.specs.Share.{Share}
use Rattle.steplaws.specs.Facts.{is_home}
use Rattle.poolsteps.specs.declared.view.Stored.{Stored}
use Rattle.poolsteps.specs.declared.view.Status.{Status}
use Rattle.poolsteps.specs.declared.view.Status.TheVariants.{Untouched, Emptied, InHand, Whole}
use Rattle.poolsteps.specs.Shares.{reclaimer, Slots, Stock, at_home, StandsAs, Shared, moved}
use Rattle.poolsteps.specs.ShareLaws.{Leaves, MayMove}
use Rattle.poolsteps.proofs.shares.Cases.{untouched-is}
use Rattle.poolsteps.proofs.shares.Holders.{one-holder, may-away}
use Rattle.poolsteps.proofs.shares.Moving.{move-law}
use Rattle.poolsteps.specs.declared.view.LaneRecord.{LaneRecord}
use Rattle.poolsteps.specs.declared.view.View.{View}
use Rattle.poolsteps.specs.Layout.{slot_count, slot_index, slots_in}
use Rattle.poolsteps.specs.Views.{the_lane, status_of, known_of, IsOne}
use Rattle.poolsteps.specs.Rule.{World, Stands, Kept}
use Rattle.poolsteps.specs.Told.{GoesOn, MayTouch, HasPlace}
use Rattle.poolsteps.specs.Moved.{moved_record, MayStore, Lifts, Lays}
use Rattle.poolsteps.proofs.Keeping.{StillHas, still-has}
use Rattle.poolsteps.proofs.SeatLemmas.{look_view, restocked_world, IsAt, Agrees, OthersStay, is-at, look-stands}
use Rattle.poolsteps.proofs.SlotLemmas.{slot-is, slots-set}

module _ {T : Type 0} (content : T → List ℕ) (room : T → ℕ) (spots : ℕ → CellSpot) (z : Shape) (id : ℕ) (me : Me (Option (Share T)) View) (one : IsOne me.0)
    (place number : ℕ) (inside : is_place z place ≡ true) (below : number < (callers z)) (may : MayTouch z me.0 place number) where
  abbrev r : LaneRecord
  r = the_lane me.0

  abbrev lane : ℕ
  lane = r.lane

  abbrev slot : ℕ
  slot = slot_index z place number

  -- at a moment at which the rule holds
  module _ (w : World) (homes : List (maybe.Option (Option (Share T)))) (words : List ℕ) (views : List View)
      (st : Stands content room spots z w homes words views) (at : get_elem? views id ≡ maybe.some me.0) where
    abbrev q : Stock
    q = w.stock

    abbrev here : IsAt z w me.0
    here = is-at content room spots z id me one w homes words views st at

    abbrev still : StillHas z me.0 w.history w.kept place number
    still = still-has z me.0 w.history here.between w.kept here.rooms_between here.seen here.rooms here.paired here.others st.rule.legal place number may

    abbrev phase : Phase
    phase = (pool_after z w.history place).phase

    -- no other lane touched the slot
    none-touched : status_of r place number ≡ Untouched → (l : ℕ) → l < (callers z) → q.status l place number ≡ Untouched
    none-touched alone l less = dite (ℕ_discrete l lane)
        (λ e. ap (λ (m : ℕ). q.status m place number) e ∙ (sym (here.record_is.deeds place number) ∙ alone))
        (λ other. untouched-is (q.status l place number)
        (λ some. other (one-holder (reclaimer w.history place) l lane number phase (st.shared.touched l place number less below some).0 still.may)))

    -- what stands in the slot, as the lane left it
    pub stands-there : (status : Status) → status_of r place number ≡ status → status ≢ InHand
        → (value : Option (Share T)) × (slots_in z homes place number ≡ at_home value) × Leaves content room spots place z number (q.stored place) status (at_home value)
    stands-there Untouched left aside =
        let old : StandsAs content room spots z (slots_in z homes) place number (q.stored place) (is_home phase) = st.shared.untouched place number inside below (none-touched left) in
        let has : StandsAs content room spots z (slots_in z homes) place number (q.stored place) false =
        subst (StandsAs content room spots z (slots_in z homes) place number (q.stored place)) (may-away (reclaimer w.history place) lane number phase still.may) old in
        (Some has.0, has.1, (has.0, refl, has.2))
    stands-there Emptied left aside =
        (None, st.shared.emptied lane place number here.record_is.inside inside below (sym (here.record_is.deeds place number) ∙ left), refl)
    stands-there InHand left aside = absurd (aside refl)
    stands-there Whole left aside =
        let has = st.shared.whole lane place number here.record_is.inside inside below (sym (here.record_is.deeds place number) ∙ left) in
        (Some has.0, has.1, (has.0, refl, has.2))

    -- the lane knows the cell where it touched the slot
    knows : status_of r place number ≢ Untouched → q.stored place ≡ known_of r place
    knows some = sym (here.record_is.cells place
        ∙ (st.shared.touched lane place number here.record_is.inside below (λ e. some (here.record_is.deeds place number ∙ e))).1)

    -- the lane moves the slot
    module _ (index : ℕ) (status : Status) (c : Stored) (value : maybe.Option (Option (Share T)))
        (cell : MayMove z w.history q lane place number c) (leaves : Leaves content room spots place z number c status (maybe.some value)) where
      abbrev stock : Stock
      stock = moved q lane place number status c

      abbrev now : LaneRecord
      now = moved_record r place number status c

      abbrev homes_now : List (maybe.Option (Option (Share T)))
      homes_now = slice_set homes slot value

      shared-now : Shared content room spots z w.history w.kept (slots_in z homes_now) stock
      shared-now = subst (λ (slots : Slots T). Shared content room spots z w.history w.kept slots stock) (sym (slots-set z st.rule.limits homes st.deep place number inside below value))
          (move-law content room spots z w.history w.kept (slots_in z homes) q lane place number status c (maybe.some value)
          st.shared here.record_is.inside below still.may cell leaves)

      agrees-then : Agrees now w.lanes stock
      agrees-then = record {
        under = here.record_is.under;
        pushed = here.record_is.pushed;
        chain = here.record_is.chain;
        deeds = λ p k. ap (λ (x : Status). cond (eqb p place && eqb k number) status x) (here.record_is.deeds p k)
            ∙ sym (ap (λ (b : Bool). cond (b && (eqb p place && eqb k number)) status (q.status lane p k)) (eq-eqb lane lane refl));
        cells = λ p. ap (λ (x : Stored). cond (eqb p place) c x) (here.record_is.cells p)
            ∙ sym (ap (λ (b : Bool). cond (b && eqb p place) c (q.knows lane p)) (eq-eqb lane lane refl));
      }

      others-stay : OthersStay lane w.lanes w.lanes q stock
      others-stay l other = record {
        under = refl;
        pushed = λ shard. refl;
        chain = refl;
        status = λ p k. ap (λ (b : Bool). cond b status (q.status l p k)) (and_left (eqb l lane) (eqb p place && eqb k number) (ne_eqb l lane other));
        knows = λ p. ap (λ (b : Bool). cond b c (q.knows l p)) (and_left (eqb l lane) (eqb p place) (ne_eqb l lane other));
      }

      pub move-stands : Stands content room spots z (restocked_world w stock) homes_now (slice_set words index (slice_index words index))
          (slice_set views id (look_view me.0 now (restocked_world w stock)))
          × GoesOn z me.0 (look_view me.0 now (restocked_world w stock)) [] [] now
      move-stands = look-stands content room spots z id me one w homes words views st at index homes_now stock now (length-set homes slot value ∙ st.deep) shared-now refl refl
          agrees-then others-stay

  -- a look at any word, at which the slot is taken as the lane left it
  pub lift-allows : (index : ℕ) (status : Status) → status_of r place number ≡ status → status ≢ InHand
      → Allows (Kept content room spots z) (slot_count z) id me index (λ n. n) (λ found after. Lifts content room spots z place number status me after)
  lift-allows index status left aside s kept homes at small =
      let w : World = kept.0 in
      let st = kept.1 in
      let c : Stored = w.stock.stored place in
      let there = stands-there w s.homes s.words s.views st at status left aside in
      let value : Option (Share T) = there.0 in
      let is = here w s.homes s.words s.views st at in
      let has = still w s.homes s.words s.views st at in
      let e = move-stands w s.homes s.words s.views st at index InHand c maybe.none (inl refl) tt in
      let n : World = restocked_world w (moved w.stock lane place number InHand c) in (
        look_view me.0 (moved_record r place number InHand c) n,
        table.takes slot value,
        sym (slot-is z s.homes place number inside below) ∙ there.1,
        (n, e.0),
        record {
          c = c;
          value = value;
          leaves = there.2;
          goes = e.1;
          held = refl;
          kept = st.shared.contents place;
          known = ⊎_elim
              (λ (all : HasPlace z me.0 place). sym (is.record_is.cells place ∙ st.shared.owned lane place is.record_is.inside (has.all all)))
              (λ (some : status ≢ Untouched). knows w s.homes s.words s.views st at (λ alone. some (sym left ∙ alone)));
          steps = refl;
          looks = refl;
        },
      )

  -- and one at which the slot that was taken last is given back
  pub lay-allows : (index : ℕ) (status : Status) (c : Stored) (value : Option (Share T)) → status_of r place number ≡ InHand
      → me.1 ≡ (slot, value) ∷ rest me.1 → Leaves content room spots place z number c status (at_home value) → MayStore z me.0 place number c
      → Allows (Kept content room spots z) (slot_count z) id me index (λ n. n) (λ found after. Lays content room spots z place number status c me after)
  lay-allows index status c value left held leaves store s kept homes at small =
      let w : World = kept.0 in
      let st = kept.1 in
      let is = here w s.homes s.words s.views st at in
      let has = still w s.homes s.words s.views st at in
      let cell : MayMove z w.history w.stock lane place number c = ⊎_elim
      (λ (same : c ≡ known_of r place). inl (same ∙ sym (knows w s.homes s.words s.views st at (λ bad. let no : InHand ≡ Untouched = sym left ∙ bad in cc no))))
      (λ new. inr (
        has.all new.0,
        λ k less other. ⊎_elim
            (λ (empty : status_of r place k ≡ Emptied). inl (sym (is.record_is.deeds place k) ∙ empty))
            (λ (hand : status_of r place k ≡ InHand). inr (sym (is.record_is.deeds place k) ∙ hand))
            (new.1 k less other),
      ))
      store in
      let e = move-stands w s.homes s.words s.views st at index status c (maybe.some value) cell leaves in
      let n : World = restocked_world w (moved w.stock lane place number status c) in
      let view : View = look_view me.0 (moved_record r place number status c) n in (
        view,
        table.gives,
        tt,
        (
          n,
          subst (λ (hs : List (maybe.Option (Option (Share T)))). Stands content room spots z n hs (slice_set s.words index (slice_index s.words index)) (slice_set s.views id view))
              (sym (ap (put_back s.homes) held)) e.0,
        ),
        record { goes = e.1; held = refl; steps = refl; looks = refl },
      )
