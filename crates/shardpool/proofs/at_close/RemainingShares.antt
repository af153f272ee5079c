-- What the slots of a closed pool have, when all shares are back: each published place its shares, and each place that is home or on a taken chain its cell.
use Rattle.std.proofs.lemmas.Bool.{cases_lt}
use Rattle.std.proofs.Common.{◌≡◌, ◌≤◌, ⊎_elim, ℕ, zero, suc, ◌<◌, Bool, true, false, cond, eqb, List, [], ◌∷◌, length, refl, sym, ap, ◌∙◌, subst, arith, eq-eqb}
use Rattle.std.specs.Prelude.{Option, Some, slice_get}
use Rattle.std.proofs.lemmas.Option.{slice_get_within}
use mathlib.Core.Logic.{dite}
use native.Mathlib.Decide.{ℕ_discrete}
use mathlib.Core.Option as maybe
use mathlib.Core.Option.{some-injective, some-ne-none}
use lib.ListN.{get_elem?}
use Rattle.atomic_table.specs.Seated.{TableId}
use Rattle.core.specs.declared.slots.Slots.{Slots}
use Rattle.core.specs.Mem.Slots.{slots_items}
use Rattle.keybits.specs.declared.shape.Shape.{Shape}
use Rattle.keybits.specs.Keys.{place_of, generation_of}
use Rattle.keybits.specs.Places.{shard_of}
use Rattle.keybits.specs.Shapes.{callers, IsShape, is_place}
use Rattle.keybits.proofs.ShapeLemmas.{is_place-parts}
use Rattle.seqpool.specs.Pool.{Phase, with, published, home, retired, has, references_in, is_current, references, pool_after}
use Rattle.steplaws.specs.Facts.{Words, Rule, moment, is_home}
use Rattle.poolsteps.specs.declared.view.Stored.{Stored}
use Rattle.poolsteps.specs.declared.view.Status.TheVariants.{Untouched, Emptied, Whole}
use Rattle.poolsteps.specs.Shares.{at_rest, Slots as Cells, HasShare, StandsAs, RestsAs, MayHave, reclaimer, Shared}
use Rattle.poolsteps.proofs.shares.Cases.{untouched-is}
use denote.RawPtr.{Ptr}
use Rattle.poolsteps.specs.Share.{Share}
use Rattle.poolsteps.specs.Spot.{Spot as CellSpot}
use Rattle.poolsteps.specs.Views.{the_lane, known_of}
use Rattle.poolsteps.specs.Layout.{slot_start, slot_index, slots_in, spots_at}
use Rattle.poolsteps.specs.Rule.{World}
use Rattle.poolsteps.proofs.SlotLemmas.{in-row, slot-is, slot-apart}
use Rattle.poolsteps.specs.Joins.{HasPart, IsSpread, IsResting}
use Rattle.shardpool.specs.HeldKeys.{HeldKey}
use Rattle.shardpool.specs.declared.pool.LaneState.{LaneState}
use Rattle.shardpool.specs.LaneStates.{FitsRow}
use Rattle.shardpool.specs.Tokens.{LaneOf}
use Rattle.shardpool.specs.Closings.{AreAllLanes}
use Rattle.shardpool.specs.Remains.{MayHandBack, HandsBack, HasCells}
use Rattle.shardpool.proofs.count.Rounds.{same-index}
use Rattle.shardpool.proofs.at_close.GoneGuests.{phase-at, key-at, key-is, refs-here, AreGone}
use Rattle.shardpool.proofs.at_close.LaneParts.{still-refs, lane-last, own-mine}
use Rattle.shardpool.proofs.at_close.LastHistory.{IsEnded, entry-at}
use Rattle.seatcalls.specs.Left.{has_retired}
use Rattle.seatcalls.proofs.parts.RetiredPlaces.{retired-by-one}
use Rattle.seqpool.specs.declared.act.Act.{Act}
use Rattle.seqpool.specs.Histories.{acts_of}

-- ---- phases and numbers

referred-published : (phase : Phase) (lane : ℕ) → 0 < references_in phase lane → (content : List ℕ) × (references : ℕ → ℕ) × (mark : Bool) × (phase ≡ published content references mark)
referred-published (with k) lane some = absurd (omega (arith, some))
referred-published (published content references mark) lane some = (content, references, mark, refl)
referred-published home lane some = absurd (omega (arith, some))
referred-published retired lane some = absurd (omega (arith, some))

count-zero : (b : Bool) (n : ℕ) → n ≡ 0 → cond b n 0 ≡ 0
count-zero true n none = none
count-zero false n none = refl

current-some : (b : Bool) (n : ℕ) → 0 < cond b n 0 → 0 < n
current-some true n some = some
current-some false n some = absurd (omega (arith, some))

found-at : {X : Type 0} (xs : List X) (i : ℕ) (x : X) → get_elem? xs i ≡ maybe.some x → slice_get xs i ≡ Some x
found-at [] i x at = absurd (some-ne-none x (sym at))
found-at (y ∷ ys) zero x at = ap Some (some-injective y x at)
found-at (y ∷ ys) (suc i) x at = found-at ys i x at

-- ---- one lane and a place

-- nobody touched the slot of a caller without references
left-alone : {T : Type 0} {content : T → List ℕ} {room : T → ℕ} {spots : ℕ → CellSpot} {slots : Cells T} (z : Shape) (w : World) (place : ℕ) → is_place z place ≡ true
    → Shared content room spots z w.history w.kept slots w.stock → (bytes : List ℕ) (references : ℕ → ℕ) (mark : Bool) → phase-at z w place ≡ published bytes references mark
    → (number : ℕ) → number < callers z → references_in (phase-at z w place) number ≡ 0
    → HasShare content room spots slots place number (w.stock.stored place) number (callers z)
left-alone {T} {content} {room} {spots} {slots} z w place inside shared bytes references mark is number own_low zero_refs =
    subst (StandsAs content room spots z slots place number (w.stock.stored place)) (ap is_home is)
    (shared.untouched place number inside own_low (λ l low. untouched-is (w.stock.status l place number)
    (λ touched.
    let may = subst (MayHave (reclaimer w.history place) l number) is (shared.touched l place number low own_low touched).0 in
    let refs : references_in (phase-at z w place) number ≡ references l = ap (λ (f : Phase). references_in f number) is ∙ ap references may.0 in
    let some = may.1 in
    absurd (omega (arith, refs, zero_refs, some)))))

module _ {T : Type 0} {content : T → List ℕ} {room : T → ℕ} {z : Shape} {w : World} {words : Words} (rule : Rule z (moment words w.history w.lanes))
    (place : ℕ) (inside : is_place z place ≡ true) where
  module _ {lane : LaneOf} {s : LaneState T} (e : IsEnded content room z w lane s) (row : HeldKey T) (stands : slice_get s.rows.items (slot_start z place) ≡ Some row) where
    fit : FitsRow content room z lane.book place row
    fit = e.fits.rows.each place row inside stands

    -- a row without references: the lane has none
    none-referred : row.count ≡ 0 → references_in (phase-at z w place) s.number ≡ 0
    none-referred none =
        let k = key-is w rule place inside in
        ap (references_in (phase-at z w place)) e.fits.seat.number_is
        ∙ (sym (refs-here w rule place inside (the_lane lane.book).lane) ∙ (still-refs rule lane.table e.fits e.seen e.record_is (key-at z w place)
        ∙ (fit.counts (key-at z w place) k.0 k.1 ∙ count-zero (eqb (generation_of (key-at z w place)) row.generation) row.count none)))

    -- a row with references: the place is published
    some-referred : 0 < row.count → 0 < references_in (phase-at z w place) s.number
    some-referred some =
        let k = fit.keyed some in
        let counted = fit.counts k.0 k.1 k.2 ∙ ap (λ (b : Bool). cond b row.count 0) (eq-eqb (generation_of k.0) row.generation k.3) in
        let still = still-refs rule lane.table e.fits e.seen e.record_is k.0 in
        let there = current-some (is_current z (pool_after z w.history) k.0) (references_in (pool_after z w.history (place_of k.0)).phase (the_lane lane.book).lane)
        (subst (λ (n : ℕ). 0 < n) (sym (still ∙ counted)) some) in
        subst (λ (p : ℕ). 0 < references_in (pool_after z w.history p).phase s.number) k.2
        (subst (λ (l : ℕ). 0 < references_in (pool_after z w.history (place_of k.0)).phase l) (sym e.fits.seat.number_is) there)

    module _ {spots : ℕ → CellSpot} {slots : Cells T} (shared : Shared content room spots z w.history w.kept slots w.stock) where
      -- the cell of the place
      abbrev stored : Stored
      stored = w.stock.stored place

      -- the share under the references is one of the cell
      share-of-cell : (some : 0 < row.count) → (s' : Share T) × (row.share ≡ Some s') × (s'.cell ≡ stored.cell) × (s'.spot ≡ spots_at s.objects.directory z place) × (s'.number ≡ s.number) × (s'.of ≡ callers z)
      share-of-cell some =
          let h = fit.held some in
          let held = h.2 in
          let l : ℕ = (the_lane lane.book).lane in
          let mine_low = e.fits.seat.below in
          let low : l < callers z = subst (λ (n : ℕ). n < callers z) e.fits.seat.number_is (omega (arith, mine_low)) in
          let status : w.stock.status l place l ≡ Emptied = sym (e.record_is.deeds place l) ∙ held.emptied in
          let knows = (shared.touched l place l low low (λ none. let bad : Emptied ≡ Untouched = sym status ∙ none in cc bad)).1 in
          let known : known_of (the_lane lane.book) place ≡ stored = e.record_is.cells place ∙ knows in
          (h.0, h.1, ap (λ (c : Stored). c.cell) (sym held.known ∙ known), e.fits.standing (slot_start z place) row h.0 stands h.1, held.number_is ∙ sym e.fits.seat.number_is, held.of_is)

-- ---- all lanes

module _ {T : Type 0} {content : T → List ℕ} {room : T → ℕ} {z : Shape} {w : World} {words : Words} (rule : Rule z (moment words w.history w.lanes))
    (table : TableId) (directory : Ptr) (lanes : List LaneOf) (states : List (LaneState T)) (are : AreAllLanes (record { table = table; directory = directory; shape = z }) lanes)
    (wide : length states ≡ length lanes)
    (each : (index : ℕ) (lane : LaneOf) (s : LaneState T) → slice_get lanes index ≡ Some lane → slice_get states index ≡ Some s → IsEnded content room z w lane s)
    (gone : AreGone z w) where
  -- the lane of a state
  lane-of : (index : ℕ) (s : LaneState T) → slice_get states index ≡ Some s → (lane : LaneOf) × (slice_get lanes index ≡ Some lane) × IsEnded content room z w lane s
  lane-of index s at =
      let low = slice_get_within states index s at in
      let there = entry-at lanes index (omega (arith, low, wide)) in
      (there.0, there.1, each index there.0 s there.1 at)

  -- it keeps the pool's directory
  its-directory : (index : ℕ) (s : LaneState T) → slice_get states index ≡ Some s → s.objects.directory ≡ directory
  its-directory index s at = let l = lane-of index s at in sym (ap (λ (x : LaneOf). x.directory) l.2.lane_is) ∙ (are.owned index l.0 l.1).2

  -- the state of a number
  state-of-number : (number : ℕ) → number < z.lanes
      → (index : ℕ) × (lane : LaneOf) × (s : LaneState T) × (slice_get states index ≡ Some s) × IsEnded content room z w lane s × (s.number ≡ number)
  state-of-number number low =
      let there = are.all number low in
      let within = slice_get_within lanes there.0 there.1 there.2 in
      let state = entry-at states there.0 (omega (arith, within, wide)) in
      let e = each there.0 there.1 state.0 there.2 state.1 in
      (there.0, there.1, state.0, state.1, e, sym (ap (λ (x : LaneOf). x.number) e.lane_is) ∙ there.3)

  pub may-hand-back : MayHandBack z states
  may-hand-back = record {
    below = λ i s at. (lane-of i s at).2.fits.seat.below;
    wide = λ i s at. (lane-of i s at).2.fits.rows.wide;
    once = λ i j one other at_i at_j same.
        let a = lane-of i one at_i in
        let b = lane-of j other at_j in
        let a_is = ap (λ (x : LaneOf). x.number) a.2.lane_is in
        let b_is = ap (λ (x : LaneOf). x.number) b.2.lane_is in
        same-index lanes z.lanes are.count (λ number low. let l = are.all number low in (l.0, (l.1, l.2, l.3))) i j a.0 b.0 a.1 b.1 (a_is ∙ (same ∙ sym b_is)) (subst (λ (n : ℕ). n < z.lanes) (sym a_is) a.2.fits.seat.below);
  }

  module _ (ok : IsShape z) (homes : List (maybe.Option (Option (Share T)))) {old new : Slots (Option (Share T))} (shared : Shared content room (spots_at directory z) z w.history w.kept (slots_in z homes) w.stock)
      (stood : (index : ℕ) (value : Option (Share T)) → get_elem? homes index ≡ maybe.some (maybe.some value) → get_elem? (slots_items old) index ≡ maybe.some value)
      (hands : HandsBack z states old new) where
    module _ (place : ℕ) (inside : is_place z place ≡ true) where
      -- the slot of a lane without references stays
      slot-stays : (number : ℕ) → references_in (phase-at z w place) number ≡ 0
          → slice_get (slots_items new) (slot_index z place number) ≡ slice_get (slots_items old) (slot_index z place number)
      slot-stays number none = hands.kept (slot_index z place number) (λ j other at q q_inside row there some same.
          let l = lane-of j other at in
          let both = slot-apart z ok place number q other.number inside q_inside same in
          let refs = some-referred rule place inside l.2 row (ap (λ (p : ℕ). slice_get other.rows.items (slot_start z p)) both.0 ∙ there) some in
          let zero_refs = subst (λ (n : ℕ). references_in (phase-at z w place) n ≡ 0) both.1 none in
          absurd (omega (arith, refs, zero_refs)))

      -- what a slot had, it still has
      part-now : (number label of : ℕ) → number < callers z → references_in (phase-at z w place) number ≡ 0 → HasShare content room (spots_at directory z) (slots_in z homes) place number (w.stock.stored place) label of
          → HasPart (slots_items new) (slot_index z place number) (spots_at directory z place) (w.stock.stored place).cell label of
      part-now number label of low none has =
          let share : Share T = has.0 in
          let home_is = sym (slot-is z homes place number inside low) ∙ has.1 in
          record {
            share = share;
            stands = slot-stays number none ∙ found-at (slots_items old) (slot_index z place number) (Some share) (stood (slot_index z place number) (Some share) home_is);
            cell_is = has.2.cell;
            spot_is = has.2.spot_is;
            number_is = has.2.number_is;
            of_is = has.2.of_is;
          }

      -- so has the slot of a lane, which may have had a reference
      of-lane : (bytes : List ℕ) (references : ℕ → ℕ) (mark : Bool) → phase-at z w place ≡ published bytes references mark → (number : ℕ) → number < z.lanes
          → HasPart (slots_items new) (slot_index z place number) (spots_at directory z place) (w.stock.stored place).cell number (callers z)
      of-lane bytes references mark is number lane =
          let f = state-of-number number lane in
          let s : LaneState T = f.2 in
          let e = f.4 in
          let p_low = in-row z place inside in
          let rows_wide = e.fits.rows.wide in
          let row = entry-at s.rows.items (slot_start z place) (omega (arith, p_low, rows_wide)) in
          let own_low : s.number < callers z = let below = e.fits.seat.below in omega (arith, below) in
          subst (λ (n : ℕ). HasPart (slots_items new) (slot_index z place n) (spots_at directory z place) (w.stock.stored place).cell n (callers z)) f.5
          (dite (ℕ_discrete row.0.count 0)
          (λ none. let unheld = none-referred rule place inside e row.0 row.1 none in
          part-now s.number s.number (callers z) own_low unheld (left-alone z w place inside shared bytes references mark is s.number own_low unheld))
          (λ some.
          let more : 0 < row.0.count = omega (arith, some) in
          let h = share-of-cell rule place inside e row.0 row.1 shared more in
          record {
            share = h.0;
            stands = hands.back f.0 s f.3 place inside row.0 h.0 row.1 more h.1;
            cell_is = h.2;
            spot_is = h.3 ∙ ap (λ (p : Ptr). spots_at p z place) (its-directory f.0 s f.3);
            number_is = h.4;
            of_is = h.5;
          }))

      -- a published place has the share of each caller
      spread-now : (bytes : List ℕ) (references : ℕ → ℕ) (mark : Bool) → phase-at z w place ≡ published bytes references mark → IsSpread (spots_at directory z) z (slots_items new) place
      spread-now bytes references mark is = record {
        cell = (w.stock.stored place).cell;
        each = λ number low. ⊎_elim
            (λ (lane : number < z.lanes). of-lane bytes references mark is number lane)
            (λ (guest : z.lanes ≤ number).
            let none = (gone number guest low).bare place inside in
            part-now number number (callers z) low none (left-alone z w place inside shared bytes references mark is number low none))
            (cases_lt number z.lanes);
      }

      shard-low : shard_of place < callers z
      shard-low = let low = (is_place-parts z place inside).0 in omega (arith, low)

      rest-whole : at_rest place (shard_of place) ≡ Whole
      rest-whole = ap (λ (b : Bool). cond b Whole Emptied) (eq-eqb (shard_of place) (shard_of place) refl)

      -- a home place has its cell in its shard's slot
      home-now : phase-at z w place ≡ home → IsResting (spots_at directory z) z (slots_items new) place
      home-now is =
          let stands = subst (StandsAs content room (spots_at directory z) z (slots_in z homes) place (shard_of place) (w.stock.stored place)) (ap is_home is)
          (shared.untouched place (shard_of place) inside shard-low (λ l low. untouched-is (w.stock.status l place (shard_of place))
          (λ touched. absurd (subst (MayHave (reclaimer w.history place) l (shard_of place)) is (shared.touched l place (shard_of place) low shard-low touched).0)))) in
          let rests = subst (RestsAs content room (spots_at directory z) (slots_in z homes) place (shard_of place) (w.stock.stored place)) (eq-eqb (shard_of place) (shard_of place) refl) stands in
          record { cell = (w.stock.stored place).cell; part = part-now (shard_of place) 0 1 shard-low (ap (λ (f : Phase). references_in f (shard_of place)) is) rests }

      -- a lane that retired the place left it at rest
      lane-rests : (number : ℕ) → number < z.lanes → has_retired z place (acts_of number w.history) false ≡ true → w.stock.status number place (shard_of place) ≡ Whole
      lane-rests number low retires_it =
          let f = state-of-number number low in
          let lane : LaneOf = f.1 in
          let e = f.4 in
          let l : ℕ = (the_lane lane.book).lane in
          let mine : has_retired z place (the_lane lane.book).mine false ≡ true
          = ap (λ (xs : List Act). has_retired z place xs false) (own-mine rule lane.table e.fits e.seen e.record_is)
          ∙ (ap (λ (n : ℕ). has_retired z place (acts_of n w.history) false) f.5 ∙ retires_it) in
          let at : l ≡ number = sym e.fits.seat.number_is ∙ f.5 in
          ap (λ (n : ℕ). w.stock.status n place (shard_of place)) (sym at)
          ∙ (sym (e.record_is.deeds place (shard_of place))
          ∙ (e.fits.seat.retires place inside mine (shard_of place) shard-low ∙ rest-whole))

      -- so has a retired one, which somebody left so
      retired-now : phase-at z w place ≡ retired → IsResting (spots_at directory z) z (slots_items new) place
      retired-now is =
          let one = retired-by-one z w.history place rule.legal is in
          let status : w.stock.status one.0 place (shard_of place) ≡ Whole = ⊎_elim
          (λ (lane : one.0 < z.lanes). lane-rests one.0 lane one.2)
          (λ (guest : z.lanes ≤ one.0). (gone one.0 guest one.1).retires place inside one.2 (shard_of place) shard-low ∙ rest-whole)
          (cases_lt one.0 z.lanes) in
          record {
            cell = (w.stock.stored place).cell;
            part = part-now (shard_of place) 0 1 shard-low (ap (λ (f : Phase). references_in f (shard_of place)) is) (shared.whole one.0 place (shard_of place) one.1 inside shard-low status);
          }

      -- and so has one of a taken chain
      chained-now : (index : ℕ) (lane : LaneOf) → slice_get lanes index ≡ Some lane → has (the_lane lane.book).chain place ≡ true → IsResting (spots_at directory z) z (slots_items new) place
      chained-now index lane at among =
          let within = slice_get_within lanes index lane at in
          let state = entry-at states index (omega (arith, within, wide)) in
          let e = each index lane state.0 at state.1 in
          let l : ℕ = (the_lane lane.book).lane in
          let mine_low = e.fits.seat.below in
          let low : l < callers z = subst (λ (n : ℕ). n < callers z) e.fits.seat.number_is (omega (arith, mine_low)) in
          let rests = (e.fits.stores.chained place among).0 in
          let kept = (lane-last rule lane.table e.fits e.seen e.record_is e.free).chained place among in
          let status : w.stock.status l place (shard_of place) ≡ Whole =
          sym (e.record_is.deeds place (shard_of place)) ∙ (rests.rests (shard_of place) shard-low ∙ ap (λ (b : Bool). cond b Whole Emptied) (eq-eqb (shard_of place) (shard_of place) refl)) in
          record {
            cell = (w.stock.stored place).cell;
            part = part-now (shard_of place) 0 1 shard-low (ap (λ (f : Phase). references_in f (shard_of place)) kept.with_lane) (shared.whole l place (shard_of place) low inside shard-low status);
          }

    pub has-cells : HasCells (spots_at directory z) z w.history lanes (slots_items new)
    has-cells = record {
      spread = spread-now;
      returned = home-now;
      retires = retired-now;
      taken = λ index lane place inside at among. chained-now place inside index lane at among;
    }
