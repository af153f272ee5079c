-- The shares under references go back into their slots when a pool is closed.
use Rattle.std.proofs.Common.{◌≡◌, ◌≢◌, ℕ, ◌+◌, ◌<◌, true, List, [], ◌∷◌, ◌++◌, length, refl, ap, sym, ◌∙◌, subst, arith, append_assoc, length-append, length-set}
use Rattle.std.specs.Prelude.{◌≤◌, Option, Some, slice_get, slice_set}
use Rattle.std.proofs.Math.Seq.{get_or-append_seam}
use Rattle.std.proofs.lemmas.Option.{slice_get-get_or, slice_get_within}
use mathlib.Core.Logic.{dite}
use native.Mathlib.Decide.{ℕ_discrete}
use Rattle.core.specs.declared.slots.Slots.{Slots}
use Rattle.core.specs.Mem.Slots.{slots_items, slots_ptr}
use Rattle.keybits.specs.declared.shape.Shape.{Shape}
use Rattle.keybits.specs.Shapes.{IsShape, is_place, all_places, position_of}
use Rattle.keybits.proofs.ShapeLemmas.{position_of-lt, position_of-injective}
use Rattle.poolsteps.specs.Share.{Share}
use Rattle.poolsteps.specs.Layout.{slot_start, slot_index}
use Rattle.poolsteps.proofs.SlotLemmas.{start-injective, slot-apart}
use Rattle.poolsteps.specs.Joins.{IsSlotRow}
use Rattle.poolsteps.proofs.Joining.{get-elsewhere}
use Rattle.shardpool.specs.HeldKeys.{HeldKey}
use Rattle.shardpool.specs.declared.pool.LaneState.{LaneState}
use Rattle.shardpool.specs.Remains.{GivesRow, GivesTo, IsBack, IsOff, GivesBack, MayHandBack, IsStripped, AreStripped, HandsBack}
use Rattle.shardpool.proofs.free.Stores.{stands-here}

-- ---- lists

pub some-same : {X : Type 0} (a b : X) → Some a ≡ Some b → a ≡ b
some-same a b e = cc e

-- the first of those that are left stands behind those that are done
pub next-state : {X : Type 0} (all done left rest : List X) (next : X) → done ++ left ≡ all → left ≡ next ∷ rest → slice_get all (length done) ≡ Some next
next-state all done left rest next whole first =
    let is : done ++ next ∷ rest ≡ all = ap (λ l. done ++ l) (sym first) ∙ whole in
    let long = length-append done (next ∷ rest) in
    subst (λ l. slice_get l (length done) ≡ Some next) is
    (slice_get-get_or (done ++ next ∷ rest) (length done) next (omega arith) ∙ ap Some (get_or-append_seam done next rest next))

pub state-moves : {X : Type 0} (all done left rest : List X) (next : X) → done ++ left ≡ all → left ≡ next ∷ rest → (done ++ next ∷ []) ++ rest ≡ all
state-moves all done left rest next whole first = append_assoc done (next ∷ []) rest ∙ (ap (λ l. done ++ l) (sym first) ∙ whole)

-- ---- the rows of one lane

module _ {T : Type 0} (z : Shape) (number : ℕ) (rows : List (HeldKey T)) where
  pub none-back : (slots : Slots (Option (Share T))) → IsSlotRow z slots → GivesTo z number rows 0 rows slots slots
  none-back slots row = record {
    back = λ place inside low. absurd (omega (arith, low));
    kept = λ index off. refl;
    stay = λ place inside high. refl;
    wide = refl;
    row = row;
    start = refl;
  }

  pub all-back : (count : ℕ) (left : List (HeldKey T)) (old new : Slots (Option (Share T))) → count ≡ all_places z → GivesTo z number rows count left old new → GivesBack z number rows old new
  all-back count left old new is h = record {
    back = λ place inside row s. h.back place inside (let low = position_of-lt z place inside in omega (arith, low, is)) row s;
    kept = h.kept;
    row = h.row;
    start = h.start;
  }

  -- one row more
  pub back-more : IsShape z → (count : ℕ) (left then : List (HeldKey T)) (next none : HeldKey T) (a b c : Slots (Option (Share T))) (here i : ℕ) → is_place z here ≡ true
      → position_of z here ≡ count → i ≡ slot_index z here number → slice_get rows (slot_start z here) ≡ Some next → then ≡ slice_set left (slot_start z here) none
      → GivesTo z number rows count left a b → GivesRow i next b c → GivesTo z number rows (count + 1) then a c
  back-more ok count left then next none a b c here i here_inside deep is stands taken h k = record {
    back = λ place inside low r s at some has. dite (ℕ_discrete (position_of z place) count)
        (λ (now : position_of z place ≡ count).
        let there : place ≡ here = position_of-injective z ok place here inside here_inside (now ∙ sym deep) in
        let same : next ≡ r = some-same next r (sym stands ∙ (ap (λ (p : ℕ). slice_get rows (slot_start z p)) (sym there) ∙ at)) in
        ap (slice_get (slots_items c)) (ap (λ (p : ℕ). slot_index z p number) there ∙ sym is)
        ∙ k.here s (subst (λ (x : HeldKey T). 0 < x.count) (sym same) some) (ap (λ (x : HeldKey T). x.share) same ∙ has))
        (λ (earlier : position_of z place ≢ count).
        k.kept (slot_index z place number) (λ same.
        let both = slot-apart z ok place number here number inside here_inside (same ∙ is) in
        earlier (ap (position_of z) both.0 ∙ deep))
        ∙ h.back place inside (omega (arith, low, earlier)) r s at some has);
    kept = λ index off.
        let before = h.kept index off in
        dite (ℕ_discrete index i)
        (λ (same : index ≡ i). dite (ℕ_discrete next.count 0)
        (λ (none_held : next.count ≡ 0). ap (slice_get (slots_items c)) same ∙ (k.still none_held ∙ (ap (slice_get (slots_items b)) (sym same) ∙ before)))
        (λ (some : next.count ≢ 0). absurd (off here here_inside next stands (omega (arith, some)) (same ∙ is))))
        (λ (other : index ≢ i). k.kept index other ∙ before);
    stay = λ place inside high.
        ap (λ (l : List (HeldKey T)). slice_get l (slot_start z place)) taken
        ∙ (get-elsewhere left (slot_start z here) (slot_start z place) none (λ same.
        let there : place ≡ here = start-injective z place here inside here_inside same in
        let position = ap (position_of z) there in absurd (omega (arith, high, deep, position)))
        ∙ h.stay place inside (omega (arith, high)));
    wide = ap length taken ∙ (length-set left (slot_start z here) none ∙ h.wide);
    row = (k.full, k.count ∙ h.row.1);
    start = k.start ∙ h.start;
  }

-- ---- the states, one after another

module _ {T : Type 0} (z : Shape) (states : List (LaneState T)) where
  -- the shares of the first states are back, and only those states lost their rows
  pub record HandsTo (count : ℕ) (now : List (LaneState T)) (old new : Slots (Option (Share T))) : Type 0 where
    pub later : (i : ℕ) → count ≤ i → slice_get now i ≡ slice_get states i
    pub stripped : AreStripped states now
    pub back : (i : ℕ) (state : LaneState T) → i < count → slice_get states i ≡ Some state → IsBack z state.number state.rows.items (slots_items new)
    pub kept : (index : ℕ) → ((i : ℕ) (state : LaneState T) → i < count → slice_get states i ≡ Some state → IsOff z state.number state.rows.items index)
        → slice_get (slots_items new) index ≡ slice_get (slots_items old) index
    pub row : IsSlotRow z new
    pub start : slots_ptr new ≡ slots_ptr old

  pub hands-none : (slots : Slots (Option (Share T))) → IsSlotRow z slots → HandsTo 0 states slots slots
  hands-none slots row = record {
    later = λ i high. refl;
    stripped = (refl, λ i one at. (one, at, refl));
    back = λ i state low. absurd (omega (arith, low));
    kept = λ index off. refl;
    row = row;
    start = refl;
  }

  pub hands-all : {now : List (LaneState T)} {old new : Slots (Option (Share T))} (count : ℕ) → count ≡ length states → HandsTo count now old new → HandsBack z states old new
  hands-all count is h = record {
    back = λ i state at. h.back i state (let low = slice_get_within states i state at in omega (arith, low, is)) at;
    kept = λ index off. h.kept index (λ i state low at. off i state at);
    row = h.row;
    start = h.start;
  }

  module _ (ok : IsShape z) (may : MayHandBack z states) {count : ℕ} {now : List (LaneState T)} {a b : Slots (Option (Share T))} (h : HandsTo count now a b)
      (state : LaneState T) (at : slice_get states count ≡ Some state) where
    -- the next state still has its rows
    pub stands-now : slice_get now count ≡ Some state
    stands-now = h.later count (omega arith) ∙ at

    -- two lanes have no slot in common
    no-slot : (i : ℕ) (one : LaneState T) → i < count → slice_get states i ≡ Some one → (p : ℕ) → is_place z p ≡ true → IsOff z state.number state.rows.items (slot_index z p one.number)
    no-slot i one low there p p_inside q q_inside s inside some same =
        let both = slot-apart z ok p one.number q state.number p_inside q_inside same in
        let index = may.once i count one state there at both.1 in
        absurd (omega (arith, low, index))

    pub hands-more : (left : LaneState T) (then : List (LaneState T)) (c : Slots (Option (Share T))) → IsStripped state left → then ≡ slice_set now count left
        → GivesBack z state.number state.rows.items b c → HandsTo (count + 1) then a c
    hands-more left then c strips is g = record {
      later = λ i high. ap (λ (l : List (LaneState T)). slice_get l i) is ∙ (get-elsewhere now count i left (λ same. absurd (omega (arith, high, same))) ∙ h.later i (omega (arith, high)));
      stripped = (
        ap length is ∙ (length-set now count left ∙ h.stripped.0),
        λ i one there. dite (ℕ_discrete i count)
            (λ (here : i ≡ count).
            let low = slice_get_within now count state stands-now in
            let so : Some left ≡ Some one = sym (stands-here now count left low) ∙ (ap (λ (l : List (LaneState T)). slice_get l count) (sym is) ∙ (ap (slice_get then) (sym here) ∙ there)) in
            (state, ap (slice_get states) here ∙ at, subst (IsStripped state) (some-same left one so) strips))
            (λ (other : i ≢ count).
            h.stripped.1 i one (sym (get-elsewhere now count i left other) ∙ (ap (λ (l : List (LaneState T)). slice_get l i) (sym is) ∙ there))),
      );
      back = λ i one low there. dite (ℕ_discrete i count)
          (λ (here : i ≡ count).
          let so : Some state ≡ Some one = sym at ∙ (ap (slice_get states) (sym here) ∙ there) in
          subst (λ (x : LaneState T). IsBack z x.number x.rows.items (slots_items c)) (some-same state one so) g.back)
          (λ (other : i ≢ count).
          let before : i < count = omega (arith, low, other) in
          λ p inside r s within some has. g.kept (slot_index z p one.number) (no-slot i one before there p inside) ∙ h.back i one before there p inside r s within some has);
      kept = λ index off. g.kept index (off count state (omega arith) at) ∙ h.kept index (λ i one low there. off i one (omega (arith, low)) there);
      row = g.row;
      start = g.start ∙ h.start;
    }
