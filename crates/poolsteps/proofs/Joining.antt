-- The shares of a cell are lifted out of a pool's slots, one after another.
use Rattle.std.proofs.Common.{◌≡◌, ◌≢◌, ⊎_elim, ℕ, ◌+◌, ◌<◌, ◌≤◌, true, List, length, slice_set, slice_index_or, IsSome, refl, ap, sym, ◌∙◌, subst, arith, length-set}
use Rattle.std.proofs.lemmas.List.{get_or-set_other, get_or-set_same}
use Rattle.std.proofs.lemmas.Option.{slice_get_cases, slice_get_past, slice_get-get_or}
use mathlib.Core.Logic.{dite}
use native.Mathlib.Decide.{ℕ_discrete}
use Rattle.std.specs.Prelude.{Option, Some, None, slice_get}
use Rattle.core.specs.declared.slots.Slots.{Slots}
use Rattle.core.specs.Mem.Slots.{slots_items, slots_counts}
use Rattle.keybits.specs.declared.shape.Shape.{Shape}
use Rattle.keybits.specs.Shapes.{callers, IsShape, is_place}
use Rattle.poolsteps.specs.Share.{Share}
use Rattle.poolsteps.specs.Spot.{Spot as CellSpot}
use Rattle.poolsteps.specs.Rest.{Rest, lowest_share}
use Rattle.poolsteps.specs.Layout.{slot_index, slot_count}
use Rattle.poolsteps.proofs.SlotLemmas.{slot-apart, slot-below}
use Rattle.poolsteps.specs.Joins.{IsSlotRow, HasAt, IsSet, HasPart, IsSpread, IsUnspread, Drains}

-- a value that isn't set stays
pub get-elsewhere : {X : Type 0} (xs : List X) (i j : ℕ) (v : X) → j ≢ i → slice_get (slice_set xs i v) j ≡ slice_get xs j
get-elsewhere {X} xs i j v other = ⊎_elim
    (λ there.
    let x : X = there.0 in
    let low = there.1 in
    let long = length-set xs i v in
    slice_get-get_or (slice_set xs i v) j x (omega (arith, low, long)) ∙ (ap Some (get_or-set_other xs i j v x other) ∙ sym (slice_get-get_or xs j x low)))
    (λ past.
    let far = past.0 in
    let long = length-set xs i v in
    slice_get_past (slice_set xs i v) j (omega (arith, far, long)) ∙ sym (slice_get_past xs j far))
    (slice_get_cases xs j).1

-- the one that is set stands
pub get-set : {X : Type 0} (xs : List X) (i : ℕ) (v : X) → i < length xs → slice_get (slice_set xs i v) i ≡ Some v
get-set xs i v low =
    let long = length-set xs i v in
    slice_get-get_or (slice_set xs i v) i v (omega (arith, low, long)) ∙ ap Some (get_or-set_same xs i v v low)

module _ {T : Type 0} where
  -- a slot with a part has a share
  pub part-some : (slots : List (Option (Share T))) (index i : ℕ) (spot : CellSpot) (cell number of : ℕ) → i ≡ index → HasPart slots index spot cell number of → HasAt slots i
  part-some slots index i spot cell number of same p = (p.share, ap (slice_get slots) same ∙ p.stands)

  -- what is read where a share stands is that share
  pub read-some : (slots : List (Option (Share T))) (index : ℕ) (slot : Option (Share T)) → HasAt slots index → slot ≡ slice_index_or slots index slot
      → slice_get slots index ≡ Some slot
  read-some slots index slot has is = ⊎_elim
      (λ there. slice_get-get_or slots index slot there.1 ∙ ap Some (sym is))
      (λ past. absurd (cc (sym has.1 ∙ slice_get_past slots index past.0)))
      (slice_get_cases slots index).1

  pub some-read : (slots : List (Option (Share T))) (index : ℕ) (slot : Option (Share T)) → HasAt slots index → slot ≡ slice_index_or slots index slot → IsSome slot
  some-read slots index slot has is =
      let both : ◌≡◌ {A = Option (Option (Share T))} (Some slot) (Some (Some has.0)) = sym (read-some slots index slot has is) ∙ has.1 in
      let same : slot ≡ Some has.0 = cc both in subst (λ (x : Option (Share T)). IsSome x) (sym same) refl

  -- what was lifted is the share that stood there
  pub part-is : (slots : List (Option (Share T))) (index : ℕ) (spot : CellSpot) (cell number of : ℕ) (s : Share T) → HasPart slots index spot cell number of → slice_get slots index ≡ Some (Some s)
      → (s.cell ≡ cell) × (s.number ≡ number) × (s.of ≡ of) × (s.spot ≡ spot)
  part-is slots index spot cell number of s p there =
      let so : ◌≡◌ {A = Option (Option (Share T))} (Some (Some p.share)) (Some (Some s)) = sym p.stands ∙ there in
      let same : p.share ≡ s = cc so in
      (subst (λ (x : Share T). x.cell ≡ cell) same p.cell_is, subst (λ (x : Share T). x.number ≡ number) same p.number_is, subst (λ (x : Share T). x.of ≡ of) same p.of_is, subst (λ (x : Share T). x.spot ≡ spot) same p.spot_is)

module _ {T : Type 0} (spots : ℕ → CellSpot) (z : Shape) (place : ℕ) where
  -- the shares from the number on are lifted, and the rest has them
  pub record HasJoined (number : ℕ) (old new : Slots (Option (Share T))) (rest : Rest T) : Type 0 where
    pub spread : IsSpread spots z (slots_items old) place
    pub below : number < (callers z)
    pub cell_is : rest.cell ≡ spread.cell
    pub spot_is : rest.spot ≡ spots place
    pub number_is : rest.number ≡ number
    pub of_is : rest.of ≡ (callers z)
    pub drains : Drains z place old new
    pub untouched : (lane : ℕ) → lane < number → slice_get (slots_items new) (slot_index z place lane) ≡ slice_get (slots_items old) (slot_index z place lane)
    pub gone : (lane : ℕ) → number ≤ lane → lane < (callers z) → slice_get (slots_items new) (slot_index z place lane) ≡ Some None

module _ {T : Type 0} (spots : ℕ → CellSpot) (z : Shape) (ok : IsShape z) (place : ℕ) (inside : is_place z place ≡ true) where
  -- a slot of the place is set
  pub drains-one : (old new : Slots (Option (Share T))) (lane : ℕ) → IsSlotRow z old → lane < (callers z) → IsSet (slot_index z place lane) None old new → Drains z place old new
  drains-one old new lane row low set = record {
    row = (set.full, set.count ∙ row.1);
    start = set.start;
    kept = λ index apart. ap (λ (xs : List (Option (Share T))). slice_get xs index) set.items ∙ get-elsewhere (slots_items old) (slot_index z place lane) index None (apart lane low);
  }

  -- one more
  pub drains-then : (a b c : Slots (Option (Share T))) → Drains z place a b → Drains z place b c → Drains z place a c
  drains-then a b c first then = record {
    row = then.row;
    start = then.start ∙ first.start;
    kept = λ index apart. then.kept index apart ∙ first.kept index apart;
  }

  -- which then is empty
  pub empty-one : (old new : Slots (Option (Share T))) (lane : ℕ) → IsSlotRow z old → lane < (callers z) → IsSet (slot_index z place lane) None old new
      → slice_get (slots_items new) (slot_index z place lane) ≡ Some None
  empty-one old new lane row low set =
      let within = slot-below z place lane inside low in
      let wide : length (slots_items old) ≡ slot_count z = sym (slots_counts old).0 ∙ row.1 in
      ap (λ (xs : List (Option (Share T))). slice_get xs (slot_index z place lane)) set.items
      ∙ get-set (slots_items old) (slot_index z place lane) None (omega (arith, within, wide))

  -- another slot of the place stays
  stays : (old new : Slots (Option (Share T))) (lane other : ℕ) → IsSet (slot_index z place lane) None old new → other ≢ lane
      → slice_get (slots_items new) (slot_index z place other) ≡ slice_get (slots_items old) (slot_index z place other)
  stays old new lane other set apart = ap (λ (xs : List (Option (Share T))). slice_get xs (slot_index z place other)) set.items
      ∙ get-elsewhere (slots_items old) (slot_index z place lane) (slot_index z place other) None (λ same. apart (slot-apart z ok place other place lane inside inside same).1)

  -- the last share is lifted
  pub joined-first : (old new : Slots (Option (Share T))) (number : ℕ) (s : Share T) (rest : Rest T) → IsSlotRow z old → IsSpread spots z (slots_items old) place → number + 1 ≡ (callers z)
      → slice_get (slots_items old) (slot_index z place number) ≡ Some (Some s) → IsSet (slot_index z place number) None old new → s ≡ lowest_share rest
      → HasJoined spots z place number old new rest
  joined-first old new number s rest row spread last there set is =
      let low : number < (callers z) = omega arith in
      let part = part-is (slots_items old) (slot_index z place number) (spots place) spread.cell number (callers z) s (spread.each number low) there in
      record {
        spread = spread;
        below = low;
        cell_is = ap (λ (x : Share T). x.cell) (sym is) ∙ part.0;
        number_is = ap (λ (x : Share T). x.number) (sym is) ∙ part.1;
        of_is = ap (λ (x : Share T). x.of) (sym is) ∙ part.2;
        spot_is = ap (λ (x : Share T). x.spot) (sym is) ∙ part.3;
        drains = drains-one old new number row low set;
        untouched = λ lane less. stays old new number lane set (λ same. absurd (omega (arith, less, same)));
        gone = λ lane from below.
            let is : number ≡ lane = omega (arith, from, below, last) in
            subst (λ (n : ℕ). slice_get (slots_items new) (slot_index z place n) ≡ Some None) is (empty-one old new number row low set);
      }

  module _ (number : ℕ) {after : ℕ} {old mid : Slots (Option (Share T))} {rest : Rest T} (is : number + 1 ≡ after) (j : HasJoined spots z place after old mid rest) where
    -- the share of the next number stands in its slot
    pub part-before : HasPart (slots_items mid) (slot_index z place number) (spots place) j.spread.cell number (callers z)
    part-before =
        let low = j.below in
        let p = j.spread.each number (omega (arith, is, low)) in
        record { share = p.share; stands = j.untouched number (omega (arith, is)) ∙ p.stands; cell_is = p.cell_is; number_is = p.number_is; of_is = p.of_is; spot_is = p.spot_is }

    module _ {s : Share T} (there : slice_get (slots_items mid) (slot_index z place number) ≡ Some (Some s)) where
      -- it may be merged
      pub may-merge : (s.cell ≡ rest.cell) × (s.spot ≡ rest.spot) × (s.of ≡ rest.of) × (s.number + 1 ≡ rest.number)
      may-merge =
          let part = part-is (slots_items mid) (slot_index z place number) (spots place) j.spread.cell number (callers z) s part-before there in
          (part.0 ∙ sym j.cell_is, part.3 ∙ sym j.spot_is, part.2 ∙ sym j.of_is, ap (λ (n : ℕ). n + 1) part.1 ∙ (is ∙ sym j.number_is))

      -- and then is the rest's
      pub joined-more : (new : Slots (Option (Share T))) → IsSet (slot_index z place number) None mid new → HasJoined spots z place number old new (record rest { number = s.number })
      joined-more new set =
          let low = j.below in
          let part = part-is (slots_items mid) (slot_index z place number) (spots place) j.spread.cell number (callers z) s part-before there in
          record {
            spread = j.spread;
            below = omega (arith, is, low);
            cell_is = j.cell_is;
            number_is = part.1;
            of_is = j.of_is;
            spot_is = j.spot_is;
            drains = drains-then old mid new j.drains (drains-one mid new number j.drains.row (omega (arith, is, low)) set);
            untouched = λ lane less. stays mid new number lane set (λ same. absurd (omega (arith, less, same))) ∙ j.untouched lane (omega (arith, is, less));
            gone = λ lane from below. dite (ℕ_discrete number lane)
                (λ (here : number ≡ lane).
                subst (λ (n : ℕ). slice_get (slots_items new) (slot_index z place n) ≡ Some None) here (empty-one mid new number j.drains.row (omega (arith, is, low)) set))
                (λ (other : number ≢ lane).
                stays mid new number lane set (λ same. other (sym same)) ∙ j.gone lane (omega (arith, is, from, other)) below);
          }

  -- all shares are lifted
  pub all-gone : (old new : Slots (Option (Share T))) (number : ℕ) (rest : Rest T) → number ≡ 0 → HasJoined spots z place number old new rest → IsUnspread z (slots_items new) place
  all-gone old new number rest none j = λ lane low. j.gone lane (omega (arith, none)) low
