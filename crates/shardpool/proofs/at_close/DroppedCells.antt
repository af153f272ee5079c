-- The cells of a shard's places are dropped, one after another.
use Rattle.std.proofs.Common.{◌≡◌, ◌≢◌, ◌⊎◌, ⊎_elim, inl, inr, ℕ, ◌+◌, ◌*◌, ◌<◌, ◌≤◌, true, List, refl, ap, sym, ◌∙◌, subst, arith}
use Rattle.std.specs.Prelude.{Option, slice_get}
use mathlib.Core.Logic.{dite}
use native.Mathlib.Decide.{ℕ_discrete}
use Rattle.core.specs.declared.slots.Slots.{Slots}
use Rattle.core.specs.Mem.Slots.{slots_items, slots_ptr}
use Rattle.keybits.specs.declared.shape.Shape.{Shape}
use Rattle.keybits.specs.Places.{shard_of}
use Rattle.keybits.specs.Shapes.{callers, IsShape, is_place, shard_places, index_of}
use Rattle.keybits.proofs.ShapeLemmas.{is_place-parts, position_of-injective}
use Rattle.std.proofs.lemmas.Bool.{cases_lt}
use Rattle.shardpool.specs.Marks.{IsIdleWord}
use Rattle.poolsteps.specs.Share.{Share}
use Rattle.poolsteps.specs.Spot.{Spot as CellSpot}
use Rattle.poolsteps.specs.Layout.{slot_index}
use Rattle.poolsteps.proofs.SlotLemmas.{slot-apart}
use Rattle.poolsteps.specs.Joins.{IsSlotRow, HasPart, IsSpread, IsResting, HasCell, HasNoCell, Drains}
use Rattle.seqpool.specs.declared.act.Act.{Act}
use Rattle.shardpool.specs.Tokens.{LaneOf}
use Rattle.shardpool.specs.Remains.{IsDrained, DrainsShard}

module _ {T : Type 0} (z : Shape) where
  -- all slots of a place are as before
  abbrev pub SameSlots : List (Option (Share T)) → List (Option (Share T)) → ℕ → Type 0
  SameSlots old new place = (lane : ℕ) → lane < (callers z) → slice_get new (slot_index z place lane) ≡ slice_get old (slot_index z place lane)

  part-stays : (old new : List (Option (Share T))) (index : ℕ) (spot : CellSpot) (cell number of : ℕ) → slice_get new index ≡ slice_get old index
      → HasPart old index spot cell number of → HasPart new index spot cell number of
  part-stays old new index spot cell number of same p =
      record { share = p.share; stands = same ∙ p.stands; cell_is = p.cell_is; spot_is = p.spot_is; number_is = p.number_is; of_is = p.of_is }

  pub spread-stays : {spots : ℕ → CellSpot} (old new : List (Option (Share T))) (place : ℕ) → SameSlots old new place → IsSpread spots z old place → IsSpread spots z new place
  spread-stays {spots} old new place same h = record {
    cell = h.cell;
    each = λ lane low. part-stays old new (slot_index z place lane) (spots place) h.cell lane (callers z) (same lane low) (h.each lane low);
  }

  pub resting-stays : {spots : ℕ → CellSpot} (old new : List (Option (Share T))) (place : ℕ) → is_place z place ≡ true → SameSlots old new place → IsResting spots z old place
      → IsResting spots z new place
  resting-stays {spots} old new place inside same h = record {
    cell = h.cell;
    part = part-stays old new (slot_index z place (shard_of place)) (spots place) h.cell 0 1 (same (shard_of place) (let low = (is_place-parts z place inside).0 in omega (arith, low))) h.part;
  }

  -- so a place has the cell that it had
  pub cell-stays : {spots : ℕ → CellSpot} (old new : List (Option (Share T))) (place word : ℕ) → is_place z place ≡ true → SameSlots old new place → HasCell spots z old place word
      → HasCell spots z new place word
  cell-stays old new place word inside same h = record {
    resting = λ none. resting-stays old new place inside same (h.resting none);
    retired = λ bits. resting-stays old new place inside same (h.retired bits);
    spread = λ bits. spread-stays old new place same (h.spread bits);
  }

  -- or has none, as before
  no-cell-stays : (old new : List (Option (Share T))) (place word : ℕ) → is_place z place ≡ true → SameSlots old new place → HasNoCell z old place word → HasNoCell z new place word
  no-cell-stays old new place word inside same h = record {
    unrested = λ none. same (shard_of place) (let low = (is_place-parts z place inside).0 in omega (arith, low)) ∙ h.unrested none;
    unretired = λ bits. same (shard_of place) (let low = (is_place-parts z place inside).0 in omega (arith, low)) ∙ h.unretired bits;
    unspread = λ bits lane low. same lane low ∙ h.unspread bits lane low;
  }

  pub drained-stays : (history : List Act) (lanes : List LaneOf) (old new : List (Option (Share T))) (place : ℕ) → is_place z place ≡ true → SameSlots old new place
      → IsDrained z history lanes old place → IsDrained z history lanes new place
  drained-stays history lanes old new place inside same h = record {
    spread = λ content references mark is lane low. same lane low ∙ h.spread content references mark is lane low;
    returned = λ is. here ∙ h.returned is;
    retires = λ is. here ∙ h.retires is;
    taken = λ index lane at among. here ∙ h.taken index lane at among;
  }
    where
      here : slice_get new (slot_index z place (shard_of place)) ≡ slice_get old (slot_index z place (shard_of place))
      here = same (shard_of place) (let low = (is_place-parts z place inside).0 in omega (arith, low))

  -- the places of the shard before the index are gone over
  pub record DrainsTo (shard : ℕ) (life : ℕ → ℕ) (index : ℕ) (old new : Slots (Option (Share T))) : Type 0 where
    pub row : IsSlotRow z new
    pub start : slots_ptr new ≡ slots_ptr old
    pub kept : (place : ℕ) → is_place z place ≡ true → (shard_of place ≢ shard) ⊎ (index ≤ index_of z place) → SameSlots (slots_items old) (slots_items new) place
    pub gone : (place : ℕ) → is_place z place ≡ true → shard_of place ≡ shard → index_of z place < index → HasNoCell z (slots_items new) place (life place)

  pub drains-none : (shard : ℕ) (life : ℕ → ℕ) (slots : Slots (Option (Share T))) → IsSlotRow z slots → DrainsTo shard life 0 slots slots
  drains-none shard life slots row = record { row = row; start = refl; kept = λ place inside other lane low. refl; gone = λ place inside same low. absurd (omega (arith, low)) }

  -- the place of the next index
  pub drains-more : IsShape z → (shard : ℕ) (life : ℕ → ℕ) (index place : ℕ) (a b c : Slots (Option (Share T))) → is_place z place ≡ true → shard_of place ≡ shard → index_of z place ≡ index
      → DrainsTo shard life index a b → Drains z place b c → HasNoCell z (slots_items c) place (life place) → DrainsTo shard life (index + 1) a c
  drains-more ok shard life index place a b c inside of_shard is h d none = record {
    row = d.row;
    start = d.start ∙ h.start;
    kept = λ other within beyond lane low.
        d.kept (slot_index z other lane) (λ number below same. apart other beyond (slot-apart z ok other lane place number within inside same).0)
        ∙ h.kept other within (earlier other beyond) lane low;
    gone = λ other within of_other low. dite (ℕ_discrete (index_of z other) index)
        (λ (same : index_of z other ≡ index).
        let position : shard_of other * shard_places z + index_of z other ≡ shard_of place * shard_places z + index_of z place
        = ap (λ (s : ℕ). s * shard_places z + index_of z other) (of_other ∙ sym of_shard) ∙ ap (λ (i : ℕ). shard_of place * shard_places z + i) (same ∙ sym is) in
        subst (λ (p : ℕ). HasNoCell z (slots_items c) p (life p)) (sym (position_of-injective z ok other place within inside position)) none)
        (λ (before : index_of z other ≢ index).
        no-cell-stays (slots_items b) (slots_items c) other (life other) within
        (λ lane below. d.kept (slot_index z other lane) (λ number under same.
        let at = slot-apart z ok other lane place number within inside same in
        let index_same : index_of z other ≡ index_of z place = ap (index_of z) at.0 in
        before (index_same ∙ is)))
        (h.gone other within of_other (omega (arith, low, before))));
  }
    where
      apart : (other : ℕ) → (shard_of other ≢ shard) ⊎ (index + 1 ≤ index_of z other) → other ≢ place
      apart other beyond same = ⊎_elim
          (λ off. off (ap shard_of same ∙ of_shard))
          (λ far. let here : index_of z other ≡ index = ap (index_of z) same ∙ is in absurd (omega (arith, far, here)))
          beyond

      earlier : (other : ℕ) → (shard_of other ≢ shard) ⊎ (index + 1 ≤ index_of z other) → (shard_of other ≢ shard) ⊎ (index ≤ index_of z other)
      earlier other beyond = ⊎_elim (λ off. inl off) (λ far. inr (omega (arith, far))) beyond

  -- the places from the index on have none, by their words
  pub drains-all : (shard : ℕ) (life : ℕ → ℕ) (old new : Slots (Option (Share T))) (index : ℕ)
      → ((place : ℕ) → is_place z place ≡ true → shard_of place ≡ shard → index ≤ index_of z place → IsIdleWord (life place))
      → DrainsTo shard life index old new → DrainsShard z shard life old new
  drains-all shard life old new index idle h = record {
    row = h.row;
    start = h.start;
    kept = λ place lane inside low off. h.kept place inside (inl off) lane low;
    gone = λ place inside of_shard. ⊎_elim
        (λ (low : index_of z place < index). h.gone place inside of_shard low)
        (λ (high : index ≤ index_of z place).
        let some = (idle place inside of_shard high).0 in
        let bits_are = (idle place inside of_shard high).1 in
        record {
          unrested = λ none. absurd (some none);
          unretired = λ two. absurd (omega (arith, two, bits_are));
          unspread = λ bits. absurd (⊎_elim (λ one. omega (arith, one, bits_are)) (λ three. omega (arith, three, bits_are)) bits);
        })
        (cases_lt (index_of z place) index);
  }
