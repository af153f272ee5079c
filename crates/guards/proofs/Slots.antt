-- Lanes in slots, by their numbers.
use Rattle.std.proofs.Common.{◌≡◌, ℕ, suc, ◌+◌, ◌<◌, ◌≤◌, true, false, List, [], ◌∷◌, ◌++◌, length, map, slice_get, Option, Some, None, is_some, IfSome, unwrap_or, option_map, refl, sym, ap, ◌∙◌, subst, ⊎_elim, arith, append-nil, length-append}
use Rattle.std.specs.Prelude.{slice_index_or, slice_set, Result, Ok, Err, IfOk}
use Rattle.std.specs.Result.{result_ok}
use Rattle.std.proofs.lemmas.List.{length-map, length-set, get_or_past, get_or_read, get_or-set_same, get_or-set_other}
use Rattle.std.proofs.lemmas.Option.{slice_get_cases, slice_get-map, unwrap_or-slice_get}
use mathlib.Core.Logic.{dite}
use native.Mathlib.Decide.{ℕ_discrete}
use Rattle.poolsteps.specs.declared.view.View.{View}
use Rattle.poolsteps.specs.Views.{the_lane}
use Rattle.shardpool.specs.Tokens.{PoolOf, LaneOf}
use Rattle.shardpool.specs.Lanes.{Owns, refs}
use Rattle.shardpool.specs.Opened.{AreFirstLanes}
use Rattle.seatcalls.specs.Left.{held_after}
use Rattle.shardpool.specs.Closings.{AreLanes}
use Rattle.poollaws.specs.Cleared.{cleared_in, cleared_by, AreAmong}
use Rattle.poollaws.proofs.Clearing.{none-among, among-none, among-before, among-behind}
use Rattle.guards.specs.Here.{LanesOf, lane_at, AreSlots, AreFirstHere, HoldNothing, HaveCleared, SameOthers, AreHereBelow, AreInRow, IsFirstMissing}

-- ---- lists

-- one that is still to come stands behind those before it
pub one-below : {A : Type 0} (all before left : List A) (x : A) → before ++ x ∷ left ≡ all → length before < length all
one-below all before left x is = let long = ap length is in omega (arith, long, length-append before (x ∷ left))

-- a row whose every slot is filled has no slot that isn't
pub none-of-some : {A : Type 0} (xs : List A) (before left : List (Option A)) → before ++ None ∷ left ≡ map Some xs → ⊥
none-of-some [] [] left is = cc
none-of-some [] (slot ∷ before) left is = cc
none-of-some (x ∷ xs) [] left is = cc
none-of-some (x ∷ xs) (slot ∷ before) left is = let rest : before ++ None ∷ left ≡ map Some xs = cc in none-of-some xs before left rest

-- slots that are all filled are those of a list
pub all-some : {A : Type 0} (slots : List (Option A)) → ((n : ℕ) → n < length slots → (x : A) × (slice_index_or slots n None ≡ Some x)) → (xs : List A) × (slots ≡ map Some xs)
all-some [] here = ([], refl)
all-some (slot ∷ more) here =
    let first = here 0 (omega arith) in
    let rest = all-some more (λ n low. here (suc n) (omega (arith, low))) in
    let one = first.1 in
    let all = rest.1 in (first.0 ∷ rest.0, cc (one, all))

-- what holds of a value that was made holds of it where `ok` and `?` took it out
pub ok-holds : {A E : Type 0} (made : Result A E) (P : A → Type 0) (x : A) → IfOk made P → Some x ≡ result_ok made → P x
ok-holds (Ok y) P x holds is = let same : y ≡ x = cc is in subst P same holds
ok-holds (Err e) P x holds is = absurd (cc is)

some-of : {A : Type 0} (slot : Option A) → is_some slot ≡ true → (x : A) × (slot ≡ Some x)
some-of None is = absurd (cc is)
some-of (Some x) is = (x, refl)

none-of : {A : Type 0} (slot : Option A) → is_some slot ≡ false → slot ≡ None
none-of None is = refl
none-of (Some x) is = absurd (cc is)

-- what stands in a list stands in the slots of its own
stands : {A : Type 0} (xs : List A) (i : ℕ) (x : A) → slice_get xs i ≡ Some x → slice_index_or (map Some xs) i None ≡ Some x
stands xs i x at =
    sym (unwrap_or-slice_get (map Some xs) i None) ∙ (ap (λ (slot : Option (Option _)). unwrap_or slot None) (slice_get-map Some xs i ∙ ap (λ (found : Option _). option_map Some found) at))

past : {A : Type 0} (xs : List A) (i : ℕ) → slice_get xs i ≡ None → slice_index_or (map Some xs) i None ≡ None
past xs i at =
    sym (unwrap_or-slice_get (map Some xs) i None) ∙ (ap (λ (slot : Option (Option _)). unwrap_or slot None) (slice_get-map Some xs i ∙ ap (λ (found : Option _). option_map Some found) at))

stood : {A : Type 0} (xs : List A) (i : ℕ) (x : A) → slice_index_or (map Some xs) i None ≡ Some x → slice_get xs i ≡ Some x
stood xs i x is = ⊎_elim
    (λ there. there.2 ∙ (sym (stands xs i there.0 there.2) ∙ is))
    (λ gone. let none = past xs i gone.1 in absurd (cc (none, is)))
    (slice_get_cases xs i).1

-- ---- a pool that was opened

module _ (pool : PoolOf) (row : List LaneOf) (slots : List (Option LaneOf)) (is : slots ≡ map Some row) (firsts : AreFirstLanes pool row) where
  in-row : (number : ℕ) (lane : LaneOf) → slice_index_or slots number None ≡ Some lane → slice_get row number ≡ Some lane
  in-row number lane at = stood row number lane (ap (λ (xs : List (Option LaneOf)). slice_index_or xs number None) (sym is) ∙ at)

  pub first-slots : pool.shape.guests ≡ 0 → AreSlots (record { pool = pool; slots = slots })
  first-slots alone = record {
    alone = alone;
    count = ap length is ∙ (length-map row Some ∙ firsts.count);
    each = λ number lane at. let first = firsts.each number lane (in-row number lane at) in (first.owned, first.number_is);
  }

  pub first-here : AreFirstHere (record { pool = pool; slots = slots })
  first-here number low = ⊎_elim
      (λ there. (there.0, ap (λ (xs : List (Option LaneOf)). slice_index_or xs number None) is ∙ stands row number there.0 there.2, firsts.each number there.0 there.2))
      (λ gone. let high = gone.0 in let count = firsts.count in absurd (omega (arith, high, low, count)))
      (slice_get_cases row number).1

  pub first-nothing : HoldNothing (record { pool = pool; slots = slots })
  first-nothing = record {
    each = λ number lane at. ap (λ (v : View). held_after (the_lane v).mine 0) (firsts.each number lane (in-row number lane at)).book;
  }

  pub first-cleared : HaveCleared [] (record { pool = pool; slots = slots })
  first-cleared = record {
    each = λ number lane at. among-none [] (ap (λ (v : View). cleared_in (the_lane v).mine) (firsts.each number lane (in-row number lane at)).book);
  }

-- ---- a lane that is taken out or given back

pub owned : (lanes : LanesOf) (number : ℕ) → AreSlots lanes → (found : Option LaneOf) → found ≡ lane_at lanes number → IfSome found (λ lane. Owns lanes.pool lane × (lane.number ≡ number))
owned lanes number are None is = tt
owned lanes number are (Some lane) is = are.each number lane (sym is)

module _ (lanes : LanesOf) (number : ℕ) (slot : Option LaneOf) (lane : LaneOf) (low : number < length lanes.slots) (fills : slot ≡ Some lane) where
  same-lane : (other : ℕ) (found : LaneOf) → slice_index_or (slice_set lanes.slots number slot) other None ≡ Some found → other ≡ number → lane ≡ found
  same-lane other found at same =
      let here = ap (λ (n : ℕ). slice_index_or (slice_set lanes.slots number slot) n None) (sym same) ∙ at in
      let there = get_or-set_same lanes.slots number slot None low in cc (here, there, fills)

  pub given-slots : AreSlots lanes → Owns lanes.pool lane → number ≡ lane.number → AreSlots (record { pool = lanes.pool; slots = slice_set lanes.slots number slot })
  given-slots are own is = record {
    alone = are.alone;
    count = length-set lanes.slots number slot ∙ are.count;
    each = λ other found at. dite (ℕ_discrete other number)
        (λ same. subst (λ (l : LaneOf). Owns lanes.pool l × (l.number ≡ other)) (same-lane other found at same) (own, sym is ∙ sym same))
        (λ differs. are.each other found (sym (get_or-set_other lanes.slots number other slot None differs) ∙ at));
  }

  pub given-nothing : HoldNothing lanes → refs lane ≡ 0 → HoldNothing (record { pool = lanes.pool; slots = slice_set lanes.slots number slot })
  given-nothing nothing none = record {
    each = λ other found at. dite (ℕ_discrete other number)
        (λ same. subst (λ (l : LaneOf). refs l ≡ 0) (same-lane other found at same) none)
        (λ differs. nothing.each other found (sym (get_or-set_other lanes.slots number other slot None differs) ∙ at));
  }

  pub given-cleared : (keys : List ℕ) → HaveCleared keys lanes
      → HaveCleared (keys ++ cleared_by lane) (record { pool = lanes.pool; slots = slice_set lanes.slots number slot })
  given-cleared keys cleared = record {
    each = λ other found at. dite (ℕ_discrete other number)
        (λ same. subst (λ (l : LaneOf). AreAmong (cleared_by l) (keys ++ cleared_by lane)) (same-lane other found at same) (among-behind keys (cleared_by lane)))
        (λ differs key had. among-before keys (cleared_by lane) key
        (cleared.each other found (sym (get_or-set_other lanes.slots number other slot None differs) ∙ at) key had));
  }

  pub given-clean : (keys : List ℕ) → HaveCleared keys lanes → cleared_by lane ≡ []
      → HaveCleared keys (record { pool = lanes.pool; slots = slice_set lanes.slots number slot })
  given-clean keys cleared none = subst (λ (all : List ℕ). HaveCleared all (record { pool = lanes.pool; slots = slice_set lanes.slots number slot }))
      (ap (λ (more : List ℕ). keys ++ more) none ∙ append-nil keys) (given-cleared keys cleared)

-- ---- a lane that is taken out

-- past the slots there is none
pub past-slots : (lanes : LanesOf) (number : ℕ) → length lanes.slots ≤ number → lane_at lanes number ≡ None
past-slots lanes number high = get_or_past lanes.slots number None high

module _ (lanes : LanesOf) (number : ℕ) (slot : Option LaneOf) (low : number < length lanes.slots) (none : slot ≡ None) where
  pub taken-gone : slice_index_or (slice_set lanes.slots number slot) number None ≡ None
  taken-gone = get_or-set_same lanes.slots number slot None low ∙ none

  stayed : (other : ℕ) (found : LaneOf) → slice_index_or (slice_set lanes.slots number slot) other None ≡ Some found → lane_at lanes other ≡ Some found
  stayed other found at = dite (ℕ_discrete other number)
      (λ same. let here = ap (λ (n : ℕ). slice_index_or (slice_set lanes.slots number slot) n None) (sym same) ∙ at in let gone = taken-gone in absurd (cc (here, gone)))
      (λ differs. sym (get_or-set_other lanes.slots number other slot None differs) ∙ at)

  pub taken-slots : AreSlots lanes → AreSlots (record { pool = lanes.pool; slots = slice_set lanes.slots number slot })
  taken-slots are = record {
    alone = are.alone;
    count = length-set lanes.slots number slot ∙ are.count;
    each = λ other found at. are.each other found (stayed other found at);
  }

  pub taken-nothing : HoldNothing lanes → HoldNothing (record { pool = lanes.pool; slots = slice_set lanes.slots number slot })
  taken-nothing nothing = record { each = λ other found at. nothing.each other found (stayed other found at) }

  pub taken-cleared : (keys : List ℕ) → HaveCleared keys lanes → HaveCleared keys (record { pool = lanes.pool; slots = slice_set lanes.slots number slot })
  taken-cleared keys cleared = record { each = λ other found at. cleared.each other found (stayed other found at) }

-- a slot that is written leaves the others
pub same-others : (lanes : LanesOf) (number : ℕ) (slot : Option LaneOf) → SameOthers number lanes (record { pool = lanes.pool; slots = slice_set lanes.slots number slot })
same-others lanes number slot = record { pool = refl; others = λ other differs. get_or-set_other lanes.slots number other slot None differs }

-- what was found here has no reference, where none has
pub found-nothing : (lanes : LanesOf) (number : ℕ) → HoldNothing lanes → (found : Option LaneOf) → found ≡ lane_at lanes number → IfSome found (λ lane. refs lane ≡ 0)
found-nothing lanes number nothing None is = tt
found-nothing lanes number nothing (Some lane) is = nothing.each number lane (sym is)

-- and it cleared nothing, where none did
pub found-cleared : (lanes : LanesOf) (number : ℕ) → HaveCleared [] lanes → (found : Option LaneOf) → found ≡ lane_at lanes number → IfSome found (λ lane. cleared_by lane ≡ [])
found-cleared lanes number cleared None is = tt
found-cleared lanes number cleared (Some lane) is = none-among (cleared_by lane) (cleared.each number lane (sym is))

-- ---- all lanes

module _ (lanes : LanesOf) (number : ℕ) (slot : Option LaneOf) (low : number < length lanes.slots) (at : slot ≡ slice_index_or lanes.slots number slot) where
  read : slice_index_or lanes.slots number None ≡ slot
  read = sym (get_or_read lanes.slots number slot low at None)

  pub here-more : is_some slot ≡ true → AreHereBelow lanes number → AreHereBelow lanes (number + 1)
  here-more some before other is = dite (ℕ_discrete other number)
      (λ same. let one = some-of slot some in (one.0, ap (λ (n : ℕ). slice_index_or lanes.slots n None) same ∙ (read ∙ one.1)))
      (λ differs. before other (omega (arith, is, differs)))

  pub first-missing : is_some slot ≡ false → AreSlots lanes → AreHereBelow lanes number → IsFirstMissing lanes number
  first-missing none are before = record { below = let count = are.count in omega (arith, low, count); missing = read ∙ none-of slot none; first = before }

pub are-lanes : (lanes : LanesOf) (row : List LaneOf) → AreSlots lanes → lanes.slots ≡ map Some row → AreLanes lanes.pool row
are-lanes lanes row are is =
    let in-slot : (number : ℕ) (lane : LaneOf) → slice_get row number ≡ Some lane → lane_at lanes number ≡ Some lane =
    λ number lane at. ap (λ (xs : List (Option LaneOf)). slice_index_or xs number None) is ∙ stands row number lane at in
    let count : length row ≡ lanes.pool.shape.lanes = sym (length-map row Some) ∙ (ap length (sym is) ∙ are.count) in record {
      alone = are.alone;
      count = count;
      owned = λ index lane at. (are.each index lane (in-slot index lane at)).0;
      all = λ number low. ⊎_elim
          (λ there. (number, there.0, there.2, (are.each number there.0 (in-slot number there.0 there.2)).1))
          (λ gone. let high = gone.0 in absurd (omega (arith, high, low, count)))
          (slice_get_cases row number).1;
    }

pub in-row-of : (lanes : LanesOf) (row : List LaneOf) → lanes.slots ≡ map Some row → AreInRow lanes row
in-row-of lanes row is number lane =
    let slot = ap (λ (xs : List (Option LaneOf)). slice_index_or xs number None) is in
    (λ at. slot ∙ stands row number lane at, λ here. stood row number lane (sym slot ∙ here))

pub same-pool : (one other : PoolOf) → one.table ≡ other.table → one.directory ≡ other.directory → one.shape ≡ other.shape → one ≡ other
same-pool one other tables directories shapes = λ i. record { table = tables i; directory = directories i; shape = shapes i }
