-- What holds of the row of a lane after a write, and what is seen of it.
use Rattle.std.proofs.Common.{◌≡◌, ℕ, ◌+◌, ◌-◌, ◌<◌, ◌≤◌, true, false, List, length, map, refl, sym, ap, ◌∙◌, subst, arith, length-set, Some, None, set}
use Rattle.std.specs.Prelude.{slice_get, slice_set, take}
use Rattle.std.specs.Option.{option_map}
use Rattle.std.proofs.lemmas.List.{map-set, length-map, length-take-le, set-get_or}
use Rattle.std.proofs.lemmas.Option.{slice_get-map, get_or_from_slice_get, slice_get_within}
use Rattle.std.proofs.Math.Seq.{map-set_same, take-set-lt}
use denote.RawPtr.{Ptr}
use Rattle.poolsteps.specs.declared.rows.Own.{Own}
use Rattle.poolsteps.specs.declared.rows.Own.TheVariants.{Away, Unused, Back, Whole}
use Rattle.poolsteps.specs.Objects.{ObjectsOf}
use Rattle.poolsteps.specs.Rows.{object_in, is_here, IsOwnOf, AreRows}
use Rattle.poolsteps.proofs.own_rows.RowLemmas.{set-each, get-take}

-- where no right is in use, no object waits
pub nothing-in : {T : Type 0} (own : Own T) → is_here own ≡ false → object_in own ≡ None
nothing-in Away none = refl
nothing-in (Unused _) none = absurd (cc none)
nothing-in (Back _) none = refl
nothing-in (Whole _) none = absurd (cc none)

module _ {T : Type 0} (directory : Ptr) (first places : ℕ) (row : List (Own T)) where
  -- what is seen of the row
  abbrev pub shown : ObjectsOf T
  shown = record { directory = directory; first = first; items = take places (map object_in row); rights = take places (map is_here row) }

  module _ (rows : AreRows directory first places row) where
    -- as many items are seen as there are own places
    pub items-seen : length (take places (map object_in row)) ≡ places
    items-seen = length-take-le places (map object_in row) (let long = length-map row object_in in let room = rows.room in omega (arith, long, room))

    -- and as many rights
    pub rights-seen : length (take places (map is_here row)) ≡ places
    rights-seen = length-take-le places (map is_here row) (let long = length-map row is_here in let room = rows.room in omega (arith, long, room))

  module _ (v : ObjectsOf T) (is : shown ≡ v) (start : ℕ) where
    -- a place that is seen to be the lane's own is one of the row's
    pub start-low : v.first ≤ start → first ≤ start
    start-low low = subst (λ (n : ℕ). n ≤ start) (sym (ap (λ (w : ObjectsOf T). w.first) is)) low

    module _ (rows : AreRows directory first places row) where
      pub start-high : start < v.first + length v.items → start < first + places
      start-high high =
          let long = items-seen rows in
          let same = ap (λ (w : ObjectsOf T). length w.items) is in
          let begin = ap (λ (w : ObjectsOf T). w.first) is in
          omega (arith, high, long, same, begin)

      -- so is one to which the right is seen
      pub right-high : v.first ≤ start → slice_get v.rights (start - v.first) ≡ Some true → start < first + places
      right-high low at =
          let within = slice_get_within v.rights (start - v.first) true at in
          let long = rights-seen rows in
          let same = ap (λ (w : ObjectsOf T). length w.rights) is in
          let begin = ap (λ (w : ObjectsOf T). w.first) is in
          omega (arith, low, within, long, same, begin)

    pub right-at : slice_get v.rights (start - v.first) ≡ Some true → slice_get (take places (map is_here row)) (start - first) ≡ Some true
    right-at at = subst (λ (w : ObjectsOf T). slice_get w.rights (start - w.first) ≡ Some true) (sym is) at

module _ {T : Type 0} (directory : Ptr) (first places : ℕ) (row : List (Own T)) (start : ℕ) where
  -- a place's own right may be written
  pub rows-set : first ≤ start → (own : Own T) → IsOwnOf directory start own → AreRows directory first places row
      → AreRows directory first places (slice_set row (start - first) own)
  rows-set low own is rows =
      let there : start ≡ first + (start - first) = omega (arith, low) in record {
        own = set-each (λ j o. IsOwnOf directory (first + j) o) row (start - first) own (subst (λ (n : ℕ). IsOwnOf directory n own) there is) (λ j z _ at. rows.own j z at);
        room = let same = length-set row (start - first) own in let room = rows.room in omega (arith, same, room);
        fits = let same = length-set row (start - first) own in let fits = rows.fits in omega (arith, same, fits);
      }

  -- what stands in the row is of its place
  pub own-at : first ≤ start → AreRows directory first places row → (own : Own T) → slice_get row (start - first) ≡ Some own → IsOwnOf directory start own
  own-at low rows own at =
      let there : first + (start - first) ≡ start = omega (arith, low) in
      subst (λ (n : ℕ). IsOwnOf directory n own) there (rows.own (start - first) own at)

  -- where nothing of what is seen of an entry is changed, all is seen as before
  pub shown-kept : (own old : Own T) → slice_get row (start - first) ≡ Some old → object_in own ≡ object_in old → is_here own ≡ is_here old
      → shown directory first places (slice_set row (start - first) own) ≡ shown directory first places row
  shown-kept own old at object here =
      let stood = sym (get_or_from_slice_get row (start - first) old old at) in
      let items = map-set_same object_in row (start - first) own old (object ∙ ap object_in stood) in
      let rights = map-set_same is_here row (start - first) own old (here ∙ ap is_here stood) in
      λ k. record { directory = directory; first = first; items = take places (items k); rights = take places (rights k) }

  module _ (low : first ≤ start) (high : start < first + places) where
    below : start - first < places
    below = omega (arith, low, high)

    -- the item at an entry
    pub item-at : (own : Own T) → slice_get row (start - first) ≡ Some own → slice_get (take places (map object_in row)) (start - first) ≡ Some (object_in own)
    item-at own at = get-take places (start - first) (map object_in row) below ∙ (slice_get-map object_in row (start - first) ∙ ap (option_map object_in) at)

    -- the right at an entry
    pub here-at : (own : Own T) → slice_get row (start - first) ≡ Some own → slice_get (take places (map is_here row)) (start - first) ≡ Some (is_here own)
    here-at own at = get-take places (start - first) (map is_here row) below ∙ (slice_get-map is_here row (start - first) ∙ ap (option_map is_here) at)

    take-map-set : {Y : Type 0} (f : Own T → Y) (own : Own T) → take places (map f (slice_set row (start - first) own)) ≡ slice_set (take places (map f row)) (start - first) (f own)
    take-map-set f own = ap (take places) (map-set f row (start - first) own) ∙ take-set-lt places (map f row) (start - first) (f own) below

    pub shown-set : (own : Own T) → shown directory first places (slice_set row (start - first) own)
        ≡ record (shown directory first places row) {
          items = slice_set (take places (map object_in row)) (start - first) (object_in own);
          rights = slice_set (take places (map is_here row)) (start - first) (is_here own);
        }
    shown-set own =
        let items = take-map-set object_in own in
        let rights = take-map-set is_here own in
        λ k. record { directory = directory; first = first; items = items k; rights = rights k }

    pub shown-here : (own : Own T) → slice_get (take places (map is_here row)) (start - first) ≡ Some true → is_here own ≡ true
        → shown directory first places (slice_set row (start - first) own)
        ≡ record (shown directory first places row) { items = slice_set (take places (map object_in row)) (start - first) (object_in own) }
    shown-here own at here =
        let had = take places (map is_here row) in
        let items = take-map-set object_in own in
        let rights = take-map-set is_here own ∙ (ap (set had (start - first)) (here ∙ sym (get_or_from_slice_get had (start - first) true true at)) ∙ set-get_or had (start - first) true) in
        λ k. record { directory = directory; first = first; items = items k; rights = rights k }
