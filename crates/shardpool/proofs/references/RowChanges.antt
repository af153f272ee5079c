-- What a row says to those who read it, and the rows that calls leave.
use Rattle.std.proofs.Common.{◌≡◌, ◌==◌, ℕ, ◌+◌, ◌-◌, ◌<◌, ◌≤◌, ◌≢◌, ◌⊎◌, inl, inr, Bool, true, false, cond, eqb, List, [], ◌∷◌, length, Option, Some, None, IsSome, IfSome, refl, sym, ap, ◌∙◌, subst, arith, eq-eqb, ne_eqb, slice_get, slice_set, slice_index_or, get_or, if◌then◌else◌}
use Rattle.std.proofs.lemmas.Option.{slice_get_within, slice_get-get_or, slice_get_cases, get_or_from_slice_get}
use Rattle.std.proofs.lemmas.List.Sums.{get_or-le-sum_by}
use mathlib.Core.Logic.{dite}
use native.Mathlib.Decide.{ℕ_discrete}
use Rattle.keybits.specs.declared.shape.Shape.{Shape}
use Rattle.keybits.specs.Shapes.{IsShape, is_place}
use Rattle.keybits.specs.Keys.{place_of, generation_of, is_key}
use Rattle.keybits.proofs.KeyLemmas.{key_parts}
use Rattle.seqpool.specs.declared.act.Act.{Act}
use Rattle.seqpool.specs.declared.act.Act.TheVariants as acts
use Rattle.seqpool.specs.Pool.{Pool, pool_after, references}
use Rattle.seqpool.specs.Histories.{PublishedAt, acts_of}
use Rattle.seqpool.proofs.Ranks.{current-key}
use Rattle.poolsteps.specs.Share.{Share}
use Rattle.poolsteps.proofs.shares.HeldContents.{held-current}
use Rattle.seatcalls.specs.declared.at.Reclaimed.{Reclaimed}
use Rattle.seatcalls.specs.declared.at.Reclaimed.TheVariants.{Own, Returned, Retired}
use Rattle.seatcalls.specs.Called.{end_acts}
use Rattle.poolsteps.specs.declared.view.View.{View}
use Rattle.poolsteps.specs.Views.{the_lane}
use Rattle.poolsteps.specs.Told.{references_seen}
use Rattle.poolsteps.specs.Layout.{slot_start}
use Rattle.poolsteps.proofs.SlotLemmas.{in-row}
use Rattle.poolsteps.specs.ViewLaws.{references_made}
use Rattle.shardpool.specs.HeldKeys.{HeldKey}
use Rattle.seatcalls.specs.Left.{held_after}
use Rattle.shardpool.specs.LaneStates.{IsHeld, FitsRow, FitsRows}
use Rattle.seatcalls.proofs.parts.Frames.{Passes, OnlyAt}
use Rattle.shardpool.proofs.frame.LaneFrames.{passes-refs, onlyat-append, onlyat-get, onlyat-publish, onlyat-release}
use Rattle.shardpool.proofs.references.Rows.{row-of-refs, row-made, row-none, row-counts, held-passes, rows-set}

-- ---- plain numbers

flipped : (a b : ℕ) → eqb a b ≡ eqb b a
flipped a b = dite (ℕ_discrete a b)
    (λ (same : a ≡ b). eq-eqb a b same ∙ sym (eq-eqb b a (sym same)))
    (λ (other : a ≢ b). ne_eqb a b other ∙ sym (ne_eqb b a (λ same. other (sym same))))

-- what changes the one number, in each case
changes : (f : ℕ → ℕ) (b : Bool) (n m : ℕ) → n ≡ cond b m 0 → cond b (f n) n ≡ cond b (f m) 0
changes f true n m is = ap f is
changes f false n m is = is

none-either : (b : Bool) → let n : ℕ = 0 in cond b n n ≡ n
none-either true = refl
none-either false = refl

grows : (b : Bool) (n : ℕ) → 0 < n → 0 < cond b (n + 1) n
grows true n some = omega (arith, some)
grows false n some = some

-- below its length a list has an element
stands-there : {X : Type 0} (xs : List X) (i : ℕ) → i < length xs → (x : X) × (slice_get xs i ≡ Some x)
stands-there {X = X} xs i low = known (slice_get_cases xs i).1
  where
    known : ((x : X) × (i < length xs) × (slice_get xs i ≡ Some x) × (get_or xs i x ≡ x)) ⊎ ((length xs ≤ i) × (slice_get xs i ≡ None)) → (x : X) × (slice_get xs i ≡ Some x)
    known (inl found) = (found.0, found.2)
    known (inr past) = let out = past.0 in absurd (omega (arith, out, low))

-- a key to which a lane refers is one of the shape, of the generation of its place
pub key-now : (z : Shape) (pool : Pool) (lane key : ℕ) → 0 < references z pool lane key → (is_key z key ≡ true) × ((pool (place_of key)).generation ≡ generation_of key)
key-now z pool lane key some = current-key z pool key (held-current z pool lane key some).0

-- ---- what the acts of calls leave of references

-- the references of a key after a call: those of the one key are changed so
abbrev pub ChangesRefs : Shape → View → View → ℕ → (ℕ → ℕ) → ℕ → Type 0
ChangesRefs z v w key f k = references_seen z w k ≡ (if k == key then f (references_seen z v k) else references_seen z v k)

module _ (z : Shape) (lane place generation : ℕ) {T : Type 0} where
  -- the acts by which a place is reclaimed change no references
  pub end-refs : (reclaimed : Option (Reclaimed T)) (key n : ℕ) → references_made (end_acts z lane place generation reclaimed) key n ≡ n
  end-refs None key n = refl
  end-refs (Some (Own whole)) key n = refl
  end-refs (Some Returned) key n = refl
  end-refs (Some Retired) key n = refl

  pub end-held : (reclaimed : Option (Reclaimed T)) (n : ℕ) → held_after (end_acts z lane place generation reclaimed) n ≡ n
  end-held None n = refl
  end-held (Some (Own whole)) n = refl
  end-held (Some Returned) n = refl
  end-held (Some Retired) n = refl

module _ {z : Shape} {at : ℕ → Bool} {v w : View} (lane key : ℕ) where
  pub refs-got : (content : List ℕ) → Passes z at (acts.Get lane key (Some content) ∷ []) v w → (the_lane v).mine ≡ acts_of (the_lane v).lane v.seen
      → (k : ℕ) → ChangesRefs z v w key (λ n. n + 1) k
  refs-got content passes own k = passes-refs passes own k ∙ ap (λ (b : Bool). cond b (references_seen z v k + 1) (references_seen z v k)) (flipped key k)

  pub refs-published : (content : List ℕ) → Passes z at (acts.Publish lane key content true ∷ []) v w → (the_lane v).mine ≡ acts_of (the_lane v).lane v.seen
      → (k : ℕ) → ChangesRefs z v w key (λ n. 1) k
  refs-published content passes own k = passes-refs passes own k ∙ ap (λ (b : Bool). cond b 1 (references_seen z v k)) (flipped key k)

  pub refs-released : (rest : List Act) → ((k n : ℕ) → references_made rest k n ≡ n) → Passes z at (acts.Release lane key ∷ rest) v w
      → (the_lane v).mine ≡ acts_of (the_lane v).lane v.seen → (k : ℕ) → ChangesRefs z v w key (λ n. n - 1) k
  refs-released rest leaves passes own k =
      passes-refs passes own k ∙ (leaves k _ ∙ ap (λ (b : Bool). cond b (references_seen z v k - 1) (references_seen z v k)) (flipped key k))

module _ {T : Type 0} {content : T → List ℕ} {room : T → ℕ} {z : Shape} where
  -- ---- rows that are read

  -- each place of the shape has a row
  pub rows-low : {v : View} {rows : List (HeldKey T)} {refs : ℕ} (place : ℕ) → FitsRows content room z v rows refs → is_place z place ≡ true → slot_start z place < length rows
  rows-low place fits inside = subst (λ (n : ℕ). slot_start z place < n) (sym fits.wide) (in-row z place inside)

  -- what was read there is the row of the place
  pub rows-stand : {v : View} {rows : List (HeldKey T)} {refs : ℕ} (place at : ℕ) (row : HeldKey T) → FitsRows content room z v rows refs → is_place z place ≡ true
      → at ≡ slot_start z place → row ≡ slice_index_or rows at row → slice_get rows (slot_start z place) ≡ Some row
  rows-stand {rows = rows} place at row fits inside here read =
      slice_get-get_or rows (slot_start z place) row (rows-low place fits inside)
      ∙ ap Some (sym (read ∙ ap (λ (n : ℕ). slice_index_or rows n row) here))

  pub rows-read : {v : View} {rows : List (HeldKey T)} {refs : ℕ} (place at : ℕ) (row : HeldKey T) → FitsRows content room z v rows refs → is_place z place ≡ true
      → at ≡ slot_start z place → row ≡ slice_index_or rows at row → FitsRow content room z v place row
  rows-read place at row fits inside here read = fits.each place row inside (rows-stand place at row fits inside here read)

  -- the references to a key are those that its place's row counts
  pub rows-counts : {v : View} {rows : List (HeldKey T)} {refs : ℕ} (key at : ℕ) → FitsRows content room z v rows refs → is_key z key ≡ true → at ≡ slot_start z (place_of key)
      → (count : ℕ) → ((row : HeldKey T) → slice_get rows at ≡ Some row → count ≡ (if generation_of key == row.generation then row.count else 0)) → count ≡ references_seen z v key
  rows-counts {rows = rows} key at fits inside here count counts =
      let place = (key_parts z key inside).place in
      let there = stands-there rows (slot_start z (place_of key)) (rows-low (place_of key) fits place) in
      counts there.0 (ap (slice_get rows) here ∙ there.1) ∙ sym ((fits.each (place_of key) there.0 place there.1).counts key inside refl)

  -- the references of a row are among all
  pub rows-count-le : {v : View} {rows : List (HeldKey T)} {refs : ℕ} (i : ℕ) (row : HeldKey T) → FitsRows content room z v rows refs → slice_get rows i ≡ Some row → row.count ≤ refs
  rows-count-le {rows = rows} i row fits stands =
      let most = get_or-le-sum_by (λ (r : HeldKey T). r.count) rows i row (slice_get_within rows i row stands) in
      let is = ap (λ (r : HeldKey T). r.count) (get_or_from_slice_get rows i row row stands) in
      let total = fits.total in omega (arith, most, is, total)

  -- a row with references has a share
  pub row-lends : {v : View} (place : ℕ) (row : HeldKey T) → FitsRow content room z v place row → 0 < row.count → IsSome row.share
  row-lends place row fits some = let h = fits.held some in subst (λ (o : Option (Share T)). IsSome o) (sym h.1) refl

  -- the object that the share of a key shows has the content of its Publish
  pub row-shows : {v : View} (key : ℕ) (row : HeldKey T) (object : T) → FitsRow content room z v (place_of key) row → 0 < references_seen z v key
      → IfSome row.share (λ share. object ≡ share.object) → (j : ℕ) × PublishedAt v.seen j key (content object)
  row-shows {v = v} key row object fits some shown =
      let of = row-of-refs key fits some in
      let h = fits.held of.2 in
      let same : object ≡ h.0.object = subst (λ (o : Option (Share T)). IfSome o (λ share. object ≡ share.object)) h.1 shown in
      subst (λ (x : T). (j : ℕ) × PublishedAt v.seen j key (content x)) (sym same) (h.2.shows key of.0 refl of.1)

  -- ---- rows that calls leave

  -- the references of a place's keys, where those of the row's key were changed
  row-steps : {v : View} (w : View) {place : ℕ} (key : ℕ) (f : ℕ → ℕ) {row : HeldKey T} → FitsRow content room z v place row → is_key z key ≡ true → place_of key ≡ place
      → (0 < row.count → generation_of key ≡ row.generation) → ((k : ℕ) → is_key z k ≡ true → place_of k ≡ place → ChangesRefs z v w key f k)
      → (k : ℕ) → is_key z k ≡ true → place_of k ≡ place → references_seen z w k ≡ (if k == key then f row.count else 0)
  row-steps {v = v} w key f {row = row} fits inside here same goes k inside_k here_k =
      goes k inside_k here_k ∙ changes f (eqb k key) (references_seen z v k) row.count (row-counts key fits inside here same k inside_k here_k)

  -- a place without references gets the first to a key
  pub row-begun : {v w : View} {place : ℕ} (key : ℕ) {row : HeldKey T} (share : Share T) → FitsRow content room z v place row → row.count ≡ 0
      → is_key z key ≡ true → place_of key ≡ place → ((k : ℕ) → is_key z k ≡ true → place_of k ≡ place → ChangesRefs z v w key (λ n. n + 1) k)
      → IsHeld content room z w place (generation_of key) share
      → FitsRow content room z w place (record { generation = generation_of key; count = 1; share = Some share })
  row-begun {w = w} {place = place} key {row = row} share fits none inside here goes held =
      row-made place key 1 share inside here (λ k inside_k here_k.
      row-steps w key (λ n. n + 1) fits inside here (λ some. absurd (omega (arith, some, none))) goes k inside_k here_k
      ∙ ap (λ (n : ℕ). cond (eqb k key) (n + 1) 0) none) held

  -- a place without references is published with one
  pub row-published : {v w : View} {place : ℕ} (key : ℕ) {row : HeldKey T} (share : Share T) → FitsRow content room z v place row → row.count ≡ 0
      → is_key z key ≡ true → place_of key ≡ place → ((k : ℕ) → is_key z k ≡ true → place_of k ≡ place → ChangesRefs z v w key (λ n. 1) k)
      → IsHeld content room z w place (generation_of key) share
      → FitsRow content room z w place (record { generation = generation_of key; count = 1; share = Some share })
  row-published {w = w} {place = place} key share fits none inside here goes held =
      row-made place key 1 share inside here (row-steps w key (λ n. 1) fits inside here (λ some. absurd (omega (arith, some, none))) goes) held

  -- a row with this key and share
  row-as : {w : View} {place : ℕ} (key n : ℕ) (share : Share T) (row : HeldKey T) (s : Option (Share T)) → generation_of key ≡ row.generation → s ≡ Some share
      → FitsRow content room z w place (record { generation = generation_of key; count = n; share = Some share })
      → FitsRow content room z w place (record row { count = n; share = s })
  row-as {w = w} {place = place} key n share row s same is fits =
      subst (λ (o : Option (Share T)). FitsRow content room z w place (record row { count = n; share = o })) (sym is)
      (subst (λ (g : ℕ). FitsRow content room z w place (record { generation = g; count = n; share = Some share })) same fits)

  -- a key that gets a reference beside those of its row is the row's
  again-same : {v : View} (w : View) {place : ℕ} (key : ℕ) {row : HeldKey T} → FitsRow content room z v place row → 0 < row.count → place_of key ≡ place
      → ((k : ℕ) → is_key z k ≡ true → place_of k ≡ place → ChangesRefs z v w key (λ n. n + 1) k) → 0 < references_seen z w key → generation_of key ≡ row.generation
  again-same {v = v} w key {row = row} fits some here goes now =
      let k1 = fits.keyed some in
      let was = fits.counts k1.0 k1.1 k1.2 ∙ ap (λ (b : Bool). cond b row.count 0) (eq-eqb (generation_of k1.0) row.generation k1.3) in
      let is = goes k1.0 k1.1 k1.2 in
      let more = grows (eqb k1.0 key) (references_seen z v k1.0) (omega (arith, was, some)) in
      let one = key-now z (pool_after z w.seen) (the_lane w).lane k1.0 (subst (λ (n : ℕ). 0 < n) (sym is) more) in
      let two = key-now z (pool_after z w.seen) (the_lane w).lane key now in
      let there = here ∙ sym k1.2 in
      sym two.1 ∙ (ap (λ (p : ℕ). (pool_after z w.seen p).generation) there ∙ one.1) ∙ k1.3

  module _ {at : ℕ → Bool} {made : List Act} {v w : View} (passes : Passes z at made v w) (own : (the_lane v).mine ≡ acts_of (the_lane v).lane v.seen) where
    -- a row gets one reference more
    pub row-again : {place : ℕ} (key : ℕ) {row : HeldKey T} → FitsRow content room z v place row → 0 < row.count → at place ≡ false → place_of key ≡ place
        → ((k : ℕ) → is_key z k ≡ true → place_of k ≡ place → ChangesRefs z v w key (λ n. n + 1) k) → 0 < references_seen z w key
        → (generation_of key ≡ row.generation) × FitsRow content room z w place (record row { count = row.count + 1 })
    row-again {place = place} key {row = row} fits some off here goes now =
        let same = again-same w key fits some here goes now in
        let inside = (key-now z (pool_after z w.seen) (the_lane w).lane key now).0 in
        let h = fits.held some in
        let held = subst (λ (g : ℕ). IsHeld content room z w place g h.0) (sym same) (held-passes passes own h.2 off) in (
          same,
          row-as key (row.count + 1) h.0 row row.share same h.1
              (row-made place key (row.count + 1) h.0 inside here (row-steps w key (λ n. n + 1) fits inside here (λ _. same) goes) held),
        )

    -- a row gets one reference less: where it then has none, whatever share it has
    pub row-released : {place : ℕ} (key : ℕ) {row : HeldKey T} (s : Option (Share T)) → FitsRow content room z v place row → place_of key ≡ place
        → 0 < references_seen z v key → ((k : ℕ) → is_key z k ≡ true → place_of k ≡ place → ChangesRefs z v w key (λ n. n - 1) k)
        → (1 < row.count → (at place ≡ false) × (s ≡ row.share)) → FitsRow content room z w place (record row { count = row.count - 1; share = s })
    row-released {place = place} key {row = row} s fits here some goes stays =
        let of = row-of-refs key (subst (λ (p : ℕ). FitsRow content room z v p row) (sym here) fits) some in
        let counts = row-steps w key (λ n. n - 1) fits of.0 here (λ _. of.1) goes in
        let inside = of.0 in
        dite (ℕ_discrete (row.count - 1) 0)
        (λ (last : row.count - 1 ≡ 0).
        subst (λ (n : ℕ). FitsRow content room z w place (record row { count = n; share = s })) (sym last)
        (row-none place row.generation s (λ k inside_k here_k.
        counts k inside_k here_k ∙ (ap (λ (n : ℕ). cond (eqb k key) n 0) last ∙ none-either (eqb k key)))))
        (λ (more : row.count - 1 ≢ 0).
        let h = fits.held of.2 in
        let kept = stays (omega (arith, more)) in
        let held = subst (λ (g : ℕ). IsHeld content room z w place g h.0) (sym of.1) (held-passes passes own h.2 kept.0) in
        row-as key (row.count - 1) h.0 row s of.1 (kept.1 ∙ h.1)
        (row-made place key (row.count - 1) h.0 inside here counts held))

  -- ---- all rows, after a call of a key

  module _ {v : View} (own : (the_lane v).mine ≡ acts_of (the_lane v).lane v.seen) (shape : IsShape z) {rows : List (HeldKey T)} {refs : ℕ}
      (fits : FitsRows content room z v rows refs) (lane key : ℕ) (inside : is_key z key ≡ true) (row : HeldKey T)
      (stood : slice_get rows (slot_start z (place_of key)) ≡ Some row) where
    was : FitsRow content room z v (place_of key) row
    was = fits.each (place_of key) row (key_parts z key inside).place stood

    -- a get of a key to which the lane had no reference
    pub rows-got-first : {at : ℕ → Bool} {w : View} → ((p : ℕ) → p ≢ place_of key → at p ≡ false) → (bytes : List ℕ) (share : Share T) → Passes z at (acts.Get lane key (Some bytes) ∷ []) v w → row.count ≡ 0
        → IsHeld content room z w (place_of key) (generation_of key) share
        → FitsRows content room z w (slice_set rows (slot_start z (place_of key)) (record { generation = generation_of key; count = 1; share = Some share })) (refs + 1)
    rows-got-first off bytes share passes none held =
        rows-set passes own (place_of key) row (record { generation = generation_of key; count = 1; share = Some share }) shape fits (key_parts z key inside).place stood off
        (onlyat-get lane key (Some bytes)) (row-begun key share was none inside refl (λ k _ _. refs-got lane key bytes passes own k) held) refl (omega (arith, none))

    -- and of one to which it had
    pub rows-got-again : {at : ℕ → Bool} {w : View} → ((p : ℕ) → p ≢ place_of key → at p ≡ false) → (bytes : List ℕ) → Passes z at (acts.Get lane key (Some bytes) ∷ []) v w → 0 < row.count → at (place_of key) ≡ false
        → (generation_of key ≡ row.generation)
        × FitsRows content room z w (slice_set rows (slot_start z (place_of key)) (record row { count = row.count + 1 })) (refs + 1)
    rows-got-again {w = w} off bytes passes some still =
        let goes = refs-got lane key bytes passes own in
        let here : references_seen z w key ≡ references_seen z v key + 1
        = goes key ∙ ap (λ (b : Bool). cond b (references_seen z v key + 1) (references_seen z v key)) (eq-eqb key key refl) in
        let again = row-again passes own key was some still refl (λ k _ _. goes k) (omega (arith, here)) in (
          again.0,
          rows-set passes own (place_of key) row (record row { count = row.count + 1 }) shape fits (key_parts z key inside).place stood off
              (onlyat-get lane key (Some bytes)) again.1 refl (omega arith),
        )

    -- a publish with a reference
    pub rows-published : {at : ℕ → Bool} {w : View} → ((p : ℕ) → p ≢ place_of key → at p ≡ false) → (bytes : List ℕ) (share : Share T) → Passes z at (acts.Publish lane key bytes true ∷ []) v w → row.count ≡ 0
        → IsHeld content room z w (place_of key) (generation_of key) share
        → FitsRows content room z w (slice_set rows (slot_start z (place_of key)) (record { generation = generation_of key; count = 1; share = Some share })) (refs + 1)
    rows-published off bytes share passes none held =
        rows-set passes own (place_of key) row (record { generation = generation_of key; count = 1; share = Some share }) shape fits (key_parts z key inside).place stood off
        (onlyat-publish lane key bytes true) (row-published key share was none inside refl (λ k _ _. refs-published lane key bytes passes own k) held) refl (omega (arith, none))

    -- a release, and acts of the place behind it that change no references
    pub rows-released : {at : ℕ → Bool} {w : View} → ((p : ℕ) → p ≢ place_of key → at p ≡ false) → (rest : List Act) (s : Option (Share T)) → Passes z at (acts.Release lane key ∷ rest) v w → OnlyAt (place_of key) rest
        → ((k n : ℕ) → references_made rest k n ≡ n) → ((n : ℕ) → held_after rest n ≡ n) → 0 < references_seen z v key
        → (1 < row.count → (at (place_of key) ≡ false) × (s ≡ row.share))
        → FitsRows content room z w (slice_set rows (slot_start z (place_of key)) (record row { count = row.count - 1; share = s })) (refs - 1)
    rows-released off rest s passes only leaves holds some stays =
        let of = row-of-refs key was some in
        let most = rows-count-le (slot_start z (place_of key)) row fits stood in
        let has = of.2 in
        rows-set passes own (place_of key) row (record row { count = row.count - 1; share = s }) shape fits (key_parts z key inside).place stood off
        (onlyat-append (place_of key) (acts.Release lane key ∷ []) rest (onlyat-release lane key) only)
        (row-released passes own key s was refl some (λ k _ _. refs-released lane key rest leaves passes own k) stays)
        (sym (holds (refs - 1))) (omega (arith, most, has))
