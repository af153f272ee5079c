-- How the rows of a lane go on fitting what it has seen and did.
use Rattle.std.proofs.Common.{◌≡◌, ◌≢◌, ◌==◌, ℕ, ◌+◌, ◌<◌, Bool, true, false, cond, eqb, List, [], ◌∷◌, ◌++◌, length, Option, Some, refl, sym, ap, ◌∙◌, subst, arith, eq-eqb, ne_eqb, slice_get, slice_set, get_or-set_other, length-set, if◌then◌else◌}
use Rattle.std.proofs.lemmas.Option.{slice_get_within, slice_get-get_or, get_or_from_slice_get}
use Rattle.std.proofs.lemmas.List.Sums.{sum_by-set}
use mathlib.Core.Logic.{dite}
use native.Mathlib.Decide.{ℕ_discrete}
use Rattle.keybits.specs.declared.shape.Shape.{Shape}
use Rattle.keybits.specs.Shapes.{callers, IsShape, is_place}
use Rattle.keybits.specs.Keys.{place_of, generation_of, is_key}
use Rattle.seqpool.specs.declared.act.Act.{Act}
use Rattle.seqpool.specs.Pool.{Phase, pool_after, IsLegal}
use Rattle.seqpool.specs.Histories.{PublishedAt, acts_of}
use Rattle.seqpool.proofs.Ranks.{same-key, current-key}
use Rattle.poolsteps.specs.declared.view.Status.TheVariants.{Emptied}
use Rattle.poolsteps.specs.Shares.{IsKept}
use Rattle.poolsteps.specs.Share.{Share}
use Rattle.poolsteps.proofs.shares.HeldContents.{held-content-law, held-current}
use Rattle.poolsteps.specs.declared.view.View.{View}
use Rattle.poolsteps.specs.Views.{the_lane, status_of, known_of}
use Rattle.poolsteps.specs.Told.{references_seen}
use Rattle.poolsteps.specs.ViewLaws.{references_made}
use Rattle.poolsteps.specs.Moved.{stored_of}
use Rattle.poolsteps.specs.Layout.{slot_start}
use Rattle.poolsteps.proofs.SlotLemmas.{start-injective}
use Rattle.shardpool.specs.HeldKeys.{HeldKey}
use Rattle.seatcalls.specs.Left.{held_with, held_after}
use Rattle.shardpool.specs.LaneStates.{IsHeld, FitsRow, FitsRows}
use Rattle.seatcalls.proofs.parts.Frames.{Passes, OnlyAt}
use Rattle.shardpool.proofs.frame.LaneFrames.{passes-refs, refs-elsewhere}
use Rattle.shardpool.proofs.frame.KeptPlaces.{published-passes}
use Rattle.shardpool.proofs.free.Stores.{stands-here}

pub either-same : (b : Bool) (n : ℕ) → cond b n n ≡ n
either-same true n = refl
either-same false n = refl

-- ---- acts one after another

pub held-append : (made more : List Act) (n : ℕ) → held_after (made ++ more) n ≡ held_after more (held_after made n)
held-append [] more n = refl
held-append (act ∷ made) more n = held-append made more (held_with act n)

by-acts : (mine made after : List Act) (refs : ℕ) → after ≡ mine ++ made → refs ≡ held_after mine 0 → held_after made refs ≡ held_after after 0
by-acts mine made after refs grown is = ap (held_after made) is ∙ (sym (held-append mine made 0) ∙ ap (λ (acts_so : List Act). held_after acts_so 0) (sym grown))

-- two keys of a place are one where their generations are
pub eqb-generations : (z : Shape) (k key : ℕ) → is_key z k ≡ true → is_key z key ≡ true → place_of k ≡ place_of key → eqb k key ≡ eqb (generation_of k) (generation_of key)
eqb-generations z k key inside_k inside here = dite (ℕ_discrete (generation_of k) (generation_of key))
    (λ (same : generation_of k ≡ generation_of key). eq-eqb k key (same-key z k key inside_k inside here same) ∙ sym (eq-eqb (generation_of k) (generation_of key) same))
    (λ (other : generation_of k ≢ generation_of key). ne_eqb k key (λ (same : k ≡ key). other (ap generation_of same)) ∙ sym (ne_eqb (generation_of k) (generation_of key) other))

module _ {T : Type 0} {content : T → List ℕ} {room : T → ℕ} {z : Shape} where
  -- ---- a row by itself

  -- a key to which the lane refers is that of its row
  pub row-of-refs : {v : View} (key : ℕ) {row : HeldKey T} → FitsRow content room z v (place_of key) row → 0 < references_seen z v key
      → (is_key z key ≡ true) × (generation_of key ≡ row.generation) × (0 < row.count) × (references_seen z v key ≡ row.count)
  row-of-refs {v = v} key {row = row} fits some =
      let inside = (current-key z (pool_after z v.seen) key (held-current z (pool_after z v.seen) (the_lane v).lane key some).0).0 in
      let counts = fits.counts key inside refl in dite (ℕ_discrete (generation_of key) row.generation)
      (λ (same : generation_of key ≡ row.generation).
      let is = ap (λ (b : Bool). cond b row.count 0) (eq-eqb (generation_of key) row.generation same) in (inside, same, omega (arith, some, counts, is), counts ∙ is))
      (λ (other : generation_of key ≢ row.generation).
      let is = ap (λ (b : Bool). cond b row.count 0) (ne_eqb (generation_of key) row.generation other) in absurd (omega (arith, some, counts, is)))

  -- a row of so many references to one key of the place, under which this share stands
  pub row-made : {w : View} (place key n : ℕ) (share : Share T) → is_key z key ≡ true → place_of key ≡ place
      → ((k : ℕ) → is_key z k ≡ true → place_of k ≡ place → references_seen z w k ≡ (if k == key then n else 0))
      → IsHeld content room z w place (generation_of key) share
      → FitsRow content room z w place (record { generation = generation_of key; count = n; share = Some share })
  row-made place key n share inside here counts held = record {
    counts = λ k inside_k here_k. counts k inside_k here_k ∙ ap (λ (b : Bool). cond b n 0) (eqb-generations z k key inside_k inside (here_k ∙ sym here));
    keyed = λ some. (key, inside, here, refl);
    held = λ some. (share, refl, held);
  }

  -- a row without references
  pub row-none : {w : View} (place generation : ℕ) (share : Option (Share T)) → ((k : ℕ) → is_key z k ≡ true → place_of k ≡ place → references_seen z w k ≡ 0)
      → FitsRow content room z w place (record { generation = generation; count = 0; share = share })
  row-none place generation share counts = record {
    counts = λ k inside here. counts k inside here ∙ sym (either-same (eqb (generation_of k) generation) 0);
    keyed = λ some. absurd (omega (arith, some));
    held = λ some. absurd (omega (arith, some));
  }

  -- the keys of a row's place have the references of its key, and no others have any
  pub row-counts : {v : View} {place : ℕ} (key : ℕ) {row : HeldKey T} → FitsRow content room z v place row → is_key z key ≡ true → place_of key ≡ place
      → (0 < row.count → generation_of key ≡ row.generation)
      → (k : ℕ) → is_key z k ≡ true → place_of k ≡ place → references_seen z v k ≡ (if k == key then row.count else 0)
  row-counts {v = v} {place = place} key {row = row} fits inside here same k inside_k here_k = dite (ℕ_discrete row.count 0)
      (λ (none : row.count ≡ 0).
      let is = fits.counts k inside_k here_k in
      is ∙ ap (λ (n : ℕ). cond (eqb (generation_of k) row.generation) n 0) none ∙ either-same (eqb (generation_of k) row.generation) 0 ∙ sym (either-same (eqb k key) 0)
      ∙ ap (λ (n : ℕ). cond (eqb k key) n 0) (sym none))
      (λ (some : row.count ≢ 0).
      let is = same (omega (arith, some)) in
      fits.counts k inside_k here_k ∙ (ap (λ (other : ℕ). cond (eqb (generation_of k) other) row.count 0) (sym is)
      ∙ ap (λ (b : Bool). cond b row.count 0) (sym (eqb-generations z k key inside_k inside (here_k ∙ sym here)))))

  -- the share that shows the content of a key to which the lane refers is held under it
  pub held-made : {w : View} (key r : ℕ) (share : Share T) → IsLegal z w.seen → 0 < references_seen z w key
      → share.number ≡ (the_lane w).lane → share.of ≡ callers z → status_of (the_lane w) (place_of key) (the_lane w).lane ≡ Emptied
      → known_of (the_lane w) (place_of key) ≡ stored_of content room share
      → IsKept (stored_of content room share) r (pool_after z w.seen (place_of key)).phase → IsHeld content room z w (place_of key) (generation_of key) share
  held-made {w = w} key r share legal some number of emptied known kept =
      let told = held-content-law z w.seen (the_lane w).lane key legal some in
      let inside = (current-key z (pool_after z w.seen) key (held-current z (pool_after z w.seen) (the_lane w).lane key some).0).0 in
      let shown = subst (λ (f : Phase). IsKept (stored_of content room share) r f) told.3 kept in record {
        number_is = number;
        of_is = of;
        emptied = emptied;
        known = known;
        shows = λ k inside_k here g.
            let same : k ≡ key = same-key z k key inside_k inside here g in (
              told.4,
              subst (λ (x : ℕ). PublishedAt w.seen told.4 x (content share.object)) (sym same)
                  (subst (λ (bytes : List ℕ). PublishedAt w.seen told.4 key bytes) (sym shown.0) told.5),
            );
      }

  -- ---- over what a lane did

  module _ {at : ℕ → Bool} {made : List Act} {v w : View} (passes : Passes z at made v w) (own : (the_lane v).mine ≡ acts_of (the_lane v).lane v.seen) where
    pub held-passes : {place generation : ℕ} {s : Share T} → IsHeld content room z v place generation s → at place ≡ false → IsHeld content room z w place generation s
    held-passes {place = place} {s = s} held off = record {
      number_is = held.number_is ∙ sym passes.acted.lane;
      of_is = held.of_is;
      emptied = ap (λ (l : ℕ). status_of (the_lane w) place l) passes.acted.lane ∙ (passes.deeds place (the_lane v).lane off ∙ held.emptied);
      known = passes.cells place off ∙ held.known;
      shows = λ key inside here g. let j = held.shows key inside here g in
          (j.0, published-passes v.seen w.seen j.0 key (content s.object) passes.acted.seen j.1);
    }

    -- a row at whose place no slot was touched, and of whose keys no reference came or went
    pub row-passes : {place : ℕ} {row : HeldKey T} → FitsRow content room z v place row → (0 < row.count → at place ≡ false)
        → ((key n : ℕ) → place_of key ≡ place → references_made made key n ≡ n) → FitsRow content room z w place row
    row-passes fits off same = record {
      counts = λ key inside here. passes-refs passes own key ∙ (same key (references_seen z v key) here ∙ fits.counts key inside here);
      keyed = fits.keyed;
      held = λ some. let h = fits.held some in (h.0, h.1, held-passes h.2 (off some));
    }

    -- all rows, none of which was written
    pub rows-pass : {rows : List (HeldKey T)} {refs : ℕ} → FitsRows content room z v rows refs
        → ((place : ℕ) (row : HeldKey T) → is_place z place ≡ true → slice_get rows (slot_start z place) ≡ Some row → FitsRow content room z v place row
        → (0 < row.count → at place ≡ false) × ((key n : ℕ) → place_of key ≡ place → references_made made key n ≡ n))
        → held_after made refs ≡ refs → FitsRows content room z w rows refs
    rows-pass {refs = refs} fits still same = record {
      wide = fits.wide;
      total = fits.total;
      by_acts = sym same ∙ by-acts (the_lane v).mine made (the_lane w).mine refs passes.acted.mine fits.by_acts;
      each = λ place row inside is.
          let was = fits.each place row inside is in
          let kept = still place row inside is was in row-passes was kept.0 kept.1;
    }

    -- one row was written
    pub rows-set : {rows : List (HeldKey T)} {refs now : ℕ} (place : ℕ) (old row : HeldKey T) → IsShape z → FitsRows content room z v rows refs → is_place z place ≡ true
        → slice_get rows (slot_start z place) ≡ Some old → ((p : ℕ) → p ≢ place → at p ≡ false) → OnlyAt place made
        → FitsRow content room z w place row → now ≡ held_after made refs → now + old.count ≡ refs + row.count
        → FitsRows content room z w (slice_set rows (slot_start z place) row) now
    rows-set {rows = rows} {refs = refs} {now = now} place old row shape fits inside stood off only fit is sum =
        let i : ℕ = slot_start z place in
        let low : i < length rows = slice_get_within rows i old stood in
        let count : HeldKey T → ℕ = λ r. r.count in record {
          wide = length-set rows i row ∙ fits.wide;
          total =
              let set_so = sum_by-set count rows i row row low in
              let was = ap count (get_or_from_slice_get rows i old row stood) in
              let total = fits.total in omega (arith, set_so, was, total, sum);
          by_acts = is ∙ by-acts (the_lane v).mine made (the_lane w).mine refs passes.acted.mine fits.by_acts;
          each = λ p r inside_p stands. dite (ℕ_discrete p place)
              (λ (here : p ≡ place).
              let so : Some row ≡ Some r = sym (stands-here rows i row low) ∙ (ap (λ (q : ℕ). slice_get (slice_set rows i row) (slot_start z q)) (sym here) ∙ stands) in
              let same : row ≡ r = cc so in
              subst (λ (x : HeldKey T). FitsRow content room z w p x) same (subst (λ (q : ℕ). FitsRow content room z w q row) (sym here) fit))
              (λ (there : p ≢ place).
              let j : ℕ = slot_start z p in
              let apart : j ≢ i = λ same. there (start-injective z p place inside_p inside same) in
              let inside_j : j < length rows = subst (λ (n : ℕ). j < n) (length-set rows i row) (slice_get_within (slice_set rows i row) j r stands) in
              let before : slice_get rows j ≡ Some r
              = slice_get-get_or rows j r inside_j ∙ ap Some (sym (get_or-set_other rows i j row r apart) ∙ get_or_from_slice_get (slice_set rows i row) j r r stands) in
              row-passes (fits.each p r inside_p before) (λ some. off p there) (λ key n here. refs-elsewhere place key made only (λ at_place. there (sym here ∙ at_place)) n));
        }
