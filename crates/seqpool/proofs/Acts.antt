-- Acts that are made by a write at one place.
use Rattle.std.proofs.Common.{◌≡◌, ◌≢◌, ℕ, ◌+◌, ◌<◌, Bool, true, false, cond, ◌==◌, List, Some, None, refl, sym, ap, ◌∙◌, arith, length, get_or, set}
use Rattle.std.proofs.lemmas.Bool.{and_from}
use Rattle.std.proofs.lemmas.List.{get_or_read}
use Rattle.keybits.specs.declared.shape.Shape.{Shape}
use Rattle.keybits.specs.Places.{shard_of}
use Rattle.keybits.specs.Shapes.{IsShape, is_place, position_of}
use Rattle.keybits.specs.Keys.{place_of}
use Rattle.seqpool.specs.declared.act.Act.TheVariants.{Publish, Get, Release, Clear, Reclaim, Home}
use Rattle.seqpool.specs.declared.row.Row.{Row}
use Rattle.seqpool.specs.Pool.{Phase, with, published, home, retired, Spot, spot, Pool, put, content_in, references_in, is_marked, is_unmarked, is_current, found, clears, references, Allowed, changed, after}
use Rattle.seqpool.specs.Rows.{spot_of, no_row, pool_of, with_spot, gained_spot, lost_spot, marked_spot}
use Rattle.seqpool.proofs.Rows.{pool-at, put-row, made}

module _ (z : Shape) where
  -- a row that is read is of its place
  pub row-read : (rows : List Row) (place position : ℕ) (row : Row) → is_place z place ≡ true → position ≡ position_of z place → position < length rows
      → row ≡ get_or rows position row → spot_of row ≡ pool_of z rows place
  row-read rows place position row is at below read =
      ap spot_of (get_or_read rows position row below read no_row ∙ ap (λ (n : ℕ). get_or rows n no_row) at) ∙ sym (pool-at z rows place is)

  -- a row that is changed in its place
  pub change-row : (rows : List Row) (place position : ℕ) (row left : Row) (f : Spot → Spot) → IsShape z → is_place z place ≡ true → position ≡ position_of z place
      → position < length rows → row ≡ get_or rows position row → spot_of left ≡ f (spot_of row)
      → pool_of z (set rows position left) ≡ with_spot (pool_of z rows) place (f (pool_of z rows place))
  change-row rows place position row left f checked is at below read changes =
      put-row z rows place position left checked is at below
      ∙ ap (with_spot (pool_of z rows) place) (changes ∙ ap f (row-read rows place position row is at below read))

  module _ (P Q : Pool) where
    pub publishes : (lane key place generation : ℕ) (content : List ℕ) (with_ref : Bool) (f : Phase) → is_current z P key ≡ true → place ≡ place_of key
        → (P place).phase ≡ with lane → (P place).generation ≡ generation
        → f ≡ published content (put (λ _. 0) lane (cond with_ref 1 0)) false → Q ≡ with_spot P place (spot generation f)
        → Allowed z P (Publish lane key content with_ref) × (Q ≡ after z (Publish lane key content with_ref) P)
    publishes lane key place generation content with_ref f here at is same_generation stands wrote =
        let there : (P (place_of key)).generation ≡ generation = ap (λ (p : ℕ). (P p).generation) (sym at) ∙ same_generation in
        let s : spot generation f ≡ changed z.last_generation (Publish lane key content with_ref) (P (place_of key))
        = ap (λ (g : ℕ). spot g f) (sym there) ∙ ap (spot (P (place_of key)).generation) stands in (
          (here, ap (λ (p : ℕ). (P p).phase) (sym at) ∙ is),
          made z P Q (Publish lane key content with_ref) place (place_of key) (spot generation f) (λ x. refl) at s wrote,
        )

    pub found-here : (key : ℕ) → is_current z P key ≡ true → found z P key ≡ content_in (P (place_of key)).phase
    found-here key here = ap (λ b. cond b (content_in (P (place_of key)).phase) None) here

    pub gets : (lane key place : ℕ) (content : List ℕ) → is_current z P key ≡ true → place ≡ place_of key → content_in (P place).phase ≡ Some content
        → Q ≡ with_spot P place (gained_spot lane (P place))
        → (Some content ≡ found z P key) × (Q ≡ after z (Get lane key (Some content)) P)
    gets lane key place content here at shows wrote = (
      sym (found-here key here ∙ (ap (λ (p : ℕ). content_in (P p).phase) (sym at) ∙ shows)),
      made z P Q (Get lane key (Some content)) place (place_of key) (gained_spot lane (P place)) (λ x. refl) at (ap (λ (p : ℕ). gained_spot lane (P p)) at) wrote,
    )

    pub releases : (lane key place : ℕ) → is_current z P key ≡ true → place ≡ place_of key → 0 < references_in (P place).phase lane
        → Q ≡ with_spot P place (lost_spot lane (P place))
        → (0 < references z P lane key) × (Q ≡ after z (Release lane key) P)
    releases lane key place here at some wrote =
        let e : references z P lane key ≡ references_in (P (place_of key)).phase lane = ap (λ b. cond b (references_in (P (place_of key)).phase lane) 0) here in
        let f : references_in (P place).phase lane ≡ references_in (P (place_of key)).phase lane = ap (λ (p : ℕ). references_in (P p).phase lane) at in (
          omega arith,
          made z P Q (Release lane key) place (place_of key) (lost_spot lane (P place)) (λ x. refl) at (ap (λ (p : ℕ). lost_spot lane (P p)) at) wrote,
        )

    pub clearing : (lane key place : ℕ) (reply : Bool) → is_current z P key ≡ true → place ≡ place_of key → is_unmarked (P place).phase ≡ true
        → Q ≡ with_spot P place (marked_spot (P place)) → reply ≡ true
        → (reply ≡ clears z P key) × (Q ≡ after z (Clear lane key reply) P)
    clearing lane key place reply here at unmarked wrote yes_reply =
        let there : is_unmarked (P (place_of key)).phase ≡ true = ap (λ (p : ℕ). is_unmarked (P p).phase) (sym at) ∙ unmarked in
        let m = made z P Q (Clear lane key true) place (place_of key) (marked_spot (P place)) (λ x. refl) at (ap (λ (p : ℕ). marked_spot (P p)) at) wrote in
        (yes_reply ∙ sym (and_from _ _ here there), m ∙ ap (λ (b : Bool). after z (Clear lane key b) P) (sym yes_reply))

    pub reclaims : (lane key place generation : ℕ) (s : Spot) → is_current z P key ≡ true → place ≡ place_of key → is_marked (P place).phase ≡ true
        → ((other : ℕ) → references_in (P place).phase other ≡ 0) → (P place).generation ≡ generation
        → s ≡ cond (generation == z.last_generation) (spot generation retired) (spot (generation + 1) (with lane)) → Q ≡ with_spot P place s
        → Allowed z P (Reclaim lane key) × (Q ≡ after z (Reclaim lane key) P)
    reclaims lane key place generation s here at marks none same is wrote =
        let there : (P (place_of key)).generation ≡ generation = ap (λ (p : ℕ). (P p).generation) (sym at) ∙ same in
        let t : s ≡ changed z.last_generation (Reclaim lane key) (P (place_of key))
        = is ∙ ap (λ (g : ℕ). cond (g == z.last_generation) (spot g retired) (spot (g + 1) (with lane))) (sym there) in (
          (here, ap (λ (p : ℕ). is_marked (P p).phase) (sym at) ∙ marks, λ other. ap (λ (p : ℕ). references_in (P p).phase other) (sym at) ∙ none other),
          made z P Q (Reclaim lane key) place (place_of key) s (λ x. refl) at t wrote,
        )

    pub homes : (lane place generation : ℕ) → is_place z place ≡ true → (P place).phase ≡ with lane → shard_of place ≢ lane → (P place).generation ≡ generation
        → Q ≡ with_spot P place (spot generation home)
        → Allowed z P (Home lane place) × (Q ≡ after z (Home lane place) P)
    homes lane place generation inside is other same wrote = (
      (inside, is, other),
      made z P Q (Home lane place) place place (spot generation home) (λ x. refl) refl (ap (λ (g : ℕ). spot g home) (sym same)) wrote,
    )
