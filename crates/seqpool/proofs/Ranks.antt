-- The rank of a place, three for each generation: it rises by one where a key of the place is published, cleared or reclaimed, and never falls.
use Rattle.std.proofs.Common.{◌≡◌, ℕ, zero, suc, ◌+◌, ◌*◌, ◌/◌, ◌≤◌, Bool, true, false, cond, eqb, ◌==◌, List, [], ◌∷◌, take, Some, None, refl, sym, ap, ◌∙◌, subst, arith, eq-eqb, ne_eqb, eqb-true, inl, inr}
use Rattle.std.proofs.lemmas.Bool.{and_parts, cases_Bool}
use mathlib.Core.Logic.{dite}
use native.Mathlib.Decide.{ℕ_discrete}
use Rattle.keybits.specs.declared.shape.Shape.{Shape}
use Rattle.keybits.specs.Keys.{place_of, generation_of, is_key}
use Rattle.seqpool.specs.declared.act.Act.{Act}
use Rattle.seqpool.specs.declared.act.Act.TheVariants.{Publish, Get, Release, Clear, Reclaim, Home, Collect}
use Rattle.seqpool.specs.Pool.{Phase, with, published, home, retired, Spot, Pool, spot, content_in, is_marked, is_unmarked, gained, lost, marked, is_current, has, AllHome, Allowed, touches, changed, after, pool_from, LegalFrom}
use Rattle.seqpool.specs.Histories.{At}
use Rattle.seqpool.proofs.Growth.{after-here, after-else}

abbrev pub level : Phase → ℕ
level (with k) = 0
level (published content references false) = 1
level (published content references true) = 2
level home = 0
level retired = 2

abbrev pub rank : Spot → ℕ
rank s = 3 * s.generation + level s.phase

pub level-le : (f : Phase) → level f ≤ 2
level-le (with k) = omega arith
level-le (published content references false) = omega arith
level-le (published content references true) = omega arith
level-le home = omega arith
level-le retired = omega arith

-- a key of the shape is told by its place and its generation
pub same-key : (z : Shape) (a b : ℕ) → is_key z a ≡ true → is_key z b ≡ true → place_of a ≡ place_of b → generation_of a ≡ generation_of b → a ≡ b
same-key z a b ka kb places generations =
    let pa = and_parts _ _ (and_parts _ _ (and_parts _ _ ka).0).0 in
    let pb = and_parts _ _ (and_parts _ _ (and_parts _ _ kb).0).0 in
    let ta : a / 72057594037927936 ≡ z.tag = eqb-true _ _ pa.0 in
    let tb : b / 72057594037927936 ≡ z.tag = eqb-true _ _ pb.0 in
    omega arith

-- a key that is at its place
pub current-key : (z : Shape) (P : Pool) (key : ℕ) → is_current z P key ≡ true → (is_key z key ≡ true) × ((P (place_of key)).generation ≡ generation_of key)
current-key z P key is = let parts = and_parts _ _ is in (parts.0, eqb-true _ _ parts.1)

pub current-from : (z : Shape) (P : Pool) (key : ℕ) → is_key z key ≡ true → (P (place_of key)).generation ≡ generation_of key → is_current z P key ≡ true
current-from z P key inside same = rw inside (eq-eqb _ _ same)

pub level-with : (f : Phase) (k : ℕ) → f ≡ with k → level f ≡ 0
level-with f k is = ap level is

pub level-marked : (f : Phase) → is_marked f ≡ true → level f ≡ 2
level-marked (with k) is = absurd (cc is)
level-marked (published content references true) is = refl
level-marked (published content references false) is = absurd (cc is)
level-marked home is = absurd (cc is)
level-marked retired is = absurd (cc is)

pub level-content : (f : Phase) (content : List ℕ) → content_in f ≡ Some content → level f ≡ 1
level-content (with k) content is = absurd (cc is)
level-content (published c references true) content is = absurd (cc is)
level-content (published c references false) content is = refl
level-content home content is = absurd (cc is)
level-content retired content is = absurd (cc is)

clears-level : (f : Phase) → is_unmarked f ≡ true → (level f ≡ 1) × (level (marked f) ≡ 2)
clears-level (with k) is = absurd (cc is)
clears-level (published c references true) is = absurd (cc is)
clears-level (published c references false) is = (refl, refl)
clears-level home is = absurd (cc is)
clears-level retired is = absurd (cc is)

gained-same : (lane : ℕ) (f : Phase) → (level (gained lane f) ≡ level f) × (content_in (gained lane f) ≡ content_in f)
gained-same lane (with k) = (refl, refl)
gained-same lane (published c references true) = (refl, refl)
gained-same lane (published c references false) = (refl, refl)
gained-same lane home = (refl, refl)
gained-same lane retired = (refl, refl)

lost-same : (lane : ℕ) (f : Phase) → (level (lost lane f) ≡ level f) × (content_in (lost lane f) ≡ content_in f)
lost-same lane (with k) = (refl, refl)
lost-same lane (published c references true) = (refl, refl)
lost-same lane (published c references false) = (refl, refl)
lost-same lane home = (refl, refl)
lost-same lane retired = (refl, refl)

-- a key of this place
pub record IsOf (z : Shape) (at key : ℕ) : Type 0 where
  pub place : at ≡ place_of key
  pub inside : is_key z key ≡ true

-- how an act moves the place from s to t
pub data Moves (z : Shape) (place : ℕ) (act : Act) (s t : Spot) : Type 0 where
  rests : rank t ≡ rank s → content_in t.phase ≡ content_in s.phase → Moves z place act s t
  fills : (lane key : ℕ) (content : List ℕ) (with_ref : Bool) → act ≡ Publish lane key content with_ref → IsOf z place key
      → rank s ≡ 3 * generation_of key → rank t ≡ 3 * generation_of key + 1 → content_in t.phase ≡ Some content → Moves z place act s t
  shuts : (lane key : ℕ) → act ≡ Clear lane key true → IsOf z place key
      → rank s ≡ 3 * generation_of key + 1 → rank t ≡ 3 * generation_of key + 2 → Moves z place act s t
  frees : (lane key : ℕ) → act ≡ Reclaim lane key → IsOf z place key
      → rank s ≡ 3 * generation_of key + 2 → 3 * generation_of key + 2 ≤ rank t → rank t ≤ 3 * generation_of key + 3 → Moves z place act s t

module _ (z : Shape) where
  still : (place : ℕ) (act : Act) (s t : Spot) → t ≡ s → Moves z place act s t
  still place act s t same = rests (ap rank same) (ap (λ (x : Spot). content_in x.phase) same)

  -- an act of one place: what it does there, and nothing elsewhere
  at-one : (P : Pool) (act : Act) (place one : ℕ) → ((x : ℕ) → touches act x ≡ (x == one))
      → Moves z one act (P one) (changed z.last_generation act (P one)) → Moves z place act (P place) (after z act P place)
  at-one P act place one of there = dite (ℕ_discrete place one)
      (λ here. subst (λ (p : ℕ). Moves z p act (P p) (after z act P p)) (sym here)
      (subst (λ (t : Spot). Moves z one act (P one) t) (sym (after-here z P act one (of one ∙ eq-eqb one one refl))) there))
      (λ other. still place act (P place) (after z act P place) (after-else z P act place (of place ∙ ne_eqb place one other)))

  pub all-home : (P : Pool) (shard : ℕ) (places : List ℕ) (place : ℕ) → AllHome z P shard places → has places place ≡ true → (P place).phase ≡ home
  all-home P shard [] place homes is = absurd (cc is)
  all-home P shard (x ∷ xs) place homes is = dite (ℕ_discrete place x)
      (λ same. subst (λ (p : ℕ). (P p).phase ≡ home) (sym same) homes.2)
      (λ other. all-home P shard xs place homes.3 (ap (λ b. cond b true (has xs place)) (sym (ne_eqb place x other)) ∙ is))

  reclaims : (last g lane : ℕ) (s : Spot) → s.generation ≡ g → level s.phase ≡ 2 → (t : Spot)
      → t ≡ cond (eqb s.generation last) (spot s.generation retired) (spot (s.generation + 1) (with lane)) → (3 * g + 2 ≤ rank t) × (rank t ≤ 3 * g + 3)
  reclaims last g lane s same two t is = elim (cases_Bool (eqb s.generation last)) [
    | inl equal ↦ let e : t ≡ spot s.generation retired = is ∙ ap (λ b. cond b (spot s.generation retired) (spot (s.generation + 1) (with lane))) equal in
        let r : rank t ≡ 3 * s.generation + 2 = ap rank e in (omega arith, omega arith)
    | inr other ↦ let e : t ≡ spot (s.generation + 1) (with lane) = is ∙ ap (λ b. cond b (spot s.generation retired) (spot (s.generation + 1) (with lane))) other in
        let r : rank t ≡ 3 * (s.generation + 1) + 0 = ap rank e in (omega arith, omega arith)
  ]

  -- every allowed act moves every place so
  pub moves : (P : Pool) (act : Act) (place : ℕ) → Allowed z P act → Moves z place act (P place) (after z act P place)
  moves P (Publish lane key content with_ref) place ok =
      let now = current-key z P key ok.0 in let none = level-with (P (place_of key)).phase lane ok.1 in
      at-one P (Publish lane key content with_ref) place (place_of key) (λ x. refl)
      (fills lane key content with_ref refl (record { place = refl; inside = now.0 }) (omega arith) (omega arith) refl)
  moves P (Get lane key None) place ok = at-one P (Get lane key None) place (place_of key) (λ x. refl) (rests refl refl)
  moves P (Get lane key (Some content)) place ok =
      let same = gained-same lane (P (place_of key)).phase in
      at-one P (Get lane key (Some content)) place (place_of key) (λ x. refl) (rests (omega arith) same.1)
  moves P (Release lane key) place ok =
      let same = lost-same lane (P (place_of key)).phase in
      at-one P (Release lane key) place (place_of key) (λ x. refl) (rests (omega arith) same.1)
  moves P (Clear lane key true) place ok =
      let parts = and_parts _ _ (sym ok) in let now = current-key z P key parts.0 in let unmarked = clears-level (P (place_of key)).phase parts.1 in
      at-one P (Clear lane key true) place (place_of key) (λ x. refl)
      (shuts lane key refl (record { place = refl; inside = now.0 }) (omega arith) (omega arith))
  moves P (Clear lane key false) place ok = at-one P (Clear lane key false) place (place_of key) (λ x. refl) (rests refl refl)
  moves P (Reclaim lane key) place ok =
      let now = current-key z P key ok.0 in let two = level-marked (P (place_of key)).phase ok.1 in
      let r = reclaims z.last_generation (generation_of key) lane (P (place_of key)) now.1 two _ refl in
      at-one P (Reclaim lane key) place (place_of key) (λ x. refl)
      (frees lane key refl (record { place = refl; inside = now.0 }) (omega arith) r.0 r.1)
  moves P (Home lane at) place ok =
      let none = level-with (P at).phase lane ok.1 in
      at-one P (Home lane at) place at (λ x. refl) (rests (omega arith) (sym (ap content_in ok.1)))
  moves P (Collect lane places) place ok = elim (cases_Bool (has places place)) [
    | inl in_it ↦ let was = all-home P lane places place ok.2 in_it in let none : level (P place).phase ≡ 0 = ap level was in
        subst (λ (t : Spot). Moves z place (Collect lane places) (P place) t) (sym (after-here z P (Collect lane places) place in_it))
        (rests (omega arith) (sym (ap content_in was)))
    | inr not_in ↦ still place (Collect lane places) (P place) (after z (Collect lane places) P place) (after-else z P (Collect lane places) place not_in)
  ]

  -- what a Publish, a Clear with reply true and a Reclaim find and leave at the place of their key
  pub published-ranks : (P : Pool) (lane key : ℕ) (content : List ℕ) (with_ref : Bool) → Allowed z P (Publish lane key content with_ref)
      → (is_key z key ≡ true) × (rank (P (place_of key)) ≡ 3 * generation_of key)
      × (rank (after z (Publish lane key content with_ref) P (place_of key)) ≡ 3 * generation_of key + 1)
      × (content_in (after z (Publish lane key content with_ref) P (place_of key)).phase ≡ Some content)
  published-ranks P lane key content with_ref ok =
      let now = current-key z P key ok.0 in let none = level-with (P (place_of key)).phase lane ok.1 in
      let there = after-here z P (Publish lane key content with_ref) (place_of key) (eq-eqb (place_of key) (place_of key) refl) in
      let left : rank (after z (Publish lane key content with_ref) P (place_of key)) ≡ 3 * (P (place_of key)).generation + 1 = ap rank there in
      (now.0, omega arith, omega arith, ap (λ (s : Spot). content_in s.phase) there)

  pub cleared-ranks : (P : Pool) (lane key : ℕ) → Allowed z P (Clear lane key true)
      → rank (after z (Clear lane key true) P (place_of key)) ≡ 3 * generation_of key + 2
  cleared-ranks P lane key ok =
      let parts = and_parts _ _ (sym ok) in let now = current-key z P key parts.0 in let unmarked = clears-level (P (place_of key)).phase parts.1 in
      let there = after-here z P (Clear lane key true) (place_of key) (eq-eqb (place_of key) (place_of key) refl) in
      let left : rank (after z (Clear lane key true) P (place_of key)) ≡ 3 * (P (place_of key)).generation + level (marked (P (place_of key)).phase) = ap rank there in
      omega arith

  pub reclaimed-ranks : (P : Pool) (lane key : ℕ) → Allowed z P (Reclaim lane key) → rank (P (place_of key)) ≡ 3 * generation_of key + 2
  reclaimed-ranks P lane key ok =
      let now = current-key z P key ok.0 in let two = level-marked (P (place_of key)).phase ok.1 in omega arith

  pub moves-up : (place : ℕ) (act : Act) (s t : Spot) → Moves z place act s t → rank s ≤ rank t
  moves-up place act s t (rests same content) = omega arith
  moves-up place act s t (fills lane key content with_ref is of before now shows) = omega arith
  moves-up place act s t (shuts lane key is of before now) = omega arith
  moves-up place act s t (frees lane key is of before least most) = omega arith

  -- the rank never falls
  pub rank-rises : (P : Pool) (history : List Act) (place : ℕ) → LegalFrom z P history → rank (P place) ≤ rank (pool_from z P history place)
  rank-rises P [] place legal = omega arith
  rank-rises P (x ∷ xs) place legal =
      let first = moves-up place x (P place) (after z x P place) (moves P x place legal.1) in
      let rest = rank-rises (after z x P) xs place legal.2 in omega arith

  -- after an act at a position it doesn't fall below what that act left
  pub rank-after : (P : Pool) (history : List Act) (i : ℕ) (act : Act) (place : ℕ) → LegalFrom z P history → At history i act
      → rank (after z act (pool_from z P (take i history)) place) ≤ rank (pool_from z P history place)
  rank-after P [] i act place legal at = absurd (cc at)
  rank-after P (x ∷ xs) zero act place legal at =
      let same : x ≡ act = cc at in
      subst (λ (a : Act). rank (after z a P place) ≤ rank (pool_from z (after z x P) xs place)) same (rank-rises (after z x P) xs place legal.2)
  rank-after P (x ∷ xs) (suc i) act place legal at = rank-after (after z x P) xs i act place legal.2 at
