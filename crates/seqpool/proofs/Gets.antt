-- A key that is shown was published, and a published key is shown until it is cleared; no key is published twice, nor at a place that is taken.
use Rattle.std.proofs.Common.{◌≡◌, ◌↔◌, ℕ, zero, suc, ◌+◌, ◌*◌, ◌<◌, ◌≤◌, true, cond, List, [], ◌∷◌, take, Option, Some, None, refl, sym, ap, ◌∙◌, subst, arith, leb-true, inl, inr}
use Rattle.std.proofs.lemmas.Bool.{and_parts, cases_Bool, cases_order}
use mathlib.Core.Logic.{dite}
use native.Mathlib.Decide.{ℕ_discrete}
use Rattle.keybits.specs.declared.shape.Shape.{Shape}
use Rattle.keybits.specs.Keys.{place_of, generation_of, is_key}
use Rattle.seqpool.specs.declared.act.Act.{Act}
use Rattle.seqpool.specs.declared.act.Act.TheVariants.{Publish, Get, Clear, Reclaim}
use Rattle.seqpool.specs.Pool.{Pool, content_in, is_current, found, Allowed, after, fresh, pool_from, LegalFrom}
use Rattle.seqpool.specs.Histories.{At, PublishedAt, ClearedAt, IsPresentAt, ReclaimedAt}
use Rattle.seqpool.specs.Laws.{GetLaw, AloneLaw, OnceLaw, RetiredLaw}
use Rattle.seqpool.proofs.Growth.{legal-take, legal-at}
use Rattle.seqpool.proofs.Positions.{at-take, from-take}
use Rattle.seqpool.proofs.Ranks.{rank, level-le, level-content, same-key, current-key, current-from, rests, fills, shuts, frees, moves, rank-rises, rank-after, moves-up, published-ranks, cleared-ranks, reclaimed-ranks}

module _ (z : Shape) where
  -- while the rank stays, the content stays
  content-stays : (P : Pool) (history : List Act) (place g : ℕ) → LegalFrom z P history → rank (P place) ≡ 3 * g + 1
      → rank (pool_from z P history place) ≡ 3 * g + 1 → content_in (pool_from z P history place).phase ≡ content_in (P place).phase
  content-stays P [] place g legal first last = refl
  content-stays P (x ∷ xs) place g legal first last =
      let up = rank-rises z (after z x P) xs place legal.2 in
      elim (moves z P x place legal.1) [
        | rests same content ↦ content-stays (after z x P) xs place g legal.2 (same ∙ first) last ∙ content
        | fills lane key content with_ref is of before now shows ↦ absurd (omega arith)
        | shuts lane key is of before now ↦ absurd (omega arith)
        | frees lane key is of before least most ↦ absurd (omega arith)
      ]

  -- the act of another's key is that of this one, where place and generation are the same
  same-act : (other key : ℕ) (act : ℕ → Act) (x : Act) (xs : List Act) → x ≡ act other → other ≡ key → At (x ∷ xs) 0 (act key)
  same-act other key act x xs is same = ap (λ (a : Act). let o : Option Act = Some a in o) (is ∙ ap act same)

  -- a published key that isn't cleared stays so
  rank-stays : (P : Pool) (history : List Act) (key : ℕ) → is_key z key ≡ true → LegalFrom z P history → rank (P (place_of key)) ≡ 3 * generation_of key + 1
      → ((j : ℕ) → ClearedAt history j key → ⊥) → rank (pool_from z P history (place_of key)) ≡ 3 * generation_of key + 1
  rank-stays P [] key inside legal first never = first
  rank-stays P (x ∷ xs) key inside legal first never = elim (moves z P x (place_of key) legal.1) [
    | rests same content ↦ rank-stays (after z x P) xs key inside legal.2 (same ∙ first) (λ j. never (suc j))
    | fills lane other content with_ref is of before now shows ↦ absurd (omega arith)
    | shuts lane other is of before now ↦
        let g : generation_of other ≡ generation_of key = omega arith in
        let same : other ≡ key = same-key z other key of.inside inside (sym of.place) g in
        absurd (never 0 (lane, same-act other key (λ k. Clear lane k true) x xs is same))
    | frees lane other is of before least most ↦ absurd (omega arith)
  ]

  later : (x : Act) (xs : List Act) (key : ℕ) (content : List ℕ) → ((j : ℕ) × PublishedAt xs j key content) → (j : ℕ) × PublishedAt (x ∷ xs) j key content
  later x xs key content (j, at) = (suc j, at)

  -- what is shown at the end and wasn't published at the start was published in between
  was-published : (P : Pool) (history : List Act) (key : ℕ) (content : List ℕ) → is_key z key ≡ true → LegalFrom z P history
      → rank (P (place_of key)) ≤ 3 * generation_of key → rank (pool_from z P history (place_of key)) ≡ 3 * generation_of key + 1
      → content_in (pool_from z P history (place_of key)).phase ≡ Some content → (j : ℕ) × PublishedAt history j key content
  was-published P [] key content inside legal below last shows = absurd (omega arith)
  was-published P (x ∷ xs) key content inside legal below last shows =
      let rest : rank (after z x P (place_of key)) ≤ 3 * generation_of key → (j : ℕ) × PublishedAt (x ∷ xs) j key content
      = λ low. later x xs key content (was-published (after z x P) xs key content inside legal.2 low last shows) in
      elim (moves z P x (place_of key) legal.1) [
        | rests same kept ↦ rest (omega arith)
        | fills lane other c with_ref is of before now has_it ↦ dite (ℕ_discrete (generation_of other) (generation_of key))
            (λ g. let same : other ≡ key = same-key z other key of.inside inside (sym of.place) g in
            let stays = content-stays (after z x P) xs (place_of key) (generation_of key) legal.2 (omega arith) last in
            let one : Some c ≡ Some content = sym has_it ∙ (sym stays ∙ shows) in
            let contents : c ≡ content = cc one in
            (0, (lane, with_ref, same-act other key (λ k. Publish lane k content with_ref) x xs (is ∙ ap (λ (d : List ℕ). Publish lane other d with_ref) contents) same)))
            (λ other_one. rest (omega arith))
        | shuts lane other is of before now ↦ rest (omega arith)
        | frees lane other is of before least most ↦ rest (omega arith)
      ]

  found-parts : (P : Pool) (key : ℕ) (content : List ℕ) → found z P key ≡ Some content
      → (is_key z key ≡ true) × (rank (P (place_of key)) ≡ 3 * generation_of key + 1) × (content_in (P (place_of key)).phase ≡ Some content)
  found-parts P key content shows = elim (cases_Bool (is_current z P key)) [
    | inl here ↦
        let now = current-key z P key here in
        let what : content_in (P (place_of key)).phase ≡ Some content = ap (λ b. cond b (content_in (P (place_of key)).phase) None) (sym here) ∙ shows in
        let one = level-content (P (place_of key)).phase content what in (now.0, omega arith, what)
    | inr gone ↦ let bad : None ≡ Some content = ap (λ b. cond b (content_in (P (place_of key)).phase) None) (sym gone) ∙ shows in absurd (cc bad)
  ]

  found-from : (P : Pool) (key : ℕ) (content : List ℕ) → is_key z key ≡ true → rank (P (place_of key)) ≡ 3 * generation_of key + 1
      → content_in (P (place_of key)).phase ≡ Some content → found z P key ≡ Some content
  found-from P key content inside one what =
      let most = level-le (P (place_of key)).phase in
      let here = current-from z P key inside (omega arith) in
      ap (λ b. cond b (content_in (P (place_of key)).phase) None) here ∙ what

  fresh-below : (key : ℕ) → is_key z key ≡ true → rank (fresh (place_of key)) ≤ 3 * generation_of key
  fresh-below key inside = let low : 1 ≤ generation_of key = leb-true _ _ (and_parts _ _ (and_parts _ _ inside).0).1 in omega arith

  -- what is left after a Publish at a position, and before
  publish-at : (history : List Act) (i key : ℕ) (content : List ℕ) → LegalFrom z fresh history → PublishedAt history i key content
      → (is_key z key ≡ true) × (rank (pool_from z fresh (take i history) (place_of key)) ≡ 3 * generation_of key)
      × (3 * generation_of key + 1 ≤ rank (pool_from z fresh history (place_of key)))
  publish-at history i key content legal (lane, with_ref, at) =
      let ok = legal-at z fresh history i (Publish lane key content with_ref) legal at in
      let r = published-ranks z (pool_from z fresh (take i history)) lane key content with_ref ok.1 in
      let up = rank-after z fresh history i (Publish lane key content with_ref) (place_of key) legal at in
      (r.0, r.1, omega arith)

  published-take : (history : List Act) (i j key : ℕ) (content : List ℕ) → i < j → PublishedAt history i key content → PublishedAt (take j history) i key content
  published-take history i j key content below (lane, with_ref, at) = (lane, with_ref, at-take history j i (Publish lane key content with_ref) below at)

  reclaim-at : (history : List Act) (i key : ℕ) → LegalFrom z fresh history → ReclaimedAt history i key
      → (rank (pool_from z fresh (take i history) (place_of key)) ≡ 3 * generation_of key + 2)
      × (3 * generation_of key + 2 ≤ rank (pool_from z fresh history (place_of key)))
  reclaim-at history i key legal (lane, at) =
      let P : Pool = pool_from z fresh (take i history) in
      let ok = legal-at z fresh history i (Reclaim lane key) legal at in
      let r = reclaimed-ranks z P lane key ok.1 in
      let up = moves-up z (place_of key) (Reclaim lane key) (P (place_of key)) (after z (Reclaim lane key) P (place_of key)) (moves z P (Reclaim lane key) (place_of key) ok.1) in
      let on = rank-after z fresh history i (Reclaim lane key) (place_of key) legal at in
      (r, omega arith)

  twice : (history : List Act) (i j key : ℕ) (content more : List ℕ) → LegalFrom z fresh history
      → PublishedAt history i key content → PublishedAt history j key more → i < j → ⊥
  twice history i j key content more legal first again below =
      let f = publish-at (take j history) i key content (legal-take z fresh history j legal) (published-take history i j key content below first) in
      let a = publish-at history j key more legal again in omega arith

  unpublished : (history : List Act) (key : ℕ) (content : List ℕ) → LegalFrom z fresh history
      → found z (pool_from z fresh history) key ≡ Some content → (j : ℕ) → ClearedAt history j key → ⊥
  unpublished history key content legal shows j (lane, at) =
      let parts = found-parts (pool_from z fresh history) key content shows in
      let ok = legal-at z fresh history j (Clear lane key true) legal at in
      let left = cleared-ranks z (pool_from z fresh (take j history)) lane key ok.1 in
      let on = rank-after z fresh history j (Clear lane key true) (place_of key) legal at in absurd (omega arith)

  shown-since : (P : Pool) (history : List Act) (j key : ℕ) (content : List ℕ) → LegalFrom z P history
      → PublishedAt history j key content → ((k : ℕ) → ClearedAt history k key → ⊥) → found z (pool_from z P history) key ≡ Some content
  shown-since P [] j key content legal (lane, with_ref, at) never = absurd (cc at)
  shown-since P (x ∷ xs) zero key content legal (lane, with_ref, at) never =
      let is : x ≡ Publish lane key content with_ref = cc at in
      let ok : Allowed z P (Publish lane key content with_ref) = subst (Allowed z P) is legal.1 in
      let r = published-ranks z P lane key content with_ref ok in
      let one : rank (after z x P (place_of key)) ≡ 3 * generation_of key + 1 = ap (λ (a : Act). rank (after z a P (place_of key))) is ∙ r.2 in
      let what : content_in (after z x P (place_of key)).phase ≡ Some content = ap (λ (a : Act). content_in (after z a P (place_of key)).phase) is ∙ r.3 in
      let last = rank-stays (after z x P) xs key r.0 legal.2 one (λ k. never (suc k)) in
      found-from (pool_from z (after z x P) xs) key content r.0 last (content-stays (after z x P) xs (place_of key) (generation_of key) legal.2 one last ∙ what)
  shown-since P (x ∷ xs) (suc j) key content legal (lane, with_ref, at) never =
      shown-since (after z x P) xs j key content legal.2 (lane, with_ref, at) (λ k. never (suc k))

  cleared-take : (history : List Act) (i j key : ℕ) → ClearedAt (take i history) j key → (j < i) × ClearedAt history j key
  cleared-take history i j key (lane, at) = let r = from-take history i j (Clear lane key true) at in (r.0, (lane, r.1))

  publish-within : (history : List Act) (i key : ℕ) (content : List ℕ) → ((j : ℕ) × PublishedAt (take i history) j key content)
      → (j : ℕ) × (j < i) × PublishedAt history j key content
  publish-within history i key content (j, (lane, with_ref, at)) =
      let r = from-take history i j (Publish lane key content with_ref) at in (j, r.0, (lane, with_ref, r.1))

  cleared-into : (history : List Act) (i j key : ℕ) → j < i → ClearedAt history j key → ClearedAt (take i history) j key
  cleared-into history i j key below (lane, at) = (lane, at-take history i j (Clear lane key true) below at)

-- a key is shown before a position exactly where it was published before it, and not cleared
pub shown-before : (z : Shape) (history : List Act) (i key : ℕ) (content : List ℕ) → LegalFrom z fresh history
    → (found z (pool_from z fresh (take i history)) key ≡ Some content) ↔ IsPresentAt history i key content
shown-before z history i key content legal =
    let front : List Act = take i history in
    let short = legal-take z fresh history i legal in (
      λ shows. let parts = found-parts z (pool_from z fresh front) key content shows in (
        publish-within z history i key content (was-published z fresh front key content parts.0 short (fresh-below z key parts.0) parts.1 parts.2),
        λ j below cleared. unpublished z front key content short shows j (cleared-into z history i j key below cleared),
      ),
      λ both. shown-since z fresh front both.0.0 key content short (published-take z history both.0.0 i key content both.0.1 both.0.2)
          (λ j cleared. let r = cleared-take z history i j key cleared in both.1 j r.0 r.1),
    )

pub get-law : GetLaw
get-law z history legal i lane key reply content at =
    let ok = legal-at z fresh history i (Get lane key reply) legal at in
    let shown = shown-before z history i key content legal in
    (λ is. shown.0 (sym ok.1 ∙ is), λ both. ok.1 ∙ shown.1 both)

pub once-law : OnceLaw
once-law z history legal i j key content more first again = elim (cases_order i j) [
  | inl same ↦ same
  | inr apart ↦ elim apart [
    | inl below ↦ absurd (twice z history i j key content more legal first again below)
    | inr above ↦ absurd (twice z history j i key more content legal again first above)
  ]
]

pub alone-law : AloneLaw
alone-law z history legal i j m key other content more first last after_first before_last middle same =
    let short = legal-take z fresh history j legal in
    let f = publish-at z (take m history) i key content (legal-take z fresh history m legal) (published-take z history i m key content after_first first) in
    let c = publish-at z (take j history) m other more short (published-take z history m j other more before_last middle) in
    let d = publish-at z history m other more legal middle in
    let l = reclaim-at z history j key legal last in
    let at_other : rank (pool_from z fresh (take m history) (place_of key)) ≡ 3 * generation_of other
    = ap (λ (p : ℕ). rank (pool_from z fresh (take m history) p)) (sym same) ∙ d.1 in
    let by_other : rank (pool_from z fresh (take j history) (place_of other)) ≡ 3 * generation_of key + 2
    = ap (λ (p : ℕ). rank (pool_from z fresh (take j history) p)) same ∙ l.0 in
    omega arith

pub retired-law : RetiredLaw
retired-law z history legal i j key other content first is_last below again same =
    let short = legal-take z fresh history j legal in
    let f = reclaim-at z (take j history) i key short (first.0, at-take history j i (Reclaim first.0 key) below first.1) in
    let a = publish-at z history j other content legal again in
    let most : generation_of other ≤ z.last_generation = leb-true _ _ (and_parts _ _ a.0).1 in
    let at_other : rank (pool_from z fresh (take j history) (place_of key)) ≡ 3 * generation_of other
    = ap (λ (p : ℕ). rank (pool_from z fresh (take j history) p)) (sym same) ∙ a.1 in
    omega arith
