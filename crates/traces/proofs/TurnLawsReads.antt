-- A key that is in the map was published, with the content that it has there.
use Rattle.std.proofs.Common.{◌≡◌, ◌⊎◌, inl, inr, ℕ, zero, suc, ◌+◌, Bool, true, false, cond, eqb, List, [], ◌∷◌, ◌++◌, Option, Some, None, refl, ap, sym, ◌∙◌, subst, eqb-true}
use Rattle.keybits.specs.declared.shape.Shape.{Shape}
use Rattle.keybits.specs.Keys.{place_of, generation_of, is_key}
use Rattle.seqpool.specs.declared.act.Act.{Act}
use Rattle.seqpool.specs.declared.act.Act.TheVariants.{Publish, Get, Release, Clear, Reclaim, Home, Collect}
use Rattle.seqpool.specs.Pool.{Pool, Spot, Phase, spot, with, published, home, retired, gained, lost, marked, Allowed, touches, changed, after, fresh, pool_from, pool_after, LegalFrom, IsLegal}
use Rattle.seqpool.specs.Histories.{At, PublishedAt, acts_of}
use Rattle.seqpool.proofs.Growth.{after-here, after-else, legal-front}
use Rattle.seqpool.proofs.Ranks.{same-key, current-key}
use Rattle.traces.specs.Following.{row_content, HasContent}
use Rattle.traces.specs.TurnLaws.{IsMoment}

pub gained_row : (lane : ℕ) (f : Phase) → row_content (gained lane f) ≡ row_content f
gained_row lane (with k) = refl
gained_row lane (published content references mark) = refl
gained_row lane home = refl
gained_row lane retired = refl

pub lost_row : (lane : ℕ) (f : Phase) → row_content (lost lane f) ≡ row_content f
lost_row lane (with k) = refl
lost_row lane (published content references mark) = refl
lost_row lane home = refl
lost_row lane retired = refl

pub marked_row : (f : Phase) → row_content (marked f) ≡ row_content f
marked_row (with k) = refl
marked_row (published content references mark) = refl
marked_row home = refl
marked_row retired = refl

module _ (z : Shape) (key : ℕ) (content : List ℕ) where
  -- a place that has the key with the content
  Has : Spot → Type 0
  Has s = (s.generation ≡ generation_of key) × (row_content s.phase ≡ Some content)

  -- an act that left the content there found it there, or is the Publish
  before_act : (P : Pool) (act : Act) → is_key z key ≡ true → Allowed z P act → touches act (place_of key) ≡ true
      → Has (changed z.last_generation act (P (place_of key)))
      → Has (P (place_of key)) ⊎ ((lane : ℕ) × (with_ref : Bool) × (act ≡ Publish lane key content with_ref))
  unfolding Has
  before_act P (Publish lane other c with_ref) inside ok at has =
      let place : place_of key ≡ place_of other = eqb-true _ _ at in
      let now = current-key z P other ok.0 in
      let generation : generation_of other ≡ generation_of key = sym now.1 ∙ (ap (λ (p : ℕ). (P p).generation) (sym place) ∙ has.0) in
      let same : other ≡ key = same-key z other key now.0 inside (sym place) generation in
      let contents : c ≡ content = cc has.1 in
      inr (lane, with_ref, λ i. Publish lane (same i) (contents i) with_ref)
  before_act P (Get lane other None) inside ok at has = inl has
  before_act P (Get lane other (Some c)) inside ok at has = inl (has.0, sym (gained_row lane (P (place_of key)).phase) ∙ has.1)
  before_act P (Release lane other) inside ok at has = inl (has.0, sym (lost_row lane (P (place_of key)).phase) ∙ has.1)
  before_act P (Clear lane other true) inside ok at has = inl (has.0, sym (marked_row (P (place_of key)).phase) ∙ has.1)
  before_act P (Clear lane other false) inside ok at has = inl has
  before_act P (Reclaim lane other) inside ok at has = by_test (eqb (P (place_of key)).generation z.last_generation) has
    where
      by_test : (b : Bool) → Has (cond b (spot (P (place_of key)).generation retired) (spot ((P (place_of key)).generation + 1) (with lane)))
          → Has (P (place_of key)) ⊎ ((by : ℕ) × (with_ref : Bool) × (Reclaim lane other ≡ Publish by key content with_ref))
      by_test true h = absurd (cc h.1)
      by_test false h = absurd (cc h.1)
  before_act P (Home lane place) inside ok at has = absurd (cc has.1)
  before_act P (Collect lane places) inside ok at has = absurd (cc has.1)

  before_any : (P : Pool) (act : Act) → is_key z key ≡ true → Allowed z P act → Has (after z act P (place_of key))
      → Has (P (place_of key)) ⊎ ((lane : ℕ) × (with_ref : Bool) × (act ≡ Publish lane key content with_ref))
  before_any P act inside ok has = by_test (touches act (place_of key)) refl
    where
      by_test : (b : Bool) → touches act (place_of key) ≡ b → Has (P (place_of key)) ⊎ ((lane : ℕ) × (with_ref : Bool) × (act ≡ Publish lane key content with_ref))
      by_test true e = before_act P act inside ok e (subst (λ (s : Spot). Has s) (after-here z P act (place_of key) e) has)
      by_test false e = inl (subst (λ (s : Spot). Has s) (after-else z P act (place_of key) e) has)

  published_in : (P : Pool) (history : List Act) → is_key z key ≡ true → LegalFrom z P history → Has (pool_from z P history (place_of key))
      → Has (P (place_of key)) ⊎ ((position : ℕ) × PublishedAt history position key content)
  published_in P [] inside legal has = inl has
  published_in P (x ∷ xs) inside legal has = elim (published_in (after z x P) xs inside legal.2 has) [
    | inl before ↦ elim (before_any P x inside legal.1 before) [
      | inl earlier ↦ inl earlier
      | inr (lane, with_ref, is) ↦ inr (zero, (lane, with_ref, ap (λ (a : Act). let o : Option Act = Some a in o) is))
    ]
    | inr (position, (lane, with_ref, at)) ↦ inr (suc position, (lane, with_ref, at))
  ]

  was_published : (history : List Act) → IsLegal z history → HasContent z (pool_after z history) key content → (position : ℕ) × PublishedAt history position key content
  unfolding Has
  was_published history legal has =
      let now = current-key z (pool_after z history) key has.0 in
      elim (published_in fresh history now.0 legal (now.1, has.1)) [
        | inl first ↦ absurd (cc first.1)
        | inr at ↦ at
      ]

at_front : (history more : List Act) (i : ℕ) (act : Act) → At history i act → At (history ++ more) i act
at_front [] more i act at = absurd (cc at)
at_front (x ∷ xs) more zero act at = at
at_front (x ∷ xs) more (suc i) act at = at_front xs more i act at

-- whatever is in the map was published in this history
abbrev pub WerePublished : Shape → List Act → Pool → Type 0
WerePublished z history pool = (key : ℕ) (content : List ℕ) → HasContent z pool key content → (position : ℕ) × PublishedAt history position key content

pub were_published : (z : Shape) (history now more : List Act) → now ++ more ≡ history → IsLegal z history → WerePublished z history (pool_after z now)
were_published z history now more is legal key content has =
    let short : IsLegal z now = legal-front z fresh now more (subst (IsLegal z) (sym is) legal) in
    let p = was_published z key content now short has in
    (p.0, (p.1.0, p.1.1, subst (λ (h : List Act). At h p.0 (Publish p.1.0 key content p.1.1)) is (at_front now more p.0 (Publish p.1.0 key content p.1.1) p.1.2)))

-- the pool is that of a moment of the history, at which the lane has made these acts
pub record IsPoolAt (z : Shape) (history : List Act) (lane : ℕ) (own : List Act) (pool : Pool) : Type 0 where
  pub past : List Act
  pub moment : IsMoment history lane own past
  pub is : pool ≡ pool_after z past
  pub published : WerePublished z history pool

pub pool_at : (z : Shape) (history now more : List Act) (lane : ℕ) (own : List Act) → now ++ more ≡ history → IsLegal z history → acts_of lane now ≡ own
    → IsPoolAt z history lane own (pool_after z now)
pool_at z history now more lane own is legal mine =
    record { past = now; moment = ((more, is), mine); is = refl; published = were_published z history now more is legal }
