-- The references of a lane to a key: those that it made, less those that it gave back; and what acts of other lanes leave.
use Rattle.std.proofs.Common.{◌≡◌, ◌≢◌, ℕ, ◌+◌, ◌-◌, ◌<◌, Bool, true, false, cond, eqb, ◌==◌, ◌&&◌, List, [], ◌∷◌, take, sum_by, Some, None, refl, sym, ap, ◌∙◌, subst, arith, eq-eqb, ne_eqb, eqb-true, inl, inr}
use Rattle.std.proofs.lemmas.Bool.{and_parts, cases_Bool}
use Rattle.std.proofs.lemmas.List.Sums.{sum_by-cons}
use mathlib.Core.Logic.{dite}
use native.Mathlib.Decide.{ℕ_discrete}
use Rattle.keybits.specs.declared.shape.Shape.{Shape}
use Rattle.keybits.specs.Keys.{place_of, generation_of, is_key}
use Rattle.seqpool.specs.declared.act.Act.{Act}
use Rattle.seqpool.specs.declared.act.Act.TheVariants.{Publish, Get, Release, Clear, Reclaim, Home, Collect}
use Rattle.seqpool.specs.Pool.{Phase, with, published, home, retired, Spot, Pool, spot, put, references_in, content_in, gained, lost, marked, is_current, found, references, has, lane_of, Allowed, touches, changed, after, fresh, pool_from, LegalFrom}
use Rattle.seqpool.specs.Histories.{made_by, released_by}
use Rattle.seqpool.specs.Laws.{ReclaimLaw}
use Rattle.seqpool.proofs.Growth.{after-here, after-else, legal-take, legal-at}
use Rattle.seqpool.proofs.Ranks.{same-key, current-key, all-home}

pub put-here : (f : ℕ → ℕ) (i x j : ℕ) → j ≡ i → put f i x j ≡ x
put-here f i x j same = ap (λ b. cond b x (f j)) (eq-eqb j i same)

pub put-else : (f : ℕ → ℕ) (i x j : ℕ) → j ≢ i → put f i x j ≡ f j
put-else f i x j other = ap (λ b. cond b x (f j)) (ne_eqb j i other)

-- the references of a lane to the key, at a place in this state
abbrev pub counted : Shape → ℕ → ℕ → Spot → ℕ
counted z key lane s = cond (is_key z key && (s.generation == generation_of key)) (references_in s.phase lane) 0

-- how many of these are the lane's, and the key's
abbrev pub one_if : Bool → Bool → ℕ
one_if same_lane same_key = cond same_lane (cond same_key 1 0) 0

module _ (z : Shape) (key lane : ℕ) where
  counted-none : (s : Spot) → references_in s.phase lane ≡ 0 → counted z key lane s ≡ 0
  counted-none s none = elim (cases_Bool (is_key z key && (s.generation == generation_of key))) [
    | inl here ↦ ap (λ b. cond b (references_in s.phase lane) 0) here ∙ none
    | inr gone ↦ ap (λ b. cond b (references_in s.phase lane) 0) gone
  ]

  counted-same : (s t : Spot) → t.generation ≡ s.generation → references_in t.phase lane ≡ references_in s.phase lane → counted z key lane t ≡ counted z key lane s
  counted-same s t generations counts =
      ap (λ (g : ℕ). cond (is_key z key && (g == generation_of key)) (references_in t.phase lane) 0) generations
      ∙ ap (λ (n : ℕ). cond (is_key z key && (s.generation == generation_of key)) n 0) counts

  counted-here : (s : Spot) → is_key z key ≡ true → s.generation ≡ generation_of key → counted z key lane s ≡ references_in s.phase lane
  counted-here s inside same = ap (λ b. cond (b && (s.generation == generation_of key)) (references_in s.phase lane) 0) inside
      ∙ ap (λ b. cond b (references_in s.phase lane) 0) (eq-eqb s.generation (generation_of key) same)

  -- at the place of another key that is there, none are counted
  counted-else : (s : Spot) (other : ℕ) → is_key z other ≡ true → place_of other ≡ place_of key → s.generation ≡ generation_of other → other ≢ key → counted z key lane s ≡ 0
  counted-else s other inside places same differ = elim (cases_Bool (is_key z key && (s.generation == generation_of key))) [
    | inl here ↦ let parts = and_parts _ _ here in let g : s.generation ≡ generation_of key = eqb-true _ _ parts.1 in
        absurd (differ (same-key z other key inside parts.0 places (sym same ∙ g)))
    | inr gone ↦ ap (λ b. cond b (references_in s.phase lane) 0) gone
  ]

  pub one-not-lane : (l k : ℕ) → l ≢ lane → one_if (l == lane) (k == key) ≡ 0
  one-not-lane l k other = ap (λ b. one_if b (k == key)) (ne_eqb l lane other)

  one-not-key : (l k : ℕ) → k ≢ key → one_if (l == lane) (k == key) ≡ 0
  one-not-key l k other = ap (λ b. one_if (l == lane) b) (ne_eqb k key other) ∙ go (l == lane)
    where
      go : (b : Bool) → one_if b false ≡ 0
      go true = refl
      go false = refl

  one-both : (l k : ℕ) → l ≡ lane → k ≡ key → one_if (l == lane) (k == key) ≡ 1
  one-both l k same_lane same_key = ap (λ b. one_if b (k == key)) (eq-eqb l lane same_lane) ∙ ap (λ b. one_if true b) (eq-eqb k key same_key)

  -- what the lane has after the act with what it gave back is what it had with what it made
  abbrev pub Tallied : Act → Spot → Spot → Type 0
  Tallied act s t = counted z key lane t + released_by lane key act ≡ counted z key lane s + made_by lane key act

  -- an act that counts for nothing and changes no count
  quiet : (act : Act) (s t : Spot) → made_by lane key act ≡ 0 → released_by lane key act ≡ 0 → counted z key lane t ≡ counted z key lane s → Tallied act s t
  quiet act s t made released same = omega arith

  -- an act on a key: what it does at the place of that key, and nothing elsewhere
  at-key : (P : Pool) (act : Act) (k : ℕ) → ((x : ℕ) → touches act x ≡ (x == place_of k))
      → (k ≢ key → (made_by lane key act ≡ 0) × (released_by lane key act ≡ 0))
      → (place_of k ≡ place_of key → Tallied act (P (place_of k)) (changed z.last_generation act (P (place_of k))))
      → Tallied act (P (place_of key)) (after z act P (place_of key))
  at-key P act k of none there = dite (ℕ_discrete (place_of key) (place_of k))
      (λ here. subst (λ (p : ℕ). Tallied act (P p) (after z act P p)) (sym here)
      (subst (λ (t : Spot). Tallied act (P (place_of k)) t) (sym (after-here z P act (place_of k) (of (place_of k) ∙ eq-eqb _ _ refl))) (there (sym here))))
      (λ other. let zero_both = none (λ same. other (sym (ap place_of same))) in
      quiet act (P (place_of key)) (after z act P (place_of key)) zero_both.0 zero_both.1
      (ap (counted z key lane) (after-else z P act (place_of key) (of (place_of key) ∙ ne_eqb _ _ other))))

  publishes : (s : Spot) (l k : ℕ) (content : List ℕ) (n : ℕ) → is_key z k ≡ true → s.generation ≡ generation_of k → s.phase ≡ with l
      → place_of k ≡ place_of key → (m : ℕ) → (l ≡ lane → k ≡ key → m ≡ n) → (l ≢ lane → m ≡ 0) → (k ≢ key → m ≡ 0)
      → counted z key lane (spot s.generation (published content (put (λ _. 0) l n) false)) ≡ counted z key lane s + m
  publishes s l k content n inside same is places m both other_lane other_key =
      let none = counted-none s (ap (λ (f : Phase). references_in f lane) is) in
      let t : Spot = spot s.generation (published content (put (λ _. 0) l n) false) in
      dite (ℕ_discrete k key)
      (λ this. let here = counted-here t (subst (λ (x : ℕ). is_key z x ≡ true) this inside) (same ∙ ap generation_of this) in
      dite (ℕ_discrete l lane)
      (λ mine. let e = both mine this in let h = put-here (λ _. 0) l n lane (sym mine) in omega arith)
      (λ others. let e = other_lane others in let h = put-else (λ _. 0) l n lane (λ x. others (sym x)) in omega arith))
      (λ that. let e = other_key that in let h = counted-else t k inside places same that in omega arith)

  gains-here : (l : ℕ) (f : Phase) (content : List ℕ) → content_in f ≡ Some content → l ≡ lane → references_in (gained l f) lane ≡ references_in f lane + 1
  gains-here l (with k) content shows mine = absurd (cc shows)
  gains-here l (published c references mark) content shows mine =
      put-here references l (references l + 1) lane (sym mine) ∙ ap (λ (n : ℕ). references n + 1) mine
  gains-here l home content shows mine = absurd (cc shows)
  gains-here l retired content shows mine = absurd (cc shows)

  gains-else : (l : ℕ) (f : Phase) → l ≢ lane → references_in (gained l f) lane ≡ references_in f lane
  gains-else l (with k) other = refl
  gains-else l (published c references mark) other = put-else references l (references l + 1) lane (λ x. other (sym x))
  gains-else l home other = refl
  gains-else l retired other = refl

  loses-here : (l : ℕ) (f : Phase) → l ≡ lane → references_in (lost l f) lane ≡ references_in f lane - 1
  loses-here l (with k) mine = omega arith
  loses-here l (published c references mark) mine =
      put-here references l (references l - 1) lane (sym mine) ∙ ap (λ (n : ℕ). references n - 1) mine
  loses-here l home mine = omega arith
  loses-here l retired mine = omega arith

  loses-else : (l : ℕ) (f : Phase) → l ≢ lane → references_in (lost l f) lane ≡ references_in f lane
  loses-else l (with k) other = refl
  loses-else l (published c references mark) other = put-else references l (references l - 1) lane (λ x. other (sym x))
  loses-else l home other = refl
  loses-else l retired other = refl

  marks-same : (f : Phase) → references_in (marked f) lane ≡ references_in f lane
  marks-same (with k) = refl
  marks-same (published c references mark) = refl
  marks-same home = refl
  marks-same retired = refl

  -- at a key that is there, a changed count of the lane
  recounts : (s : Spot) (f : Phase) (l k m r : ℕ) → is_key z k ≡ true → s.generation ≡ generation_of k → place_of k ≡ place_of key
      → (l ≡ lane → k ≡ key → references_in f lane + r ≡ references_in s.phase lane + m) → (l ≢ lane → references_in f lane ≡ references_in s.phase lane)
      → (l ≢ lane → (m ≡ 0) × (r ≡ 0)) → (k ≢ key → (m ≡ 0) × (r ≡ 0))
      → counted z key lane (spot s.generation f) + r ≡ counted z key lane s + m
  recounts s f l k m r inside same places own others_count other_lane other_key =
      let t : Spot = spot s.generation f in
      dite (ℕ_discrete k key)
      (λ this. let within = subst (λ (x : ℕ). is_key z x ≡ true) this inside in let at = same ∙ ap generation_of this in
      let here = counted-here t within at in let was = counted-here s within at in
      dite (ℕ_discrete l lane)
      (λ mine. let e = own mine this in omega arith)
      (λ others. let e = other_lane others in let h = others_count others in omega arith))
      (λ that. let e = other_key that in let h = counted-else t k inside places same that in let w = counted-else s k inside places same that in omega arith)

  found-current : (P : Pool) (k : ℕ) (content : List ℕ) → Some content ≡ found z P k → (is_current z P k ≡ true) × (content_in (P (place_of k)).phase ≡ Some content)
  found-current P k content is = elim (cases_Bool (is_current z P k)) [
    | inl here ↦ (here, ap (λ b. cond b (content_in (P (place_of k)).phase) None) (sym here) ∙ sym is)
    | inr gone ↦ let bad : None ≡ Some content = ap (λ b. cond b (content_in (P (place_of k)).phase) None) (sym gone) ∙ sym is in absurd (cc bad)
  ]

  held-current : (P : Pool) (l k : ℕ) → 0 < references z P l k → (is_current z P k ≡ true) × (0 < references_in (P (place_of k)).phase l)
  held-current P l k some = elim (cases_Bool (is_current z P k)) [
    | inl here ↦ let e : references z P l k ≡ references_in (P (place_of k)).phase l = ap (λ b. cond b (references_in (P (place_of k)).phase l) 0) here in (here, omega arith)
    | inr gone ↦ let e : references z P l k ≡ 0 = ap (λ b. cond b (references_in (P (place_of k)).phase l) 0) gone in absurd (omega arith)
  ]

  reclaimed-none : (last l : ℕ) (s : Spot) → references_in (cond (eqb s.generation last) (spot s.generation retired) (spot (s.generation + 1) (with l))).phase lane ≡ 0
  reclaimed-none last l s = go (eqb s.generation last)
    where
      go : (b : Bool) → references_in (cond b (spot s.generation retired) (spot (s.generation + 1) (with l))).phase lane ≡ 0
      go true = refl
      go false = refl

  -- every allowed act, at the place of the key
  tally-step : (P : Pool) (act : Act) → Allowed z P act → Tallied act (P (place_of key)) (after z act P (place_of key))
  tally-step P (Publish l k content true) ok =
      let now = current-key z P k ok.0 in
      at-key P (Publish l k content true) k (λ x. refl) (λ other. (one-not-key l k other, refl))
      (λ places. let e = publishes (P (place_of k)) l k content 1 now.0 now.1 ok.1 places (one_if (l == lane) (k == key)) (one-both l k) (one-not-lane l k) (one-not-key l k) in omega arith)
  tally-step P (Publish l k content false) ok =
      let now = current-key z P k ok.0 in
      at-key P (Publish l k content false) k (λ x. refl) (λ other. (refl, refl))
      (λ places. let e = publishes (P (place_of k)) l k content 0 now.0 now.1 ok.1 places 0 (λ x y. refl) (λ x. refl) (λ x. refl) in omega arith)
  tally-step P (Get l k None) ok = at-key P (Get l k None) k (λ x. refl) (λ other. (refl, refl)) (λ places. refl)
  tally-step P (Get l k (Some content)) ok =
      let shows = found-current P k content ok in let now = current-key z P k shows.0 in let f : Phase = (P (place_of k)).phase in
      at-key P (Get l k (Some content)) k (λ x. refl) (λ other. (one-not-key l k other, refl))
      (λ places. recounts (P (place_of k)) (gained l f) l k (one_if (l == lane) (k == key)) 0 now.0 now.1 places
      (λ mine this. let g = gains-here l f content shows.1 mine in let o = one-both l k mine this in omega arith)
      (gains-else l f) (λ other. (one-not-lane l k other, refl)) (λ other. (one-not-key l k other, refl)))
  tally-step P (Release l k) ok =
      let has_one = held-current P l k ok in let now = current-key z P k has_one.0 in let f : Phase = (P (place_of k)).phase in
      at-key P (Release l k) k (λ x. refl) (λ other. (refl, one-not-key l k other))
      (λ places. recounts (P (place_of k)) (lost l f) l k 0 (one_if (l == lane) (k == key)) now.0 now.1 places
      (λ mine this. let some : 0 < references_in f lane = subst (λ (x : ℕ). 0 < references_in f x) mine has_one.1 in
      let g = loses-here l f mine in let o = one-both l k mine this in omega arith)
      (loses-else l f) (λ other. (refl, one-not-lane l k other)) (λ other. (refl, one-not-key l k other)))
  tally-step P (Clear l k true) ok =
      at-key P (Clear l k true) k (λ x. refl) (λ other. (refl, refl))
      (λ places. quiet (Clear l k true) (P (place_of k)) (spot (P (place_of k)).generation (marked (P (place_of k)).phase)) refl refl
      (counted-same (P (place_of k)) (spot (P (place_of k)).generation (marked (P (place_of k)).phase)) refl (marks-same (P (place_of k)).phase)))
  tally-step P (Clear l k false) ok = at-key P (Clear l k false) k (λ x. refl) (λ other. (refl, refl)) (λ places. refl)
  tally-step P (Reclaim l k) ok =
      at-key P (Reclaim l k) k (λ x. refl) (λ other. (refl, refl))
      (λ places. let was = counted-none (P (place_of k)) (ok.2 lane) in
      let is = counted-none (changed z.last_generation (Reclaim l k) (P (place_of k))) (reclaimed-none z.last_generation l (P (place_of k))) in
      quiet (Reclaim l k) (P (place_of k)) (changed z.last_generation (Reclaim l k) (P (place_of k))) refl refl (is ∙ sym was))
  tally-step P (Home l at) ok = dite (ℕ_discrete (place_of key) at)
      (λ here. let was = counted-none (P (place_of key)) (ap (λ (p : ℕ). references_in (P p).phase lane) here ∙ ap (λ (f : Phase). references_in f lane) ok.1) in
      let is : counted z key lane (after z (Home l at) P (place_of key)) ≡ 0 =
      ap (counted z key lane) (after-here z P (Home l at) (place_of key) (eq-eqb _ _ here)) ∙ counted-none (spot (P (place_of key)).generation home) refl in
      quiet (Home l at) (P (place_of key)) (after z (Home l at) P (place_of key)) refl refl (is ∙ sym was))
      (λ other. quiet (Home l at) (P (place_of key)) (after z (Home l at) P (place_of key)) refl refl (ap (counted z key lane) (after-else z P (Home l at) (place_of key) (ne_eqb _ _ other))))
  tally-step P (Collect l places) ok = elim (cases_Bool (has places (place_of key))) [
    | inl in_it ↦
        let was = counted-none (P (place_of key)) (ap (λ (f : Phase). references_in f lane) (all-home z P l places (place_of key) ok.2 in_it)) in
        let is : counted z key lane (after z (Collect l places) P (place_of key)) ≡ 0 =
        ap (counted z key lane) (after-here z P (Collect l places) (place_of key) in_it) ∙ counted-none (spot (P (place_of key)).generation (with l)) refl in
        quiet (Collect l places) (P (place_of key)) (after z (Collect l places) P (place_of key)) refl refl (is ∙ sym was)
    | inr not_in ↦ quiet (Collect l places) (P (place_of key)) (after z (Collect l places) P (place_of key)) refl refl
        (ap (counted z key lane) (after-else z P (Collect l places) (place_of key) not_in))
  ]

  -- over a history, what the lane has and gave back is what it had and made
  pub tally : (P : Pool) (history : List Act) → LegalFrom z P history
      → references z (pool_from z P history) lane key + sum_by (released_by lane key) history ≡ references z P lane key + sum_by (made_by lane key) history
  tally P [] legal = refl
  tally P (x ∷ xs) legal =
      let first = tally-step P x legal.1 in let rest = tally (after z x P) xs legal.2 in
      let made = sum_by-cons (made_by lane key) x xs in let released = sum_by-cons (released_by lane key) x xs in omega arith

  others-none : (act : Act) → lane_of act ≢ lane → (made_by lane key act ≡ 0) × (released_by lane key act ≡ 0)
  others-none (Publish l k content true) other = (one-not-lane l k other, refl)
  others-none (Publish l k content false) other = (refl, refl)
  others-none (Get l k (Some content)) other = (one-not-lane l k other, refl)
  others-none (Get l k None) other = (refl, refl)
  others-none (Release l k) other = (refl, one-not-lane l k other)
  others-none (Clear l k reply) other = (refl, refl)
  others-none (Reclaim l k) other = (refl, refl)
  others-none (Home l at) other = (refl, refl)
  others-none (Collect l places) other = (refl, refl)

  -- an act of another lane leaves the lane's references
  pub references-stay : (P : Pool) (act : Act) → Allowed z P act → lane_of act ≢ lane → references z (after z act P) lane key ≡ references z P lane key
  references-stay P act ok other = let step = tally-step P act ok in let none = others-none act other in omega arith

pub reclaim-law : ReclaimLaw
reclaim-law z history legal i key lane (l, at) =
    let ok = legal-at z fresh history i (Reclaim l key) legal at in
    let none = counted-none z key lane (pool_from z fresh (take i history) (place_of key)) (ok.1.2 lane) in
    let start = counted-none z key lane (fresh (place_of key)) refl in
    let all = tally z key lane fresh (take i history) (legal-take z fresh history i legal) in
    (none, omega arith)
