-- What acts leave of places and lanes outside the shape, and of contents.
use Rattle.std.proofs.Common.{◌≡◌, inl, inr, ℕ, ◌+◌, ◌<◌, ◌≤◌, Bool, true, false, cond, eqb, List, [], ◌∷◌, ◌++◌, Option, Some, None, refl, ap, sym, ◌∙◌, subst, arith, ne_eqb}
use Rattle.std.proofs.lemmas.Bool.{and_parts, cases_Bool}
use mathlib.Core.Logic.{dite}
use native.Mathlib.Decide.{ℕ_discrete}
use Rattle.keybits.specs.declared.shape.Shape.{Shape}
use Rattle.keybits.specs.Keys.{place_of}
use Rattle.keybits.specs.Shapes.{is_place, callers}
use Rattle.keybits.proofs.KeyLemmas.{key_parts}
use Rattle.seqpool.specs.declared.act.Act.{Act}
use Rattle.seqpool.specs.declared.act.Act.TheVariants.{Publish, Get, Release, Clear, Reclaim, Home, Collect}
use Rattle.seqpool.specs.Pool.{Phase, with, published, home, retired, Spot, Pool, spot, put, gained, lost, marked, is_current, references, content_in, is_unmarked, has, AllHome, lane_of, Allowed, touches, changed, after, pool_from, LegalFrom}
use Rattle.seqpool.proofs.Growth.{after-else}
use Rattle.seqpool.proofs.Ranks.{current-key}
use Rattle.seqpool.proofs.Tallies.{references-stay}
use Rattle.traces.specs.declared.trace.Turn.{Turn}
use Rattle.traces.specs.Following.{row_content}
use Rattle.traces.specs.Books.{act_list}
use Rattle.traces.specs.TurnLaws.{all_acts}
use Rattle.traces.proofs.TurnLawsReads.{gained_row, lost_row, marked_row}
use Rattle.standings.specs.Behind.{content_after, content_behind}

module _ (z : Shape) where
  -- ---- a place outside the shape

  current_place : (P : Pool) (key : ℕ) → is_current z P key ≡ true → is_place z (place_of key) ≡ true
  current_place P key is = (key_parts z key (current-key z P key is).0).place

  found_current : (P : Pool) (key : ℕ) (content : List ℕ) (b : Bool) → Some content ≡ cond b (content_in (P (place_of key)).phase) None → b ≡ true
  found_current P key content true e = refl
  found_current P key content false e = cc e

  some_current : (n : ℕ) (b : Bool) → 0 < cond b n 0 → b ≡ true
  some_current n true few = refl
  some_current n false few = absurd (omega arith)

  home_place : (P : Pool) (shard place : ℕ) (places : List ℕ) → AllHome z P shard places → has places place ≡ true → is_place z place ≡ true
  home_place P shard place [] homes is = cc is
  home_place P shard place (x ∷ xs) homes is = dite (ℕ_discrete place x)
      (λ e. subst (λ (p : ℕ). is_place z p ≡ true) (sym e) homes.0)
      (λ n. home_place P shard place xs homes.3 (ap (λ b. cond b true (has xs place)) (sym (ne_eqb place x n)) ∙ is))

  module _ (P : Pool) (place : ℕ) (outside : is_place z place ≡ false) where
    elsewhere : (at : ℕ) → is_place z at ≡ true → eqb place at ≡ false
    elsewhere at is = ne_eqb place at (λ e. let bad : false ≡ true = sym outside ∙ ap (is_place z) e ∙ is in cc bad)

    same_either : (b : Bool) (s : Spot) → cond b s s ≡ s
    same_either true s = refl
    same_either false s = refl

    outside_after : (act : Act) → Allowed z P act → after z act P place ≡ P place
    outside_after (Publish lane key content with_ref) ok =
        after-else z P (Publish lane key content with_ref) place (elsewhere (place_of key) (current_place P key ok.0))
    outside_after (Get lane key None) ok = same_either (eqb place (place_of key)) (P place)
    outside_after (Get lane key (Some content)) ok =
        after-else z P (Get lane key (Some content)) place
        (elsewhere (place_of key) (current_place P key (found_current P key content (is_current z P key) ok)))
    outside_after (Release lane key) ok =
        after-else z P (Release lane key) place (elsewhere (place_of key) (current_place P key (some_current _ (is_current z P key) ok)))
    outside_after (Clear lane key true) ok =
        after-else z P (Clear lane key true) place
        (elsewhere (place_of key) (current_place P key (and_parts (is_current z P key) (is_unmarked (P (place_of key)).phase) (sym ok)).0))
    outside_after (Clear lane key false) ok = same_either (eqb place (place_of key)) (P place)
    outside_after (Reclaim lane key) ok = after-else z P (Reclaim lane key) place (elsewhere (place_of key) (current_place P key ok.0))
    outside_after (Home lane at) ok = after-else z P (Home lane at) place (elsewhere at ok.0)
    outside_after (Collect lane places) ok = elim (cases_Bool (has places place)) [
      | inl is ↦ let bad : false ≡ true = sym outside ∙ home_place P lane place places ok.2 is in cc bad
      | inr isnt ↦ after-else z P (Collect lane places) place isnt
    ]

  pub outside_stays : (h : List Act) (P : Pool) (place : ℕ) → is_place z place ≡ false → LegalFrom z P h → pool_from z P h place ≡ P place
  outside_stays [] P place outside legal = refl
  outside_stays (act ∷ h) P place outside legal =
      outside_stays h (after z act P) place outside legal.2 ∙ outside_after P place outside act legal.1

  -- ---- a lane outside the shape

  pub none_beyond : (lane key : ℕ) → callers z ≤ lane → (h : List Act) (P : Pool) → LegalFrom z P h → references z P lane key ≡ 0
      → references z (pool_from z P h) lane key ≡ 0
  none_beyond lane key past [] P legal none = none
  none_beyond lane key past (act ∷ h) P legal none =
      let inside = legal.0 in
      none_beyond lane key past h (after z act P) legal.2 (references-stay z key lane P act legal.1 (λ e. absurd (omega arith)) ∙ none)

  -- a place is with a lane of the shape
  abbrev pub WithBelow : Spot → Type 0
  WithBelow s = (k : ℕ) → s.phase ≡ with k → k < callers z

  one_with : (j k : ℕ) → with j ≡ with k → j ≡ k
  one_with j k e = cc e

  gained_with : (lane k : ℕ) (f : Phase) → gained lane f ≡ with k → f ≡ with k
  gained_with lane k (with j) e = e
  gained_with lane k (published content references mark) e = absurd (cc e)
  gained_with lane k home e = absurd (cc e)
  gained_with lane k retired e = absurd (cc e)

  lost_with : (lane k : ℕ) (f : Phase) → lost lane f ≡ with k → f ≡ with k
  lost_with lane k (with j) e = e
  lost_with lane k (published content references mark) e = absurd (cc e)
  lost_with lane k home e = absurd (cc e)
  lost_with lane k retired e = absurd (cc e)

  marked_with : (k : ℕ) (f : Phase) → marked f ≡ with k → f ≡ with k
  marked_with k (with j) e = e
  marked_with k (published content references mark) e = absurd (cc e)
  marked_with k home e = absurd (cc e)
  marked_with k retired e = absurd (cc e)

  reclaimed_with : (b : Bool) (g lane : ℕ) → lane < callers z → WithBelow (cond b (spot g retired) (spot (g + 1) (with lane)))
  reclaimed_with true g lane below k e = absurd (cc e)
  reclaimed_with false g lane below k e = let same = one_with lane k e in omega arith

  changed_with : (act : Act) (s : Spot) → lane_of act < callers z → WithBelow s → WithBelow (changed z.last_generation act s)
  changed_with (Publish lane key content with_ref) s below was k e = absurd (cc e)
  changed_with (Get lane key None) s below was k e = was k e
  changed_with (Get lane key (Some content)) s below was k e = was k (gained_with lane k s.phase e)
  changed_with (Release lane key) s below was k e = was k (lost_with lane k s.phase e)
  changed_with (Clear lane key true) s below was k e = was k (marked_with k s.phase e)
  changed_with (Clear lane key false) s below was k e = was k e
  changed_with (Reclaim lane key) s below was k e = reclaimed_with (eqb s.generation z.last_generation) s.generation lane below k e
  changed_with (Home lane place) s below was k e = absurd (cc e)
  changed_with (Collect lane places) s below was k e = let same = one_with lane k e in omega arith

  either_with : (b : Bool) (s t : Spot) → WithBelow s → WithBelow t → WithBelow (cond b s t)
  either_with true s t p q = p
  either_with false s t p q = q

  pub with_below : (h : List Act) (P : Pool) (place : ℕ) → LegalFrom z P h → WithBelow (P place) → WithBelow (pool_from z P h place)
  with_below [] P place legal was = was
  with_below (act ∷ h) P place legal was =
      with_below h (after z act P) place legal.2
      (either_with (touches act place) (changed z.last_generation act (P place)) (P place)
      (changed_with act (P place) legal.0 was) was)

  -- ---- contents

  -- what a place has in its row was published there last
  abbrev pub IsLatest : Option (List ℕ) → Spot → Type 0
  IsLatest latest s = (content : List ℕ) → row_content s.phase ≡ Some content → latest ≡ Some content

  either_latest : (b : Bool) (latest : Option (List ℕ)) (s t : Spot) → IsLatest latest s → IsLatest latest t → IsLatest latest (cond b s t)
  either_latest true latest s t p q = p
  either_latest false latest s t p q = q

  no_row : (b : Bool) (latest : Option (List ℕ)) (g : ℕ) (lane : ℕ) → IsLatest latest (cond b (spot g retired) (spot (g + 1) (with lane)))
  no_row true latest g lane content e = absurd (cc e)
  no_row false latest g lane content e = absurd (cc e)

  published_latest : (b : Bool) (latest : Option (List ℕ)) (s : Spot) (content : List ℕ) (refs : ℕ → ℕ) → IsLatest latest s
      → IsLatest (cond b (Some content) latest) (cond b (spot s.generation (published content refs false)) s)
  published_latest true latest s content refs was more e = e
  published_latest false latest s content refs was more e = was more e

  latest_after : (P : Pool) (place : ℕ) (latest : Option (List ℕ)) (act : Act) → IsLatest latest (P place)
      → IsLatest (content_after place (Some act) latest) (after z act P place)
  latest_after P place latest (Publish lane key content with_ref) was =
      published_latest (eqb place (place_of key)) latest (P place) content (put (λ _. 0) lane (cond with_ref 1 0)) was
  latest_after P place latest (Get lane key None) was = either_latest (eqb place (place_of key)) latest (P place) (P place) was was
  latest_after P place latest (Get lane key (Some content)) was =
      either_latest (eqb place (place_of key)) latest (spot (P place).generation (gained lane (P place).phase)) (P place)
      (λ more e. was more (sym (gained_row lane (P place).phase) ∙ e)) was
  latest_after P place latest (Release lane key) was =
      either_latest (eqb place (place_of key)) latest (spot (P place).generation (lost lane (P place).phase)) (P place)
      (λ more e. was more (sym (lost_row lane (P place).phase) ∙ e)) was
  latest_after P place latest (Clear lane key true) was =
      either_latest (eqb place (place_of key)) latest (spot (P place).generation (marked (P place).phase)) (P place)
      (λ more e. was more (sym (marked_row (P place).phase) ∙ e)) was
  latest_after P place latest (Clear lane key false) was = either_latest (eqb place (place_of key)) latest (P place) (P place) was was
  latest_after P place latest (Reclaim lane key) was =
      either_latest (eqb place (place_of key)) latest (changed z.last_generation (Reclaim lane key) (P place)) (P place)
      (no_row (eqb (P place).generation z.last_generation) latest (P place).generation lane) was
  latest_after P place latest (Home lane at) was =
      either_latest (eqb place at) latest (spot (P place).generation home) (P place) (λ more e. absurd (cc e)) was
  latest_after P place latest (Collect lane places) was =
      either_latest (has places place) latest (spot (P place).generation (with lane)) (P place) (λ more e. absurd (cc e)) was

  pub latest_behind : (ts : List Turn) (P : Pool) (place : ℕ) (latest : Option (List ℕ)) → IsLatest latest (P place)
      → IsLatest (content_behind place latest ts) (pool_from z P (all_acts ts) place)
  latest_behind [] P place latest was = was
  latest_behind (t ∷ ts) P place latest was = past t.act (latest_behind ts)
    where
      past : (act : Option Act)
          → ((Q : Pool) (at : ℕ) (new : Option (List ℕ)) → IsLatest new (Q at) → IsLatest (content_behind at new ts) (pool_from z Q (all_acts ts) at))
          → IsLatest (content_behind place (content_after place act latest) ts) (pool_from z P (act_list act ++ all_acts ts) place)
      past None more = more P place latest was
      past (Some act) more = more (after z act P) place (content_after place (Some act) latest) (latest_after P place latest act was)
