-- What an act moves: the places with its lane, and the lane's references; and what it leaves of those of other lanes.
use Rattle.std.proofs.Common.{◌≡◌, ◌≢◌, ℕ, ◌+◌, ◌<◌, Bool, true, false, cond, eqb, List, [], ◌∷◌, ◌++◌, Option, Some, None, refl, sym, ap, ◌∙◌, subst, arith, eq-eqb, ne_eqb, append_assoc, inl, inr}
use Rattle.std.proofs.lemmas.Bool.{cases_Bool}
use Rattle.std.proofs.lemmas.List.Sums.{sum_by-cons}
use mathlib.Core.Logic.{dite}
use native.Mathlib.Decide.{ℕ_discrete}
use Rattle.keybits.specs.declared.shape.Shape.{Shape}
use Rattle.keybits.specs.Shapes.{is_place}
use Rattle.keybits.specs.Keys.{place_of, generation_of, is_key}
use Rattle.keybits.specs.Counts.{times}
use Rattle.keybits.proofs.CountLemmas.{one_at, none_at, times-append}
use Rattle.keybits.proofs.KeyLemmas.{key_parts}
use Rattle.seqpool.specs.declared.act.Act.{Act}
use Rattle.seqpool.specs.declared.act.Act.TheVariants as acts
use Rattle.seqpool.specs.Pool.{Phase, with, published, home, retired, Spot, spot, Pool, is_marked, references, gained, lost, marked, has, NoRepeats, AllHome, lane_of, Allowed, touches, changed, after, pool_from, LegalFrom}
use Rattle.seqpool.specs.Histories.{made_by, released_by}
use Rattle.seqpool.proofs.Growth.{after-here, after-else}
use Rattle.seqpool.proofs.Ranks.{current-key, all-home}
use Rattle.seqpool.proofs.Tallies.{tally, references-stay}
use Rattle.seqpool.proofs.Owns.{Alike, with-stays, generation-stays}
use Rattle.traces.specs.Books.{reclaimed, returned, act_list}
use Rattle.traces.specs.Parts.{count_if}
use Rattle.traces.specs.Owning.{is_with, publishes, collected, gains, releases}

-- ---- what acts tell, one list behind the other

reclaimed-cond : (b : Bool) (p : ℕ) (xs ys : List ℕ) → cond b (xs ++ ys) (p ∷ (xs ++ ys)) ≡ cond b xs (p ∷ xs) ++ ys
reclaimed-cond true p xs ys = refl
reclaimed-cond false p xs ys = refl

pub reclaimed-append : (last : ℕ) (xs ys : List Act) → reclaimed last (xs ++ ys) ≡ reclaimed last xs ++ reclaimed last ys
reclaimed-append last [] ys = refl
reclaimed-append last (acts.Reclaim l key ∷ more) ys =
    ap (λ (r : List ℕ). cond (eqb (generation_of key) last) r (place_of key ∷ r)) (reclaimed-append last more ys)
    ∙ reclaimed-cond (eqb (generation_of key) last) (place_of key) (reclaimed last more) (reclaimed last ys)
reclaimed-append last (acts.Publish l key content with_ref ∷ more) ys = reclaimed-append last more ys
reclaimed-append last (acts.Get l key reply ∷ more) ys = reclaimed-append last more ys
reclaimed-append last (acts.Release l key ∷ more) ys = reclaimed-append last more ys
reclaimed-append last (acts.Clear l key reply ∷ more) ys = reclaimed-append last more ys
reclaimed-append last (acts.Home l place ∷ more) ys = reclaimed-append last more ys
reclaimed-append last (acts.Collect l places ∷ more) ys = reclaimed-append last more ys

pub returned-append : (xs ys : List Act) → returned (xs ++ ys) ≡ returned xs ++ returned ys
returned-append [] ys = refl
returned-append (acts.Home l place ∷ more) ys = ap (λ (r : List ℕ). place ∷ r) (returned-append more ys)
returned-append (acts.Publish l key content with_ref ∷ more) ys = returned-append more ys
returned-append (acts.Get l key reply ∷ more) ys = returned-append more ys
returned-append (acts.Release l key ∷ more) ys = returned-append more ys
returned-append (acts.Clear l key reply ∷ more) ys = returned-append more ys
returned-append (acts.Reclaim l key ∷ more) ys = returned-append more ys
returned-append (acts.Collect l places ∷ more) ys = returned-append more ys

pub publishes-append : (xs ys : List Act) → publishes (xs ++ ys) ≡ publishes xs ++ publishes ys
publishes-append [] ys = refl
publishes-append (acts.Publish l key content with_ref ∷ more) ys = ap (λ (r : List ℕ). place_of key ∷ r) (publishes-append more ys)
publishes-append (acts.Get l key reply ∷ more) ys = publishes-append more ys
publishes-append (acts.Release l key ∷ more) ys = publishes-append more ys
publishes-append (acts.Clear l key reply ∷ more) ys = publishes-append more ys
publishes-append (acts.Reclaim l key ∷ more) ys = publishes-append more ys
publishes-append (acts.Home l place ∷ more) ys = publishes-append more ys
publishes-append (acts.Collect l places ∷ more) ys = publishes-append more ys

pub collected-append : (xs ys : List Act) → collected (xs ++ ys) ≡ collected xs ++ collected ys
collected-append [] ys = refl
collected-append (acts.Collect l places ∷ more) ys =
    ap (λ (r : List ℕ). places ++ r) (collected-append more ys) ∙ sym (append_assoc places (collected more) (collected ys))
collected-append (acts.Publish l key content with_ref ∷ more) ys = collected-append more ys
collected-append (acts.Get l key reply ∷ more) ys = collected-append more ys
collected-append (acts.Release l key ∷ more) ys = collected-append more ys
collected-append (acts.Clear l key reply ∷ more) ys = collected-append more ys
collected-append (acts.Reclaim l key ∷ more) ys = collected-append more ys
collected-append (acts.Home l place ∷ more) ys = collected-append more ys

pub gains-append : (xs ys : List Act) → gains (xs ++ ys) ≡ gains xs ++ gains ys
gains-append [] ys = refl
gains-append (acts.Publish l key content true ∷ more) ys = ap (λ (r : List ℕ). key ∷ r) (gains-append more ys)
gains-append (acts.Publish l key content false ∷ more) ys = gains-append more ys
gains-append (acts.Get l key (Some content) ∷ more) ys = ap (λ (r : List ℕ). key ∷ r) (gains-append more ys)
gains-append (acts.Get l key None ∷ more) ys = gains-append more ys
gains-append (acts.Release l key ∷ more) ys = gains-append more ys
gains-append (acts.Clear l key reply ∷ more) ys = gains-append more ys
gains-append (acts.Reclaim l key ∷ more) ys = gains-append more ys
gains-append (acts.Home l place ∷ more) ys = gains-append more ys
gains-append (acts.Collect l places ∷ more) ys = gains-append more ys

pub releases-append : (xs ys : List Act) → releases (xs ++ ys) ≡ releases xs ++ releases ys
releases-append [] ys = refl
releases-append (acts.Release l key ∷ more) ys = ap (λ (r : List ℕ). key ∷ r) (releases-append more ys)
releases-append (acts.Publish l key content with_ref ∷ more) ys = releases-append more ys
releases-append (acts.Get l key reply ∷ more) ys = releases-append more ys
releases-append (acts.Clear l key reply ∷ more) ys = releases-append more ys
releases-append (acts.Reclaim l key ∷ more) ys = releases-append more ys
releases-append (acts.Home l place ∷ more) ys = releases-append more ys
releases-append (acts.Collect l places ∷ more) ys = releases-append more ys

-- ---- phases

-- a phase that counts as with the lane is with it
pub with-of : (lane : ℕ) (f : Phase) → 0 < count_if (is_with lane f) → f ≡ with lane
with-of lane (with k) some = dite (ℕ_discrete k lane) (λ e. ap with e)
    (λ other. let none : count_if (eqb k lane) ≡ 0 = none_at k lane other in absurd (omega arith))
with-of lane (published content refs mark) some = absurd (omega arith)
with-of lane home some = absurd (omega arith)
with-of lane retired some = absurd (omega arith)

pub with-one_if : (lane : ℕ) (f : Phase) → f ≡ with lane → count_if (is_with lane f) ≡ 1
with-one_if lane f e = ap (λ (g : Phase). count_if (is_with lane g)) e ∙ one_at lane lane refl

pub marked-without : (lane : ℕ) (f : Phase) → is_marked f ≡ true → is_with lane f ≡ false
marked-without lane (with k) e = absurd (cc e)
marked-without lane (published content refs mark) e = refl
marked-without lane home e = absurd (cc e)
marked-without lane retired e = absurd (cc e)

gained-with : (m l : ℕ) (f : Phase) → is_with m (gained l f) ≡ is_with m f
gained-with m l (with k) = refl
gained-with m l (published content refs mark) = refl
gained-with m l home = refl
gained-with m l retired = refl

lost-with : (m l : ℕ) (f : Phase) → is_with m (lost l f) ≡ is_with m f
lost-with m l (with k) = refl
lost-with m l (published content refs mark) = refl
lost-with m l home = refl
lost-with m l retired = refl

marked-with : (m : ℕ) (f : Phase) → is_with m (marked f) ≡ is_with m f
marked-with m (with k) = refl
marked-with m (published content refs mark) = refl
marked-with m home = refl
marked-with m retired = refl

alike-with : (lane : ℕ) (f g : Phase) → Alike lane f g → count_if (is_with lane g) ≡ count_if (is_with lane f)
alike-with lane f g alike = elim (cases_Bool (is_with lane f)) [
  | inl mine ↦ let one : count_if (is_with lane f) ≡ 1 = ap count_if mine in
      let is : f ≡ with lane = with-of lane f (omega arith) in with-one_if lane g (alike.0 is) ∙ sym one
  | inr isnt ↦ elim (cases_Bool (is_with lane g)) [
    | inl mine ↦ let one : count_if (is_with lane g) ≡ 1 = ap count_if mine in
        let is : g ≡ with lane = with-of lane g (omega arith) in one ∙ sym (with-one_if lane f (alike.1 is))
    | inr neither ↦ ap count_if neither ∙ sym (ap count_if isnt)
  ]
]

-- a list without repeats has a number once or never
times-has : (xs : List ℕ) (n : ℕ) → NoRepeats xs → times n xs ≡ count_if (has xs n)
times-has [] n apart = refl
times-has (x ∷ xs) n apart = dite (ℕ_discrete x n)
    (λ same. let one : count_if (eqb x n) ≡ 1 = one_at x n same in
    let none : count_if (has xs n) ≡ 0 = ap count_if (ap (has xs) (sym same) ∙ apart.0) in
    let rest = times-has xs n apart.1 in
    let now : count_if (has (x ∷ xs) n) ≡ 1 = ap (λ (b : Bool). count_if (cond b true (has xs n))) (eq-eqb n x (sym same)) in omega arith)
    (λ other. let none : count_if (eqb x n) ≡ 0 = none_at x n other in
    let rest = times-has xs n apart.1 in
    let now : count_if (has (x ∷ xs) n) ≡ count_if (has xs n)
    = ap (λ (b : Bool). count_if (cond b true (has xs n))) (ne_eqb n x (λ e. other (sym e))) in omega arith)

reclaim-here : (b : Bool) (s : Spot) (l p q : ℕ) → q ≡ p
    → count_if (is_with l (cond b (spot s.generation retired) (spot (s.generation + 1) (with l))).phase) ≡ times p (cond b [] (q ∷ []))
reclaim-here true s l p q same = refl
reclaim-here false s l p q same = let mine : count_if (eqb l l) ≡ 1 = one_at l l refl in
    let one : count_if (eqb q p) ≡ 1 = one_at q p same in omega arith

reclaim-else : (b : Bool) (p q : ℕ) → q ≢ p → times p (cond b [] (q ∷ [])) ≡ 0
reclaim-else true p q other = refl
reclaim-else false p q other = let none : count_if (eqb q p) ≡ 0 = none_at q p other in omega arith

-- ---- an act that is allowed

module _ (z : Shape) (P : Pool) where
  -- what holds at a place after an act of one place
  at-one : (act : Act) (one place : ℕ) (B : Spot → Type 0) → ((x : ℕ) → touches act x ≡ eqb x one)
      → (place ≡ one → B (changed z.last_generation act (P place))) → (place ≢ one → B (P place)) → B (after z act P place)
  at-one act one place B of here there = dite (ℕ_discrete place one)
      (λ same. subst B (sym (after-here z P act place (of place ∙ eq-eqb place one same))) (here same))
      (λ other. subst B (sym (after-else z P act place (of place ∙ ne_eqb place one other))) (there other))

  -- a place is with the act's lane just where it was, but for what the act brought and took
  abbrev pub Balanced : Act → ℕ → Spot → Type 0
  Balanced act place s =
      count_if (is_with (lane_of act) s.phase) + times place (returned (act ∷ [])) + times place (publishes (act ∷ []))
      ≡ count_if (is_with (lane_of act) (P place).phase) + times place (reclaimed z.last_generation (act ∷ [])) + times place (collected (act ∷ []))

  pub balanced : (act : Act) (place : ℕ) → Allowed z P act → Balanced act place (after z act P place)
  balanced (acts.Publish l key content with_ref) place ok =
      at-one (acts.Publish l key content with_ref) (place_of key) place (Balanced (acts.Publish l key content with_ref) place) (λ x. refl)
      (λ here. let was = with-one_if l (P place).phase (ap (λ (p : ℕ). (P p).phase) here ∙ ok.1) in
      let one : count_if (eqb (place_of key) place) ≡ 1 = one_at (place_of key) place (sym here) in omega arith)
      (λ other. let none : count_if (eqb (place_of key) place) ≡ 0 = none_at (place_of key) place (λ e. other (sym e)) in omega arith)
  balanced (acts.Get l key None) place ok =
      at-one (acts.Get l key None) (place_of key) place (Balanced (acts.Get l key None) place) (λ x. refl) (λ here. refl) (λ other. refl)
  balanced (acts.Get l key (Some content)) place ok =
      at-one (acts.Get l key (Some content)) (place_of key) place (Balanced (acts.Get l key (Some content)) place) (λ x. refl)
      (λ here. let same = ap count_if (gained-with l l (P place).phase) in omega arith) (λ other. refl)
  balanced (acts.Release l key) place ok =
      at-one (acts.Release l key) (place_of key) place (Balanced (acts.Release l key) place) (λ x. refl)
      (λ here. let same = ap count_if (lost-with l l (P place).phase) in omega arith) (λ other. refl)
  balanced (acts.Clear l key true) place ok =
      at-one (acts.Clear l key true) (place_of key) place (Balanced (acts.Clear l key true) place) (λ x. refl)
      (λ here. let same = ap count_if (marked-with l (P place).phase) in omega arith) (λ other. refl)
  balanced (acts.Clear l key false) place ok =
      at-one (acts.Clear l key false) (place_of key) place (Balanced (acts.Clear l key false) place) (λ x. refl) (λ here. refl) (λ other. refl)
  balanced (acts.Reclaim l key) place ok =
      at-one (acts.Reclaim l key) (place_of key) place (Balanced (acts.Reclaim l key) place) (λ x. refl)
      (λ here. let was : count_if (is_with l (P place).phase) ≡ 0
      = ap count_if (marked-without l (P place).phase (ap (λ (p : ℕ). is_marked (P p).phase) here ∙ ok.1)) in
      let generation : (P place).generation ≡ generation_of key = ap (λ (p : ℕ). (P p).generation) here ∙ (current-key z P key ok.0).1 in
      let now
      = ap (λ (g : ℕ).
      count_if (is_with l (cond (eqb g z.last_generation) (spot (P place).generation retired) (spot ((P place).generation + 1) (with l))).phase))
      generation
      ∙ reclaim-here (eqb (generation_of key) z.last_generation) (P place) l place (place_of key) (sym here) in omega arith)
      (λ other. let none = reclaim-else (eqb (generation_of key) z.last_generation) place (place_of key) (λ e. other (sym e)) in omega arith)
  balanced (acts.Home l at) place ok =
      at-one (acts.Home l at) at place (Balanced (acts.Home l at) place) (λ x. refl)
      (λ here. let was = with-one_if l (P place).phase (ap (λ (p : ℕ). (P p).phase) here ∙ ok.1) in
      let one : count_if (eqb at place) ≡ 1 = one_at at place (sym here) in omega arith)
      (λ other. let none : count_if (eqb at place) ≡ 0 = none_at at place (λ e. other (sym e)) in omega arith)
  balanced (acts.Collect l places) place ok =
      let joined = times-append place places [] in
      let once = times-has places place ok.1 in
      elim (cases_Bool (has places place)) [
        | inl in_it ↦ subst (Balanced (acts.Collect l places) place) (sym (after-here z P (acts.Collect l places) place in_it))
            (let was : count_if (is_with l (P place).phase) ≡ 0
            = ap (λ (f : Phase). count_if (is_with l f)) (all-home z P l places place ok.2 in_it) in
            let mine : count_if (eqb l l) ≡ 1 = one_at l l refl in
            let one : count_if (has places place) ≡ 1 = ap count_if in_it in omega arith)
        | inr not_in ↦ subst (Balanced (acts.Collect l places) place) (sym (after-else z P (acts.Collect l places) place not_in))
            (let none : count_if (has places place) ≡ 0 = ap count_if not_in in omega arith)
      ]

  all-placed : (l : ℕ) (xs : List ℕ) (n : ℕ) → AllHome z P l xs → 0 < times n xs → is_place z n ≡ true
  all-placed l [] n all some = absurd (omega arith)
  all-placed l (x ∷ xs) n all some = dite (ℕ_discrete x n)
      (λ same. ap (is_place z) (sym same) ∙ all.0)
      (λ other. let none : count_if (eqb x n) ≡ 0 = none_at x n other in all-placed l xs n all.3 (omega arith))

  -- what an act brings are places of the shape
  pub brings : (act : Act) (place : ℕ) → Allowed z P act
      → 0 < times place (reclaimed z.last_generation (act ∷ [])) + times place (collected (act ∷ [])) → is_place z place ≡ true
  brings (acts.Publish l key content with_ref) place ok some = absurd (omega arith)
  brings (acts.Get l key reply) place ok some = absurd (omega arith)
  brings (acts.Release l key) place ok some = absurd (omega arith)
  brings (acts.Clear l key reply) place ok some = absurd (omega arith)
  brings (acts.Home l at) place ok some = absurd (omega arith)
  brings (acts.Reclaim l key) place ok some = dite (ℕ_discrete (place_of key) place)
      (λ same. ap (is_place z) (sym same) ∙ (key_parts z key (current-key z P key ok.0).0).place)
      (λ other. let none = reclaim-else (eqb (generation_of key) z.last_generation) place (place_of key) other in absurd (omega arith))
  brings (acts.Collect l places) place ok some = let joined = times-append place places [] in all-placed l places place ok.2 (omega arith)

  -- places of another lane
  pub with_else : (act : Act) (other place : ℕ) → Allowed z P act → lane_of act ≢ other
      → count_if (is_with other (after z act P place).phase) ≡ count_if (is_with other (P place).phase)
  with_else act other place ok apart = alike-with other (P place).phase (after z act P place).phase (with-stays z other P act place ok apart)

-- the references that an act of the lane gives and gives back
gains-one : (act : Act) (lane key : ℕ) → lane_of act ≡ lane → times key (gains (act ∷ [])) ≡ made_by lane key act
gains-one (acts.Publish l k content true) lane key mine =
    let e = ap (λ (b : Bool). cond b (count_if (eqb k key)) 0) (eq-eqb l lane mine) in omega arith
gains-one (acts.Publish l k content false) lane key mine = refl
gains-one (acts.Get l k (Some content)) lane key mine =
    let e = ap (λ (b : Bool). cond b (count_if (eqb k key)) 0) (eq-eqb l lane mine) in omega arith
gains-one (acts.Get l k None) lane key mine = refl
gains-one (acts.Release l k) lane key mine = refl
gains-one (acts.Clear l k reply) lane key mine = refl
gains-one (acts.Reclaim l k) lane key mine = refl
gains-one (acts.Home l place) lane key mine = refl
gains-one (acts.Collect l places) lane key mine = refl

releases-one : (act : Act) (lane key : ℕ) → lane_of act ≡ lane → times key (releases (act ∷ [])) ≡ released_by lane key act
releases-one (acts.Release l k) lane key mine =
    let e = ap (λ (b : Bool). cond b (count_if (eqb k key)) 0) (eq-eqb l lane mine) in omega arith
releases-one (acts.Publish l k content with_ref) lane key mine = refl
releases-one (acts.Get l k reply) lane key mine = refl
releases-one (acts.Clear l k reply) lane key mine = refl
releases-one (acts.Reclaim l k) lane key mine = refl
releases-one (acts.Home l place) lane key mine = refl
releases-one (acts.Collect l places) lane key mine = refl

-- ---- the act of a step, if it made one

-- the act, if there is one, is by this lane
abbrev pub IsBy : ℕ → Option Act → Type 0
IsBy lane None = Unit {0}
IsBy lane (Some act) = lane_of act ≡ lane

-- what acts of a lane move of its places and references
pub record Moves (z : Shape) (P : Pool) (lane : ℕ) (made : List Act) : Type 0 where
  pub places : (place : ℕ)
      → count_if (is_with lane (pool_from z P made place).phase) + times place (returned made) + times place (publishes made)
      ≡ count_if (is_with lane (P place).phase) + times place (reclaimed z.last_generation made) + times place (collected made)
  pub references : (key : ℕ)
      → references z (pool_from z P made) lane key + times key (releases made) ≡ references z P lane key + times key (gains made)
  pub inside : (place : ℕ) → 0 < times place (reclaimed z.last_generation made) + times place (collected made) → is_place z place ≡ true
  pub generation : (place m : ℕ) → (P place).phase ≡ with m → (pool_from z P made place).generation ≡ (P place).generation

pub moves : (z : Shape) (P : Pool) (lane : ℕ) (act : Option Act) → IsBy lane act → LegalFrom z P (act_list act) → Moves z P lane (act_list act)
moves z P lane None mine legal = record {
  places = λ place. refl;
  references = λ key. refl;
  inside = λ place some. absurd (omega arith);
  generation = λ place m is. refl;
}
moves z P lane (Some act) mine legal = record {
  places = λ place. subst (λ (l : ℕ).
      count_if (is_with l (after z act P place).phase) + times place (returned (act ∷ [])) + times place (publishes (act ∷ []))
      ≡ count_if (is_with l (P place).phase) + times place (reclaimed z.last_generation (act ∷ [])) + times place (collected (act ∷ []))) mine
      (balanced z P act place legal.1);
  references = λ key.
      let all = tally z key lane P (act ∷ []) legal in
      let made = sum_by-cons (made_by lane key) act [] in
      let released = sum_by-cons (released_by lane key) act [] in
      let gained_one = gains-one act lane key mine in
      let released_one = releases-one act lane key mine in
      omega arith;
  inside = λ place some. brings z P act place legal.1 some;
  generation = λ place m is. generation-stays z m P act place legal.1 is;
}

-- what a step reclaims is a key of the shape
pub reclaims_key : (z : Shape) (P : Pool) (act : Option Act) (lane key : ℕ)
    → LegalFrom z P (act_list act) → act ≡ Some (acts.Reclaim lane key) → is_key z key ≡ true
reclaims_key z P act lane key legal is =
    let last = subst (λ (a : Option Act). LegalFrom z P (act_list a)) is legal in
    (current-key z P key last.1.0).0

-- what acts leave of the places and references of a lane that made none of them
pub record Leaves (z : Shape) (P : Pool) (lane : ℕ) (made : List Act) : Type 0 where
  pub places : (place : ℕ) → count_if (is_with lane (pool_from z P made place).phase) ≡ count_if (is_with lane (P place).phase)
  pub references : (key : ℕ) → references z (pool_from z P made) lane key ≡ references z P lane key
  pub generation : (place m : ℕ) → (P place).phase ≡ with m → (pool_from z P made place).generation ≡ (P place).generation

pub leaves : (z : Shape) (P : Pool) (lane other : ℕ) (act : Option Act)
    → IsBy lane act → other ≢ lane → LegalFrom z P (act_list act) → Leaves z P other (act_list act)
leaves z P lane other None by_lane apart legal = record { places = λ place. refl; references = λ key. refl; generation = λ place m is. refl }
leaves z P lane other (Some act) by_lane apart legal = record {
  places = λ place. with_else z P act other place legal.1 (λ same. apart (sym same ∙ by_lane));
  references = λ key. references-stay z key other P act legal.1 (λ same. apart (sym same ∙ by_lane));
  generation = λ place m is. generation-stays z m P act place legal.1 is;
}
