-- ENTER keeps the rule.
use Rattle.std.proofs.Common.{◌≡◌, ◌≢◌, ⊎_elim, ℕ, ◌+◌, ◌<◌, Bool, true, false, cond, eqb, ◌&&◌, List, [], ◌∷◌, ◌++◌, Some, None, refl, ap, sym, ◌∙◌, subst, arith, eq-eqb, ne_eqb}
use Rattle.std.proofs.lemmas.Bool.{cases_Bool, and_parts, and_from, eqb-true}
use mathlib.Core.Logic.{dite}
use native.Mathlib.Decide.{ℕ_discrete}
use Rattle.keybits.specs.declared.shape.Shape.{Shape}
use Rattle.keybits.specs.declared.step.Word.TheVariants.{Life}
use Rattle.keybits.specs.Shapes.{callers, is_place}
use Rattle.keybits.specs.Keys.{place_of, generation_of, is_key}
use Rattle.keybits.specs.Words.{state_in, count_in, generation_in, claimable}
use Rattle.keybits.proofs.KeyLemmas.{key_parts}
use Rattle.keybits.proofs.CountLemmas.{sum-at}
use Rattle.seqpool.specs.declared.act.Act.{Act}
use Rattle.seqpool.specs.declared.act.Act.TheVariants as acts
use Rattle.seqpool.specs.Pool.{Phase, with, published, home, retired, Spot, spot, Pool, put, has, references_in, has_key, is_published, is_unmarked, content_in, gained, is_current, found, clears, Allowed, after, fresh, pool_after, IsLegal}
use Rattle.seqpool.proofs.Growth.{pool-snoc, legal-snoc, after-here, after-else}
use Rattle.seqpool.proofs.Tallies.{put-here, put-else}
use Rattle.steplaws.specs.declared.pending.Pending.TheVariants.{Nothing, Undo, Owes}
use Rattle.steplaws.specs.Calls.{is_hit}
use Rattle.steplaws.specs.Facts.{put_at, Words, with_value, Lanes, with_under, Moment, moment, to_undo, bits_of, most_of, Home, Rule}
use Rattle.steplaws.proofs.Acts.{silent_keeps, act_keeps}
use Rattle.steplaws.proofs.Lives.{all_refs, StepsOn, life_keeps, count_room}
use Rattle.keybits.specs.declared.step.Kind.TheVariants as kinds
use Rattle.steplaws.proofs.Keeping.{keeps}
use Rattle.steplaws.specs.StepLaws.{GetHitsLaw, GetMissesLaw, ClearHitsLaw, ClearMissesLaw, Keeps}

-- what a hit says of the word
is_hit-parts : (key word : ℕ) → is_hit key word ≡ true → (generation_in word ≡ generation_of key) × (state_in word ≡ 1)
is_hit-parts key word e = let p = and_parts (eqb (generation_in word) (generation_of key)) (eqb (state_in word) 1) e in
    (eqb-true (generation_in word) (generation_of key) p.0, eqb-true (state_in word) 1 p.1)

-- a phase that isn't PRESENT shows no content, and isn't cleared
content-none : (f : Phase) → bits_of f ≢ 1 → content_in f ≡ None
content-none (with l) n = refl
content-none (published c r true) n = refl
content-none (published c r false) n = absurd (n refl)
content-none home n = refl
content-none retired n = refl

open-no : (f : Phase) → bits_of f ≢ 1 → is_unmarked f ≡ false
open-no (with l) n = refl
open-no (published c r true) n = refl
open-no (published c r false) n = absurd (n refl)
open-no home n = refl
open-no retired n = refl

-- an unmarked row
pub record IsOpen (f : Phase) : Type 0 where
  pub content : List ℕ
  pub references : ℕ → ℕ
  pub is : f ≡ published content references false

open-yes : (f : Phase) → bits_of f ≡ 1 → IsOpen f
open-yes (with l) e = absurd (omega arith)
open-yes (published c r true) e = absurd (omega arith)
open-yes (published c r false) e = record { content = c; references = r; is = refl }
open-yes home e = absurd (omega arith)
open-yes retired e = absurd (omega arith)

module _ (z : Shape) (w : Words) (h : List Act) (r : Lanes) (s : Rule z (moment w h r)) (lane key : ℕ) (below : lane < (callers z)) (good : is_key z key ≡ true) (inside : is_place z (place_of key) ≡ true)
    (idle : r.under lane ≡ Nothing) where
  room : count_in (w.life (place_of key)) < 1073741823
  room = count_room z w h r s (place_of key) inside

  abbrev place : ℕ
  place = place_of key

  abbrev n : ℕ
  n = w.life place

  abbrev P : Pool
  P = pool_after z h

  no_undo : (q : ℕ) → to_undo q (r.under lane) ≡ 0
  no_undo q = ap (to_undo q) idle

  no_claim : (q generation : ℕ) → r.under lane ≡ Owes q generation → q ≡ place
  no_claim q generation e = let bad : Nothing ≡ Owes q generation = sym idle ∙ e in absurd (cc bad)

  more : (count_in (n + 4) ≡ count_in n + 1) × (state_in (n + 4) ≡ state_in n) × (generation_in (n + 4) ≡ generation_in n)
  more = let few_now = room in (omega arith, omega arith, omega arith)

  unclaimed : (generation : ℕ) → n + 4 ≡ claimable generation → ⊥
  unclaimed generation e = let m = more.0 in let none : count_in (n + 4) ≡ 0 = ap count_in e ∙ omega arith in absurd (omega arith)

  current : generation_in n ≡ generation_of key → is_current z P key ≡ true
  current e = and_from (is_key z key) (eqb (P place).generation (generation_of key)) good (eq-eqb (P place).generation (generation_of key) (sym (s.state place inside).1 ∙ e))

  pub hit_current : is_hit key n ≡ true → is_current z P key ≡ true
  hit_current hit = current (is_hit-parts key n hit).0

  -- where it misses, no row of the key is open
  missed : is_hit key n ≡ false → is_current z P key ≡ true → bits_of (P place).phase ≢ 1
  missed miss cur row =
      let gen = eqb-true (P place).generation (generation_of key) (and_parts (is_key z key) (eqb (P place).generation (generation_of key)) cur).1 in
      let st = s.state place inside in
      let hit : is_hit key n ≡ true = and_from (eqb (generation_in n) (generation_of key)) (eqb (state_in n) 1) (eq-eqb (generation_in n) (generation_of key) (st.1 ∙ gen)) (eq-eqb (state_in n) 1 (st.0 ∙ row)) in
      let bad : true ≡ false = sym hit ∙ miss in cc bad

  found-none : is_hit key n ≡ false → found z P key ≡ None
  found-none miss = ⊎_elim
      (λ (yes : is_current z P key ≡ true). ap (λ (b : Bool). cond b (content_in (P place).phase) None) yes ∙ content-none (P place).phase (missed miss yes))
      (λ (no : is_current z P key ≡ false). ap (λ (b : Bool). cond b (content_in (P place).phase) None) no)
      (cases_Bool (is_current z P key))

  clears-no : is_hit key n ≡ false → clears z P key ≡ false
  clears-no miss = ⊎_elim
      (λ (yes : is_current z P key ≡ true). ap (λ (b : Bool). b && is_unmarked (P place).phase) yes ∙ open-no (P place).phase (missed miss yes))
      (λ (no : is_current z P key ≡ false). ap (λ (b : Bool). b && is_unmarked (P place).phase) no)
      (cases_Bool (is_current z P key))

  -- an act that changes nothing, or none at all, with an ENTER to undo
  enter-idle : (k : List Act) (hit : Bool) → IsLegal z k → ((q : ℕ) → pool_after z k q ≡ P q) → (hit ≡ true → has_key z P key ≡ true)
      → Home z (with_value w (Life place) (n + 4)) k (with_under r lane (Undo key hit)) → StepsOn z w h k r lane place (n + 4) (Undo key hit)
  enter-idle k hit legal same has t = record {
    legal = legal;
    elsewhere = λ q other. same q;
    undo_elsewhere = λ q other. ap (λ (b : Bool). let i : ℕ = cond b 1 0 in i) (ne_eqb place q (λ e. other (sym e))) ∙ sym (no_undo q);
    count = let one : to_undo place (Undo key hit) ≡ 1 = ap (λ (b : Bool). let i : ℕ = cond b 1 0 in i) (eq-eqb place place refl) in
        let c = s.count place inside in let m = more.0 in let e = no_undo place in
        let refs : all_refs z (pool_after z k place).phase ≡ all_refs z (P place).phase = ap (λ (x : Spot). all_refs z x.phase) (same place) in omega arith;
    state = let st = s.state place inside in let m = more in
        (m.1 ∙ (st.0 ∙ sym (ap (λ (x : Spot). bits_of x.phase) (same place))), m.2 ∙ (st.1 ∙ sym (ap (λ (x : Spot). x.generation) (same place))));
    pinned = λ q here old some. ap (λ (x : Spot). (is_key z q && eqb x.generation (generation_of q)) && is_published x.phase) (same (place_of q)) ∙ old;
    own_pinned = λ q e. let same_key : key ≡ q = cc e in let yes : hit ≡ true = cc e in
        subst (λ (x : ℕ). has_key z (pool_after z k) x ≡ true) same_key
        (ap (λ (x : Spot). (is_key z key && eqb x.generation (generation_of key)) && is_published x.phase) (same place) ∙ has yes);
    own_owes = no_claim;
    owed = λ generation e. absurd (unclaimed generation e);
    few = λ m. let old = s.few place m in let e = ap (λ (x : Spot). references_in x.phase m) (same place) in omega arith;
    home = t;
  }

  unchanged : (act : Act) → ((q : ℕ) → after z act P q ≡ P q) → (q : ℕ) → pool_after z (h ++ act ∷ []) q ≡ P q
  unchanged act same q = ap (λ (Q : Pool). Q q) (pool-snoc z fresh h act) ∙ same q

  as-before : (b : Bool) (x : Spot) → cond b x x ≡ x
  as-before true x = refl
  as-before false x = refl

  -- the ENTER of a get that misses
  pub get_misses : is_hit key n ≡ false → Rule z (moment (with_value w (Life place) (n + 4)) (h ++ acts.Get lane key None ∷ []) (with_under r lane (Undo key false)))
  get_misses miss =
      let a : Act = acts.Get lane key None in
      let ok : Allowed z P a = sym (found-none miss) in
      life_keeps z w h (h ++ a ∷ []) r lane place (n + 4) (Undo key false) below s
      (enter-idle (h ++ a ∷ []) false (legal-snoc z fresh h a s.legal below ok) (unchanged a (λ q. as-before (eqb q place) (P q))) (λ no. absurd (cc no))
      (act_keeps z w (put_at w.life place (n + 4)) h r s.home lane (Undo key false) a tt refl ok (λ q some. tt) tt))

  -- the ENTER of a clear that misses
  pub clear_misses : is_hit key n ≡ false → Rule z (moment (with_value w (Life place) (n + 4)) (h ++ acts.Clear lane key false ∷ []) (with_under r lane (Undo key false)))
  clear_misses miss =
      let a : Act = acts.Clear lane key false in
      let ok : Allowed z P a = sym (clears-no miss) in
      life_keeps z w h (h ++ a ∷ []) r lane place (n + 4) (Undo key false) below s
      (enter-idle (h ++ a ∷ []) false (legal-snoc z fresh h a s.legal below ok) (unchanged a (λ q. as-before (eqb q place) (P q))) (λ no. absurd (cc no))
      (act_keeps z w (put_at w.life place (n + 4)) h r s.home lane (Undo key false) a tt refl ok (λ q some. tt) tt))

  -- the ENTER of a clear that hits
  pub clear_hits : is_hit key n ≡ true → Rule z (moment (with_value w (Life place) (n + 4)) h (with_under r lane (Undo key true)))
  clear_hits hit =
      let p = is_hit-parts key n hit in
      let st = s.state place inside in
      let row = open-yes (P place).phase (sym st.0 ∙ p.1) in
      life_keeps z w h h r lane place (n + 4) (Undo key true) below s
      (enter-idle h true s.legal (λ q. refl) (λ yes. and_from (is_current z P key) (is_published (P place).phase) (current p.0) (ap is_published row.is))
      (silent_keeps z w (put_at w.life place (n + 4)) h r s.home lane (Undo key true) tt))

  -- the ENTER of a get that hits: with the content, and one reference more
  pub get_hits : references_in (P place).phase lane < most_of z lane → is_hit key n ≡ true → (content : List ℕ) × Rule z (moment (with_value w (Life place) (n + 4)) (h ++ acts.Get lane key (Some content) ∷ []) (with_under r lane Nothing))
  get_hits fewer hit =
      let p = is_hit-parts key n hit in
      let st = s.state place inside in
      let row = open-yes (P place).phase (sym st.0 ∙ p.1) in
      let a : Act = acts.Get lane key (Some row.content) in
      let k : List Act = h ++ a ∷ [] in
      let ok : Allowed z P a = sym (ap (λ (b : Bool). cond b (content_in (P place).phase) None) (current p.0) ∙ ap content_in row.is) in
      let at : pool_after z k place ≡ spot (P place).generation (gained lane (P place).phase) =
      ap (λ (Q : Pool). Q place) (pool-snoc z fresh h a) ∙ after-here z P a place (eq-eqb place place refl) in
      let phase : (pool_after z k place).phase ≡ published row.content (put row.references lane (row.references lane + 1)) false = ap (λ (x : Spot). x.phase) at ∙ ap (gained lane) row.is in (
        row.content,
        life_keeps z w h k r lane place (n + 4) Nothing below s record {
          legal = legal-snoc z fresh h a s.legal below ok;
          elsewhere = λ q other. ap (λ (Q : Pool). Q q) (pool-snoc z fresh h a) ∙ after-else z P a q (ne_eqb q place other);
          undo_elsewhere = λ q other. sym (no_undo q);
          count = let new = ap (all_refs z) phase in let old = ap (all_refs z) row.is in
              let grown = sum-at (callers z) lane (put row.references lane (row.references lane + 1)) row.references below (λ m b other. put-else row.references lane (row.references lane + 1) m other) in
              let one = put-here row.references lane (row.references lane + 1) lane refl in
              let c = s.count place inside in let m = more.0 in let e = no_undo place in omega arith;
          state = let m = more in (m.1 ∙ (p.1 ∙ sym (ap bits_of phase)), m.2 ∙ (st.1 ∙ sym (ap (λ (x : Spot). x.generation) at)));
          pinned = λ q here old some.
              let was = and_parts (is_current z P q) (is_published (P (place_of q)).phase) old in
              and_from (is_current z (pool_after z k) q) (is_published (pool_after z k (place_of q)).phase)
              (ap (λ (x : ℕ). is_key z q && eqb x (generation_of q)) (ap (λ (x : ℕ). (pool_after z k x).generation) here ∙ (ap (λ (x : Spot). x.generation) at ∙ sym (ap (λ (x : ℕ). (P x).generation) here))) ∙ was.0)
              (ap (λ (x : ℕ). is_published (pool_after z k x).phase) here ∙ ap is_published phase);
          own_pinned = λ q e. absurd (cc e);
          own_owes = no_claim;
          owed = λ generation e. absurd (unclaimed generation e);
          few = λ m. let new = ap (λ (f : Phase). references_in f m) phase in let was = ap (λ (f : Phase). references_in f m) row.is in let old = s.few place m in
              dite (ℕ_discrete m lane)
              (λ e. let most : most_of z m ≡ most_of z lane = ap (most_of z) e in let one = put-here row.references lane (row.references lane + 1) m e in let own = ap (λ (f : Phase). references_in f lane) row.is in omega arith)
              (λ d. let none = put-else row.references lane (row.references lane + 1) m d in omega arith);
          home = act_keeps z w (put_at w.life place (n + 4)) h r s.home lane Nothing a tt refl ok (λ q some. tt) tt;
        },
      )

-- ---- the laws

pub get-hits-law : GetHitsLaw
get-hits-law z m lane key s u good fewer hit =
    let place : ℕ = place_of key in
    let inside = (key_parts z key good).place in
    let cur = hit_current z m.words m.history m.lanes s lane key u.0 good inside u.1 hit in
    let few : references_in (pool_after z m.history place).phase lane < most_of z lane
    = subst (λ (n : ℕ). n < most_of z lane) (ap (λ (b : Bool). cond b (references_in (pool_after z m.history place).phase lane) 0) cur) fewer in
    let g = get_hits z m.words m.history m.lanes s lane key u.0 good inside u.1 few hit in
    (g.0, keeps z m kinds.Enter (Life place) (m.words.life place + 4) (Some (acts.Get lane key (Some g.0))) (with_under m.lanes lane Nothing) refl (count_room z m.words m.history m.lanes s place inside) g.1)

module _ (z : Shape) (m : Moment) (lane key : ℕ) (s : Rule z m) (u : (lane < (callers z)) × (m.lanes.under lane ≡ Nothing)) (good : is_key z key ≡ true) where
  inside_now : is_place z (place_of key) ≡ true
  inside_now = (key_parts z key good).place

  room_now : count_in (m.words.life (place_of key)) < 1073741823
  room_now = count_room z m.words m.history m.lanes s (place_of key) inside_now

  get-misses : is_hit key (m.words.life (place_of key)) ≡ false
      → Keeps z m kinds.Enter (Life (place_of key)) (m.words.life (place_of key) + 4) (Some (acts.Get lane key None)) (with_under m.lanes lane (Undo key false))
  get-misses miss = keeps z m kinds.Enter (Life (place_of key)) (m.words.life (place_of key) + 4) (Some (acts.Get lane key None)) (with_under m.lanes lane (Undo key false)) refl room_now
      (get_misses z m.words m.history m.lanes s lane key u.0 good inside_now u.1 miss)

  clear-misses : is_hit key (m.words.life (place_of key)) ≡ false
      → Keeps z m kinds.Enter (Life (place_of key)) (m.words.life (place_of key) + 4) (Some (acts.Clear lane key false)) (with_under m.lanes lane (Undo key false))
  clear-misses miss = keeps z m kinds.Enter (Life (place_of key)) (m.words.life (place_of key) + 4) (Some (acts.Clear lane key false)) (with_under m.lanes lane (Undo key false)) refl room_now
      (clear_misses z m.words m.history m.lanes s lane key u.0 good inside_now u.1 miss)

  clear-hits : is_hit key (m.words.life (place_of key)) ≡ true
      → Keeps z m kinds.Enter (Life (place_of key)) (m.words.life (place_of key) + 4) None (with_under m.lanes lane (Undo key true))
  clear-hits hit = keeps z m kinds.Enter (Life (place_of key)) (m.words.life (place_of key) + 4) None (with_under m.lanes lane (Undo key true)) refl room_now
      (clear_hits z m.words m.history m.lanes s lane key u.0 good inside_now u.1 hit)

pub get-misses-law : GetMissesLaw
get-misses-law = get-misses

pub clear-hits-law : ClearHitsLaw
clear-hits-law = clear-hits

pub clear-misses-law : ClearMissesLaw
clear-misses-law = clear-misses
