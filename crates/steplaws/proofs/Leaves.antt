-- LEAVE keeps the rule.
use Rattle.std.proofs.Common.{◌≡◌, ℕ, ◌+◌, ◌-◌, ◌<◌, ◌≤◌, Bool, true, false, cond, eqb, ◌&&◌, List, [], ◌∷◌, ◌++◌, Some, None, refl, ap, sym, ◌∙◌, arith, eq-eqb, ne_eqb}
use Rattle.std.proofs.lemmas.Bool.{and_from}
use mathlib.Core.Logic.{dite}
use native.Mathlib.Decide.{ℕ_discrete}
use Rattle.keybits.specs.declared.shape.Shape.{Shape}
use Rattle.keybits.specs.declared.step.Word.TheVariants.{Life}
use Rattle.keybits.specs.Shapes.{callers, is_place}
use Rattle.keybits.specs.Keys.{place_of, generation_of, is_key}
use Rattle.keybits.specs.Words.{state_in, count_in, generation_in, claimable}
use Rattle.keybits.proofs.KeyLemmas.{key_parts}
use Rattle.keybits.proofs.CountLemmas.{sum-part, sum-at}
use Rattle.seqpool.specs.declared.act.Act.{Act}
use Rattle.seqpool.specs.declared.act.Act.TheVariants as acts
use Rattle.seqpool.specs.Pool.{Phase, with, published, home, retired, Spot, spot, Pool, put, has, references_in, is_published, lost, is_current, references, fresh, pool_after}
use Rattle.seqpool.proofs.Growth.{pool-snoc, legal-snoc, after-here, after-else}
use Rattle.seqpool.proofs.Tallies.{put-here, put-else}
use Rattle.seqpool.proofs.Ranks.{current-key}
use Rattle.steplaws.specs.declared.pending.Pending.{Pending}
use Rattle.steplaws.specs.declared.pending.Pending.TheVariants.{Nothing, Undo, Owes}
use Rattle.steplaws.specs.Calls.{owes_claim}
use Rattle.steplaws.specs.Facts.{put_at, Words, with_value, Lanes, with_under, moment, to_undo, bits_of, IsReturning, Rule}
use Rattle.steplaws.proofs.Updates.{at-here}
use Rattle.steplaws.proofs.Acts.{silent_keeps, act_keeps}
use Rattle.steplaws.proofs.Lives.{all_refs, life_keeps}
use Rattle.keybits.specs.declared.step.Kind.TheVariants as kinds
use Rattle.steplaws.proofs.Keeping.{keeps}
use Rattle.steplaws.specs.StepLaws.{owed_after, ReleaseLaw, UndoLaw}

-- what is under way after a LEAVE is no return and no ENTER to undo
owes-returning : (z : Shape) (v : Words) (k : List Act) (lane place g : ℕ) (b : Bool) → IsReturning z v k lane (cond b (Owes place g) Nothing)
owes-returning z v k lane place g true = tt
owes-returning z v k lane place g false = tt

owes-undo : (q place g : ℕ) (b : Bool) → to_undo q (cond b (Owes place g) Nothing) ≡ 0
owes-undo q place g true = refl
owes-undo q place g false = refl

owes-no_undo : (key place g : ℕ) (b : Bool) → cond b (Owes place g) Nothing ≡ Undo key true → ⊥
owes-no_undo key place g true e = cc e
owes-no_undo key place g false e = cc e

-- the word before a LEAVE and the word after it
module _ (n m : ℕ) (change : n ≡ m + 4) (some : 1 ≤ count_in n) where
  pub less : (count_in n ≡ count_in m + 1) × (state_in m ≡ state_in n) × (generation_in m ≡ generation_in n)
  less = (omega arith, omega arith, omega arith)

  -- where the word after it is that of a claim, it owes it
  pub owing : (place generation : ℕ) → m ≡ claimable generation → owed_after place n ≡ Owes place generation
  owing place generation e =
      let three : state_in n ≡ 3 = omega arith in
      let one : count_in n ≡ 1 = omega arith in
      let gen : generation_in n ≡ generation = omega arith in
      ap (λ (b : Bool). cond b (Owes place (generation_in n)) Nothing) (and_from (eqb (state_in n) 3) (eqb (count_in n) 1) (eq-eqb (state_in n) 3 three) (eq-eqb (count_in n) 1 one))
      ∙ ap (λ (g : ℕ). Owes place g) gen

-- a phase after a reference is given back
lost-bits : (lane : ℕ) (f : Phase) → bits_of (lost lane f) ≡ bits_of f
lost-bits lane (with l) = refl
lost-bits lane (published c r true) = refl
lost-bits lane (published c r false) = refl
lost-bits lane home = refl
lost-bits lane retired = refl

lost-published : (lane : ℕ) (f : Phase) → is_published (lost lane f) ≡ is_published f
lost-published lane (with l) = refl
lost-published lane (published c r x) = refl
lost-published lane home = refl
lost-published lane retired = refl

lost-le : (lane m : ℕ) (f : Phase) → references_in (lost lane f) m ≤ references_in f m
lost-le lane m (with l) = omega arith
lost-le lane m (published c r x) = dite (ℕ_discrete m lane)
    (λ e. let one = put-here r lane (r lane - 1) m e in let own = ap r e in omega arith) (λ d. let none = put-else r lane (r lane - 1) m d in omega arith)
lost-le lane m home = omega arith
lost-le lane m retired = omega arith

lost-refs : (z : Shape) (lane : ℕ) (f : Phase) → lane < (callers z) → 0 < references_in f lane → all_refs z (lost lane f) + 1 ≡ all_refs z f
lost-refs z lane (with l) below h = absurd (omega arith)
lost-refs z lane (published c r x) below h =
    let one = put-here r lane (r lane - 1) lane refl in
    let shrunk = sum-at (callers z) lane (put r lane (r lane - 1)) r below (λ m b other. put-else r lane (r lane - 1) m other) in omega arith
lost-refs z lane home below h = absurd (omega arith)
lost-refs z lane retired below h = absurd (omega arith)

-- a test that keeps a number above 0
one_has : (b : Bool) (x : ℕ) → 0 < cond b x 0 → 0 < x
one_has true x e = e
one_has false x e = absurd (omega arith)

one_current : (b : Bool) (x : ℕ) → 0 < cond b x 0 → b ≡ true
one_current true x e = refl
one_current false x e = absurd (omega arith)

-- a key that a lane refers to is of a place of the shape
referred_place : (z : Shape) (P : Pool) (lane key : ℕ) → 0 < references z P lane key → is_place z (place_of key) ≡ true
referred_place z P lane key has = (key_parts z key (current-key z P key (one_current (is_current z P key) (references_in (P (place_of key)).phase lane) has)).0).place

module _ (z : Shape) (w : Words) (h : List Act) (r : Lanes) (s : Rule z (moment w h r)) (lane : ℕ) (below : lane < (callers z)) where
  abbrev P : Pool
  P = pool_after z h

  -- a word with an ENTER to undo, and one that a lane refers to, have a count
  pub undo-some : (key : ℕ) (hit : Bool) → is_place z (place_of key) ≡ true → r.under lane ≡ Undo key hit → 1 ≤ count_in (w.life (place_of key))
  undo-some key hit inside is =
      let place : ℕ = place_of key in
      let one : to_undo place (r.under lane) ≡ 1 = ap (to_undo place) is ∙ ap (λ (b : Bool). let i : ℕ = cond b 1 0 in i) (eq-eqb place place refl) in
      let part = sum-part (callers z) lane (λ x. to_undo place (r.under x)) below in
      let c = s.count place inside in
      omega arith

  pub release-some : (key : ℕ) → 0 < references z (pool_after z h) lane key → 1 ≤ count_in (w.life (place_of key))
  release-some key has =
      let place : ℕ = place_of key in
      let refs : 0 < references_in (P place).phase lane = one_has (is_current z P key) (references_in (P place).phase lane) has in
      let part = sum-part (callers z) lane (λ x. references_in (P place).phase x) below in
      let c = s.count place (referred_place z P lane key has) in
      omega arith

  -- the LEAVE that undoes an ENTER
  pub undo_rule : (key m : ℕ) (hit : Bool) → is_place z (place_of key) ≡ true → r.under lane ≡ Undo key hit → w.life (place_of key) ≡ m + 4
      → Rule z (moment (with_value w (Life (place_of key)) m) h (with_under r lane (owed_after (place_of key) (w.life (place_of key)))))
  undo_rule key m hit inside is change =
      let place : ℕ = place_of key in
      let n : ℕ = w.life place in
      let u : Pending = owed_after place n in
      let one : to_undo place (r.under lane) ≡ 1 = ap (to_undo place) is ∙ ap (λ (b : Bool). let i : ℕ = cond b 1 0 in i) (eq-eqb place place refl) in
      let part = sum-part (callers z) lane (λ x. to_undo place (r.under x)) below in
      let c = s.count place inside in
      let some = undo-some key hit inside is in
      let l = less n m change some in
      life_keeps z w h h r lane place m u below s record {
        legal = s.legal;
        elsewhere = λ q other. refl;
        undo_elsewhere = λ q other. owes-undo q place (generation_in n) (owes_claim n) ∙ sym (ap (to_undo q) is ∙ ap (λ (b : Bool). let i : ℕ = cond b 1 0 in i) (ne_eqb place q (λ e. other (sym e))));
        count = let none = owes-undo place place (generation_in n) (owes_claim n) in let d = l.0 in omega arith;
        state = let st = s.state place inside in (l.1 ∙ st.0, l.2 ∙ st.1);
        pinned = λ q here old more. old;
        own_pinned = λ q e. absurd (owes-no_undo q place (generation_in n) (owes_claim n) e);
        own_owes = λ q g e. let bad : Undo key hit ≡ Owes q g = sym is ∙ e in absurd (cc bad);
        owed = λ g e. (lane, below, at-here r.under lane u lane refl ∙ owing n m change some place g e);
        few = λ x. s.few place x;
        home = silent_keeps z w (put_at w.life place m) h r s.home lane u (owes-returning z (with_value w (Life place) m) h lane place (generation_in n) (owes_claim n));
      }

  -- the LEAVE of a release
  pub release_rule : (key m : ℕ) → is_place z (place_of key) ≡ true → r.under lane ≡ Nothing → 0 < references z (pool_after z h) lane key → w.life (place_of key) ≡ m + 4
      → Rule z (moment (with_value w (Life (place_of key)) m) (h ++ acts.Release lane key ∷ []) (with_under r lane (owed_after (place_of key) (w.life (place_of key)))))
  release_rule key m inside idle has change =
      let place : ℕ = place_of key in
      let n : ℕ = w.life place in
      let u : Pending = owed_after place n in
      let a : Act = acts.Release lane key in
      let k : List Act = h ++ a ∷ [] in
      let refs : 0 < references_in (P place).phase lane = one_has (is_current z P key) (references_in (P place).phase lane) has in
      let part = sum-part (callers z) lane (λ x. references_in (P place).phase x) below in
      let c = s.count place inside in
      let some : 1 ≤ count_in n = omega arith in
      let l = less n m change some in
      let at : pool_after z k place ≡ spot (P place).generation (lost lane (P place).phase) = ap (λ (Q : Pool). Q place) (pool-snoc z fresh h a) ∙ after-here z P a place (eq-eqb place place refl) in
      life_keeps z w h k r lane place m u below s record {
        legal = legal-snoc z fresh h a s.legal below has;
        elsewhere = λ q other. ap (λ (Q : Pool). Q q) (pool-snoc z fresh h a) ∙ after-else z P a q (ne_eqb q place other);
        undo_elsewhere = λ q other. owes-undo q place (generation_in n) (owes_claim n) ∙ sym (ap (to_undo q) idle);
        count = let none = owes-undo place place (generation_in n) (owes_claim n) in let e = ap (to_undo place) idle in let d = l.0 in
            let fewer = lost-refs z lane (P place).phase below refs in let new = ap (λ (x : Spot). all_refs z x.phase) at in omega arith;
        state = let st = s.state place inside in (
          l.1 ∙ (st.0 ∙ sym (ap (λ (x : Spot). bits_of x.phase) at ∙ lost-bits lane (P place).phase)),
          l.2 ∙ (st.1 ∙ sym (ap (λ (x : Spot). x.generation) at)),
        );
        pinned = λ q here old more.
            let e : (is_key z q && eqb (pool_after z k place).generation (generation_of q)) && is_published (pool_after z k place).phase
            ≡ (is_key z q && eqb (P place).generation (generation_of q)) && is_published (P place).phase =
            ap (λ (x : Spot). (is_key z q && eqb x.generation (generation_of q)) && is_published x.phase) at
            ∙ ap (λ (b : Bool). (is_key z q && eqb (P place).generation (generation_of q)) && b) (lost-published lane (P place).phase) in
            ap (λ (x : ℕ). (is_key z q && eqb (pool_after z k x).generation (generation_of q)) && is_published (pool_after z k x).phase) here
            ∙ (e ∙ (sym (ap (λ (x : ℕ). (is_key z q && eqb (P x).generation (generation_of q)) && is_published (P x).phase) here) ∙ old));
        own_pinned = λ q e. absurd (owes-no_undo q place (generation_in n) (owes_claim n) e);
        own_owes = λ q g e. let bad : Nothing ≡ Owes q g = sym idle ∙ e in absurd (cc bad);
        owed = λ g e. (lane, below, at-here r.under lane u lane refl ∙ owing n m change some place g e);
        few = λ x. let old = s.few place x in let fall = lost-le lane x (P place).phase in let new = ap (λ (y : Spot). references_in y.phase x) at in omega arith;
        home = act_keeps z w (put_at w.life place m) h r s.home lane u a tt refl has (λ q more. tt) (owes-returning z (with_value w (Life place) m) k lane place (generation_in n) (owes_claim n));
      }

-- ---- the laws

-- a word with a count is 4 at least
whole : (n : ℕ) → 1 ≤ count_in n → n ≡ n - 4 + 4
whole n some = omega arith

pub undo-law : UndoLaw
undo-law z m lane key hit s u inside =
    let place : ℕ = place_of key in
    let n : ℕ = m.words.life place in
    let some = undo-some z m.words m.history m.lanes s lane u.0 key hit inside u.1 in
    keeps z m kinds.Leave (Life place) (n - 4) None (with_under m.lanes lane (owed_after place n)) (some, whole n some) tt
    (undo_rule z m.words m.history m.lanes s lane u.0 key (n - 4) hit inside u.1 (whole n some))

pub release-law : ReleaseLaw
release-law z m lane key s u has =
    let place : ℕ = place_of key in
    let n : ℕ = m.words.life place in
    let some = release-some z m.words m.history m.lanes s lane u.0 key has in
    keeps z m kinds.Leave (Life place) (n - 4) (Some (acts.Release lane key)) (with_under m.lanes lane (owed_after place n)) (some, whole n some) tt
    (release_rule z m.words m.history m.lanes s lane u.0 key (n - 4) (referred_place z (pool_after z m.history) lane key has) u.1 has (whole n some))
