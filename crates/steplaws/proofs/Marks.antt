-- MARK keeps the rule.
use Rattle.std.proofs.Common.{◌≡◌, ◌⊎◌, inl, inr, ⊎_elim, ℕ, ◌+◌, ◌-◌, ◌<◌, Bool, true, false, cond, eqb, ◌&&◌, List, [], ◌∷◌, ◌++◌, Some, refl, ap, sym, ◌∙◌, subst, arith, eq-eqb, ne_eqb}
use Rattle.std.proofs.lemmas.Bool.{and_parts}
use Rattle.keybits.specs.declared.shape.Shape.{Shape}
use Rattle.keybits.specs.declared.step.Word.TheVariants.{Life}
use Rattle.keybits.specs.Shapes.{callers, is_place}
use Rattle.keybits.specs.Keys.{place_of, generation_of, is_key}
use Rattle.keybits.specs.Words.{state_in, count_in, generation_in}
use Rattle.keybits.proofs.KeyLemmas.{key_parts}
use Rattle.keybits.proofs.CountLemmas.{sum-part}
use Rattle.seqpool.specs.declared.act.Act.{Act}
use Rattle.seqpool.specs.declared.act.Act.TheVariants as acts
use Rattle.seqpool.specs.Pool.{Phase, with, published, home, retired, Spot, spot, Pool, references_in, has_key, is_published, is_unmarked, is_marked, marked, is_current, Allowed, after, fresh, pool_after}
use Rattle.seqpool.proofs.Growth.{pool-snoc, legal-snoc, after-here, after-else}
use Rattle.seqpool.proofs.Ranks.{current-key}
use Rattle.steplaws.specs.declared.pending.Pending.TheVariants.{Undo, Owes}
use Rattle.steplaws.specs.Facts.{put_at, Words, with_value, Lanes, with_under, moment, to_undo, bits_of, Rule}
use Rattle.steplaws.proofs.Acts.{act_keeps}
use Rattle.steplaws.proofs.Lives.{all_refs, life_keeps}
use Rattle.keybits.specs.declared.step.Kind.TheVariants as kinds
use Rattle.steplaws.proofs.Keeping.{keeps}
use Rattle.steplaws.proofs.Leaves.{undo-some}
use Rattle.steplaws.specs.StepLaws.{MarkLaw}

-- phases and their marks
bits-unmarked : (f : Phase) → eqb (bits_of f) 1 ≡ is_unmarked f
bits-unmarked (with l) = refl
bits-unmarked (published c r true) = refl
bits-unmarked (published c r false) = refl
bits-unmarked home = refl
bits-unmarked retired = refl

pub bits-marked : (f : Phase) → bits_of f ≡ 3 → is_marked f ≡ true
bits-marked (with l) e = absurd (omega arith)
bits-marked (published c r true) e = refl
bits-marked (published c r false) e = absurd (omega arith)
bits-marked home e = absurd (omega arith)
bits-marked retired e = absurd (omega arith)

pub marked-three : (f : Phase) → is_marked f ≡ true → bits_of f ≡ 3
marked-three (with l) e = absurd (cc e)
marked-three (published c r true) e = refl
marked-three (published c r false) e = absurd (cc e)
marked-three home e = absurd (cc e)
marked-three retired e = absurd (cc e)

marked-same : (f : Phase) → is_published f ≡ true → is_unmarked f ≡ false → marked f ≡ f
marked-same (with l) p e = absurd (cc p)
marked-same (published c r true) p e = refl
marked-same (published c r false) p e = absurd (cc e)
marked-same home p e = refl
marked-same retired p e = refl

marked-bits : (f : Phase) → is_published f ≡ true → bits_of (marked f) ≡ 3
marked-bits (with l) p = absurd (cc p)
marked-bits (published c r x) p = refl
marked-bits home p = absurd (cc p)
marked-bits retired p = absurd (cc p)

marked-published : (f : Phase) → is_published (marked f) ≡ is_published f
marked-published (with l) = refl
marked-published (published c r x) = refl
marked-published home = refl
marked-published retired = refl

marked-refs_of : (m : ℕ) (f : Phase) → references_in (marked f) m ≡ references_in f m
marked-refs_of m (with l) = refl
marked-refs_of m (published c r x) = refl
marked-refs_of m home = refl
marked-refs_of m retired = refl

marked-refs : (z : Shape) (f : Phase) → all_refs z (marked f) ≡ all_refs z f
marked-refs z (with l) = refl
marked-refs z (published c r x) = refl
marked-refs z home = refl
marked-refs z retired = refl

pub published-bits : (f : Phase) → is_published f ≡ true → (bits_of f ≡ 1) ⊎ (bits_of f ≡ 3)
published-bits (with l) p = absurd (cc p)
published-bits (published c r true) p = inr refl
published-bits (published c r false) p = inl refl
published-bits home p = absurd (cc p)
published-bits retired p = absurd (cc p)

module _ (z : Shape) (w : Words) (h : List Act) (r : Lanes) (s : Rule z (moment w h r)) (lane : ℕ) (below : lane < (callers z)) where
  abbrev P : Pool
  P = pool_after z h

  -- MARK
  pub mark_rule : (key m : ℕ) → is_place z (place_of key) ≡ true → r.under lane ≡ Undo key true → m + state_in (w.life (place_of key)) ≡ w.life (place_of key) + 3
      → Rule z (moment (with_value w (Life (place_of key)) m) (h ++ acts.Clear lane key (eqb (state_in (w.life (place_of key))) 1) ∷ []) (with_under r lane (Undo key true)))
  mark_rule key m inside is change =
      let place : ℕ = place_of key in
      let n : ℕ = w.life place in
      let reply : Bool = eqb (state_in n) 1 in
      let a : Act = acts.Clear lane key reply in
      let k : List Act = h ++ a ∷ [] in
      let has = s.pinned lane key below is in
      let both = and_parts (is_current z P key) (is_published (P place).phase) has in
      let st = s.state place inside in
      let ok : Allowed z P a = ap (λ (x : ℕ). eqb x 1) st.0 ∙ (bits-unmarked (P place).phase ∙ sym (ap (λ (b : Bool). b && is_unmarked (P place).phase) both.0)) in
      let same_reply : reply ≡ is_unmarked (P place).phase = ap (λ (x : ℕ). eqb x 1) st.0 ∙ bits-unmarked (P place).phase in
      let at : pool_after z k place ≡ spot (P place).generation (marked (P place).phase) =
      ap (λ (Q : Pool). Q place) (pool-snoc z fresh h a) ∙ marks reply place key refl same_reply both.1 in
      let word = marked-word n m change (⊎_elim (λ (e : bits_of (P place).phase ≡ 1). inl (st.0 ∙ e)) (λ (e : bits_of (P place).phase ≡ 3). inr (st.0 ∙ e)) (published-bits (P place).phase both.1)) in
      let one : to_undo place (r.under lane) ≡ 1 = ap (to_undo place) is ∙ ap (λ (b : Bool). let i : ℕ = cond b 1 0 in i) (eq-eqb place place refl) in
      let part = sum-part (callers z) lane (λ x. to_undo place (r.under x)) below in
      let keeps_key : (q : ℕ) → place_of q ≡ place → has_key z P q ≡ true → has_key z (pool_after z k) q ≡ true = λ q here old.
      ap (λ (x : ℕ). (is_key z q && eqb (pool_after z k x).generation (generation_of q)) && is_published (pool_after z k x).phase) here
      ∙ (ap (λ (x : Spot). (is_key z q && eqb x.generation (generation_of q)) && is_published x.phase) at
      ∙ (ap (λ (b : Bool). (is_key z q && eqb (P place).generation (generation_of q)) && b) (marked-published (P place).phase)
      ∙ (sym (ap (λ (x : ℕ). (is_key z q && eqb (P x).generation (generation_of q)) && is_published (P x).phase) here) ∙ old))) in
      life_keeps z w h k r lane place m (Undo key true) below s record {
        legal = legal-snoc z fresh h a s.legal below ok;
        elsewhere = λ q other. ap (λ (Q : Pool). Q q) (pool-snoc z fresh h a) ∙ after-else z P a q (ne_eqb q place other);
        undo_elsewhere = λ q other. sym (ap (to_undo q) is);
        count = let c = s.count place inside in let d = word.0 in let e = ap (to_undo place) is in
            let new = ap (λ (x : Spot). all_refs z x.phase) at in let same = marked-refs z (P place).phase in omega arith;
        state = (word.1 ∙ sym (ap (λ (x : Spot). bits_of x.phase) at ∙ marked-bits (P place).phase both.1), word.2 ∙ (st.1 ∙ sym (ap (λ (x : Spot). x.generation) at)));
        pinned = λ q here old more. keeps_key q here old;
        own_pinned = λ q e. let same_key : key ≡ q = cc e in subst (λ (x : ℕ). has_key z (pool_after z k) x ≡ true) same_key (keeps_key key refl has);
        own_owes = λ q g e. let bad : Undo key true ≡ Owes q g = sym is ∙ e in absurd (cc bad);
        owed = λ g e. let none : count_in m ≡ 0 = ap count_in e ∙ omega arith in let d = word.0 in let c = s.count place inside in absurd (omega arith);
        few = λ x. let old = s.few place x in let new = ap (λ (y : Spot). references_in y.phase x) at in let same = marked-refs_of x (P place).phase in omega arith;
        home = act_keeps z w (put_at w.life place m) h r s.home lane (Undo key true) a tt refl ok (λ q more. tt) tt;
      }
    where
      marks : (b : Bool) (place key : ℕ) → place ≡ place_of key → b ≡ is_unmarked (P place).phase → is_published (P place).phase ≡ true
          → after z (acts.Clear lane key b) P place ≡ spot (P place).generation (marked (P place).phase)
      marks true place key here e row = after-here z P (acts.Clear lane key true) place (eq-eqb place (place_of key) here)
      marks false place key here e row = after-here z P (acts.Clear lane key false) place (eq-eqb place (place_of key) here)
          ∙ ap (λ (f : Phase). spot (P place).generation f) (sym (marked-same (P place).phase row (sym e)))

      marked-word : (n m : ℕ) → m + state_in n ≡ n + 3 → (state_in n ≡ 1) ⊎ (state_in n ≡ 3) → (count_in m ≡ count_in n) × (state_in m ≡ 3) × (generation_in m ≡ generation_in n)
      marked-word n m change (inl e) = (omega arith, omega arith, omega arith)
      marked-word n m change (inr e) = (omega arith, omega arith, omega arith)

-- ---- the law

pub mark-law : MarkLaw
mark-law z m lane key s u =
    let place : ℕ = place_of key in
    let n : ℕ = m.words.life place in
    let has = s.pinned lane key u.0 u.1 in
    let both = and_parts (is_current z (pool_after z m.history) key) (is_published (pool_after z m.history place).phase) has in
    let inside = (key_parts z key (current-key z (pool_after z m.history) key both.0).0).place in
    let st = s.state place inside in
    let row : (state_in n ≡ 1) ⊎ (state_in n ≡ 3) = ⊎_elim (λ (e : bits_of (pool_after z m.history place).phase ≡ 1). inl (st.0 ∙ e)) (λ (e : bits_of (pool_after z m.history place).phase ≡ 3). inr (st.0 ∙ e))
    (published-bits (pool_after z m.history place).phase both.1) in
    let some = undo-some z m.words m.history m.lanes s lane u.0 key true inside u.1 in
    let change : n + 3 - state_in n + state_in n ≡ n + 3 = omega arith in
    keeps z m kinds.Mark (Life place) (n + 3 - state_in n) (Some (acts.Clear lane key (eqb (state_in n) 1))) (with_under m.lanes lane (Undo key true)) (row, some, change) tt
    (mark_rule z m.words m.history m.lanes s lane u.0 key (n + 3 - state_in n) inside u.1 change)
