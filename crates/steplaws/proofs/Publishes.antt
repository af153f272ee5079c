-- PUBLISH keeps the rule.
use Rattle.std.proofs.Common.{◌≡◌, ◌≢◌, ℕ, ◌+◌, ◌<◌, ◌≤◌, Bool, true, false, cond, List, [], ◌∷◌, ◌++◌, Some, refl, ap, sym, ◌∙◌, subst, arith, eq-eqb, ne_eqb}
use Rattle.std.proofs.lemmas.Bool.{and_parts}
use mathlib.Core.Logic.{dite}
use native.Mathlib.Decide.{ℕ_discrete}
use Rattle.keybits.specs.declared.shape.Shape.{Shape}
use Rattle.keybits.specs.declared.step.Word.TheVariants.{Life}
use Rattle.keybits.specs.Shapes.{callers, is_place}
use Rattle.keybits.specs.Keys.{place_of}
use Rattle.keybits.specs.Counts.{times}
use Rattle.keybits.specs.Words.{state_in, count_in, generation_in}
use Rattle.keybits.proofs.KeyLemmas.{key_parts}
use Rattle.keybits.proofs.CountLemmas.{sum-at, sum-none}
use Rattle.seqpool.specs.declared.act.Act.{Act}
use Rattle.seqpool.specs.declared.act.Act.TheVariants as acts
use Rattle.seqpool.specs.Pool.{published, Spot, spot, Pool, put, references_in, is_published, is_current, Allowed, fresh, pool_after}
use Rattle.seqpool.proofs.Growth.{pool-snoc, legal-snoc, after-here, after-else}
use Rattle.seqpool.proofs.Tallies.{put-here, put-else}
use Rattle.seqpool.proofs.Ranks.{current-key}
use Rattle.steplaws.specs.declared.pending.Pending.TheVariants.{Nothing, Owes}
use Rattle.steplaws.specs.Facts.{put_at, Words, with_value, Lanes, with_under, moment, to_undo, bits_of, Rule}
use Rattle.steplaws.proofs.Acts.{act_keeps}
use Rattle.steplaws.proofs.Lives.{most-some, all_refs, life_keeps, count_room}
use Rattle.keybits.specs.declared.step.Kind.TheVariants as kinds
use Rattle.steplaws.proofs.Keeping.{keeps}
use Rattle.steplaws.specs.StepLaws.{PublishLaw}

module _ (z : Shape) (w : Words) (h : List Act) (r : Lanes) (s : Rule z (moment w h r)) (lane : ℕ) (below : lane < (callers z)) where
  abbrev P : Pool
  P = pool_after z h

  -- PUBLISH of a place that is with the lane and not on its taken chain
  pub publish_rule : (key : ℕ) (content : List ℕ) (with_ref : Bool) → is_place z (place_of key) ≡ true → r.under lane ≡ Nothing
      → Allowed z (pool_after z h) (acts.Publish lane key content with_ref) → ((q : ℕ) → 0 < times q (r.chain lane) → q ≢ place_of key)
      → Rule z (moment (with_value w (Life (place_of key)) (cond with_ref (w.life (place_of key) + 5) (w.life (place_of key) + 1))) (h ++ acts.Publish lane key content with_ref ∷ []) (with_under r lane Nothing))
  publish_rule key content with_ref inside idle ok away =
      let place : ℕ = place_of key in
      let n : ℕ = w.life place in
      let m : ℕ = cond with_ref (n + 5) (n + 1) in
      let a : Act = acts.Publish lane key content with_ref in
      let k : List Act = h ++ a ∷ [] in
      let st = s.state place inside in
      let zero_state : state_in n ≡ 0 = st.0 ∙ ap bits_of ok.1 in
      let f = filled n with_ref zero_state (count_room z w h r s place inside) in
      let at : pool_after z k place ≡ spot (P place).generation (published content (put (λ _. 0) lane (cond with_ref 1 0)) false) = ap (λ (Q : Pool). Q place) (pool-snoc z fresh h a) ∙ after-here z P a place (eq-eqb place place refl) in
      life_keeps z w h k r lane place m Nothing below s record {
        legal = legal-snoc z fresh h a s.legal below ok;
        elsewhere = λ q other. ap (λ (Q : Pool). Q q) (pool-snoc z fresh h a) ∙ after-else z P a q (ne_eqb q place other);
        undo_elsewhere = λ q other. sym (ap (to_undo q) idle);
        count = let c = s.count place inside in let e = ap (to_undo place) idle in
            let none : all_refs z (P place).phase ≡ 0 = ap (all_refs z) ok.1 ∙ sum-none (callers z) in
            let new = ap (λ (x : Spot). all_refs z x.phase) at in
            let one = put-here (λ _. 0) lane (cond with_ref 1 0) lane refl in
            let grown = sum-at (callers z) lane (put (λ _. 0) lane (cond with_ref 1 0)) (λ _. 0) below (λ x b other. put-else (λ _. 0) lane (cond with_ref 1 0) x other) in
            let zeros = sum-none (callers z) in
            let d = f.0 in omega arith;
        state = (f.1 ∙ sym (ap (λ (x : Spot). bits_of x.phase) at), f.2 ∙ (st.1 ∙ sym (ap (λ (x : Spot). x.generation) at)));
        pinned = λ q here old more.
            let no : is_published (P (place_of q)).phase ≡ false = ap (λ (x : ℕ). is_published (P x).phase) here ∙ ap is_published ok.1 in
            let yes = (and_parts (is_current z P q) (is_published (P (place_of q)).phase) old).1 in
            let bad : false ≡ true = sym no ∙ yes in absurd (cc bad);
        own_pinned = λ q e. absurd (cc e);
        own_owes = λ q g e. let bad : Nothing ≡ Owes q g = sym idle ∙ e in absurd (cc bad);
        owed = λ g e. let one = f.1 in let three : state_in m ≡ 3 = ap state_in e ∙ omega arith in absurd (omega arith);
        few = λ x. let new = ap (λ (y : Spot). references_in y.phase x) at in let le = bit with_ref in let most = most-some z x in dite (ℕ_discrete x lane)
            (λ e. let one = put-here (λ _. 0) lane (cond with_ref 1 0) x e in omega arith) (λ d. let none = put-else (λ _. 0) lane (cond with_ref 1 0) x d in omega arith);
        home = act_keeps z w (put_at w.life place m) h r s.home lane Nothing a tt refl ok away tt;
      }
    where
      bit : (b : Bool) → (let i : ℕ = cond b 1 0 in i) ≤ 1
      bit true = omega arith
      bit false = omega arith

      filled : (n : ℕ) (b : Bool) → state_in n ≡ 0 → count_in n < 1073741823
          → (count_in (cond b (n + 5) (n + 1)) ≡ count_in n + cond b 1 0) × (state_in (cond b (n + 5) (n + 1)) ≡ 1) × (generation_in (cond b (n + 5) (n + 1)) ≡ generation_in n)
      filled n true e room = (omega arith, omega arith, omega arith)
      filled n false e room = (omega arith, omega arith, omega arith)

-- ---- the law

pub publish-law : PublishLaw
publish-law z m lane key content with_ref s u f =
    let place : ℕ = place_of key in
    let n : ℕ = m.words.life place in
    let inside = (key_parts z key (current-key z (pool_after z m.history) key f.current).0).place in
    let idle : state_in n ≡ 0 = (s.state place inside).0 ∙ ap bits_of f.with_lane in
    let none = f.unchained in
    keeps z m (kinds.Publish with_ref) (Life place) (cond with_ref (n + 5) (n + 1)) (Some (acts.Publish lane key content with_ref)) (with_under m.lanes lane Nothing)
    (idle, refl) (count_room z m.words m.history m.lanes s place inside)
    (publish_rule z m.words m.history m.lanes s lane u.0 key content with_ref inside u.1 (f.current, f.with_lane)
    (λ q some here. let more : 0 < times place (m.lanes.chain lane) = subst (λ (p : ℕ). 0 < times p (m.lanes.chain lane)) here some in absurd (omega arith)))
