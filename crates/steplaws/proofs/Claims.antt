-- CLAIM keeps the rule.
use Rattle.std.proofs.Common.{◌≡◌, ◌≢◌, ℕ, ◌+◌, ◌-◌, ◌<◌, Bool, true, false, cond, eqb, List, [], ◌∷◌, ◌++◌, Some, None, refl, ap, sym, ◌∙◌, subst, arith, eq-eqb, ne_eqb}
use Rattle.std.proofs.lemmas.Bool.{and_from}
use Rattle.keybits.specs.declared.shape.Shape.{Shape}
use Rattle.keybits.specs.declared.step.Word.TheVariants.{Life}
use Rattle.keybits.specs.Places.{shard_of}
use Rattle.keybits.specs.Shapes.{callers, is_place}
use Rattle.keybits.specs.Keys.{place_of, generation_of, is_key, key_number}
use Rattle.keybits.specs.Words.{word_with, state_in, count_in, generation_in, claimable}
use Rattle.keybits.specs.Steps.{claim_gives}
use Rattle.keybits.proofs.CountLemmas.{sum-none}
use Rattle.seqpool.specs.declared.act.Act.{Act}
use Rattle.seqpool.specs.declared.act.Act.TheVariants as acts
use Rattle.seqpool.specs.Pool.{with, retired, Spot, spot, Pool, references_in, is_current, Allowed, fresh, pool_after}
use Rattle.seqpool.proofs.Growth.{pool-snoc, legal-snoc, after-here, after-else}
use Rattle.steplaws.specs.declared.pending.Pending.{Pending}
use Rattle.steplaws.specs.declared.pending.Pending.TheVariants.{Nothing, Undo, Owes, Returns}
use Rattle.steplaws.specs.Facts.{put_at, Words, with_value, Lanes, with_under, Moment, moment, to_undo, bits_of, IsReturning, Rule}
use Rattle.steplaws.proofs.Updates.{at-else}
use Rattle.steplaws.proofs.Acts.{silent_keeps, act_keeps, claim_returns}
use Rattle.steplaws.proofs.Marks.{bits-marked}
use Rattle.steplaws.proofs.Counts.{count-law}
use Rattle.steplaws.proofs.Lives.{all_refs, life_keeps}
use Rattle.keybits.specs.declared.step.Kind.TheVariants as kinds
use Rattle.steplaws.proofs.Keeping.{keeps}
use Rattle.steplaws.proofs.Generations.{key_now}
use Rattle.steplaws.specs.StepLaws.{reclaim, HasUnderWay, Keeps, ClaimOwnLaw, ClaimOtherLaw, ClaimLastLaw, ClaimFailsLaw}

module _ (z : Shape) (w : Words) (h : List Act) (r : Lanes) (s : Rule z (moment w h r)) (lane : ℕ) (below : lane < (callers z)) where
  abbrev P : Pool
  P = pool_after z h

  -- a CLAIM that finds another word
  pub claim_misses : (place g : ℕ) → is_place z place ≡ true → r.under lane ≡ Owes place g → w.life place ≢ claimable g
      → Rule z (moment (with_value w (Life place) (w.life place)) h (with_under r lane Nothing))
  claim_misses place g inside is miss =
      let n : ℕ = w.life place in
      life_keeps z w h h r lane place n Nothing below s record {
        legal = s.legal;
        elsewhere = λ q other. refl;
        undo_elsewhere = λ q other. sym (ap (to_undo q) is);
        count = let c = s.count place inside in let e = ap (to_undo place) is in omega arith;
        state = s.state place inside;
        pinned = λ q here old more. old;
        own_pinned = λ q e. absurd (cc e);
        own_owes = λ q gen e. let both : Owes place g ≡ Owes q gen = sym is ∙ e in let same : place ≡ q = cc both in sym same;
        owed = λ gen e. let o = s.owed place gen inside e in (
          o.0,
          o.1,
          at-else r.under lane Nothing o.0 (λ same.
              let both : Owes place g ≡ Owes place gen = sym is ∙ (ap r.under (sym same) ∙ o.2) in
              let same_gen : g ≡ gen = cc both in absurd (miss (e ∙ ap claimable (sym same_gen)))) ∙ o.2,
        );
        few = λ x. s.few place x;
        home = silent_keeps z w (put_at w.life place n) h r s.home lane Nothing tt;
      }

  -- the Reclaim of a claim that succeeds is allowed
  pub claim_allowed : (key : ℕ) → is_key z key ≡ true → is_place z (place_of key) ≡ true → r.under lane ≡ Owes (place_of key) (generation_of key) → w.life (place_of key) ≡ claimable (generation_of key)
      → Allowed z (pool_after z h) (acts.Reclaim lane key)
  claim_allowed key good inside is hit =
      let place : ℕ = place_of key in
      let st = s.state place inside in
      let gen : (P place).generation ≡ generation_of key = sym st.1 ∙ (ap generation_in hit ∙ omega arith) in
      let three : bits_of (P place).phase ≡ 3 = sym st.0 ∙ (ap state_in hit ∙ omega arith) in
      let none : count_in (w.life place) ≡ 0 = ap count_in hit ∙ omega arith in
      let cur : is_current z P key ≡ true = and_from (is_key z key) (eqb (P place).generation (generation_of key)) good (eq-eqb (P place).generation (generation_of key) gen) in (
        cur,
        bits-marked (P place).phase three,
        λ other. count-law z (moment w h r) s place inside none other,
      )

  -- a CLAIM that succeeds, after which the lane has this under way: nothing, or the place to return
  pub claim_hits : (key : ℕ) (u : Pending) → is_key z key ≡ true → is_place z (place_of key) ≡ true → r.under lane ≡ Owes (place_of key) (generation_of key) → w.life (place_of key) ≡ claimable (generation_of key)
      → ((q : ℕ) → to_undo q u ≡ 0) → ((q : ℕ) → u ≡ Undo q true → ⊥)
      → (let m : ℕ = claim_gives z.last_generation (generation_of key) (w.life (place_of key)) in IsReturning z (with_value w (Life (place_of key)) m) (h ++ acts.Reclaim lane key ∷ []) lane u)
      → Rule z (moment (with_value w (Life (place_of key)) (claim_gives z.last_generation (generation_of key) (w.life (place_of key)))) (h ++ acts.Reclaim lane key ∷ []) (with_under r lane u))
  claim_hits key u good inside is hit quiet no_undo own =
      let place : ℕ = place_of key in
      let g : ℕ = generation_of key in
      let n : ℕ = w.life place in
      let m : ℕ = claim_gives z.last_generation g n in
      let a : Act = acts.Reclaim lane key in
      let k : List Act = h ++ a ∷ [] in
      let st = s.state place inside in
      let gen : (P place).generation ≡ g = sym st.1 ∙ (ap generation_in hit ∙ omega arith) in
      let none : count_in n ≡ 0 = ap count_in hit ∙ omega arith in
      let c = s.count place inside in
      let ok : Allowed z P a = claim_allowed key good inside is hit in
      let at : pool_after z k place ≡ cond (eqb (P place).generation z.last_generation) (spot (P place).generation retired) (spot ((P place).generation + 1) (with lane)) =
      ap (λ (Q : Pool). Q place) (pool-snoc z fresh h a) ∙ after-here z P a place (eq-eqb place place refl) in
      let new = after_claim g n (P place) hit gen in
      life_keeps z w h k r lane place m u below s record {
        legal = legal-snoc z fresh h a s.legal below ok;
        elsewhere = λ q other. ap (λ (Q : Pool). Q q) (pool-snoc z fresh h a) ∙ after-else z P a q (ne_eqb q place other);
        undo_elsewhere = λ q other. quiet q ∙ sym (ap (to_undo q) is);
        count = let e = ap (to_undo place) is in let f = quiet place in let zero_now = new.0 in let refs = new.3 in
            let same = ap (λ (x : Spot). all_refs z x.phase) at in omega arith;
        state = (new.1 ∙ sym (ap (λ (x : Spot). bits_of x.phase) at), new.2 ∙ sym (ap (λ (x : Spot). x.generation) at));
        pinned = λ q here old more. absurd (omega arith);
        own_pinned = λ q e. absurd (no_undo q e);
        own_owes = λ q gen' e. let both : Owes place g ≡ Owes q gen' = sym is ∙ e in let same : place ≡ q = cc both in sym same;
        owed = λ gen' e. let three_now : state_in m ≡ 3 = ap state_in e ∙ omega arith in let not_three = new.4 in absurd (not_three three_now);
        few = λ x. let same = ap (λ (y : Spot). references_in y.phase x) at in let none_left = ended-refs (eqb (P place).generation z.last_generation) (P place).generation x in omega arith;
        home = act_keeps z w (put_at w.life place m) h r s.home lane u a tt refl ok (λ q more. tt) own;
      }
    where
      ended-refs : (b : Bool) (v m : ℕ) → references_in (cond b (spot v retired) (spot (v + 1) (with lane))).phase m ≡ 0
      ended-refs true v m = refl
      ended-refs false v m = refl

      ended : (b : Bool) (g n : ℕ) (x : Spot) → n ≡ claimable g → x.generation ≡ g → let m : ℕ = cond b (n - 1) (n + 4294967293) in let y : Spot = cond b (spot x.generation retired) (spot (x.generation + 1) (with lane)) in
          (count_in m ≡ 0) × (state_in m ≡ bits_of y.phase) × (generation_in m ≡ y.generation) × (all_refs z y.phase ≡ 0) × (state_in m ≡ 3 → ⊥)
      ended true g n x hit gen = (omega arith, omega arith, omega arith, sum-none (callers z), λ e. absurd (omega arith))
      ended false g n x hit gen = (omega arith, omega arith, omega arith, sum-none (callers z), λ e. absurd (omega arith))

      after_claim : (g n : ℕ) (x : Spot) → n ≡ claimable g → x.generation ≡ g → let m : ℕ = claim_gives z.last_generation g n in
          let y : Spot = cond (eqb x.generation z.last_generation) (spot x.generation retired) (spot (x.generation + 1) (with lane)) in
          (count_in m ≡ 0) × (state_in m ≡ bits_of y.phase) × (generation_in m ≡ y.generation) × (all_refs z y.phase ≡ 0) × (state_in m ≡ 3 → ⊥)
      after_claim g n x hit gen =
          let C : ℕ → Type 0 = λ m. let y : Spot = cond (eqb x.generation z.last_generation) (spot x.generation retired) (spot (x.generation + 1) (with lane)) in
          (count_in m ≡ 0) × (state_in m ≡ bits_of y.phase) × (generation_in m ≡ y.generation) × (all_refs z y.phase ≡ 0) × (state_in m ≡ 3 → ⊥) in
          subst C (ap (λ (b : Bool). cond b (n - 1) (n + 4294967293)) (ap (λ (v : ℕ). eqb v z.last_generation) gen) ∙ sym (ap (λ (b : Bool). cond b (cond (eqb g z.last_generation) (n - 1) (n + 4294967293)) n) (eq-eqb n (claimable g) hit)))
          (ended (eqb x.generation z.last_generation) g n x hit gen)

-- ---- the laws

-- the word after a claim that succeeds
given : (b c : Bool) (n : ℕ) → b ≡ true → cond b (cond c (n - 1) (n + 4294967293)) n ≡ cond c (n - 1) (n + 4294967293)
given b c n e = ap (λ (t : Bool). cond t (cond c (n - 1) (n + 4294967293)) n) e

next-word : (last g n : ℕ) → n ≡ claimable g → g ≢ last → word_with 0 0 (g + 1) ≡ claim_gives last g n
next-word last g n hit less =
    let right : claim_gives last g n ≡ n + 4294967293 = given (eqb n (claimable g)) (eqb g last) n (eq-eqb n (claimable g) hit) ∙ ap (λ (t : Bool). cond t (n - 1) (n + 4294967293)) (ne_eqb g last less) in
    omega arith

last-word : (last g n : ℕ) → n ≡ claimable g → g ≡ last → word_with 2 0 g ≡ claim_gives last g n
last-word last g n hit same =
    let right : claim_gives last g n ≡ n - 1 = given (eqb n (claimable g)) (eqb g last) n (eq-eqb n (claimable g) hit) ∙ ap (λ (t : Bool). cond t (n - 1) (n + 4294967293)) (eq-eqb g last same) in
    omega arith

-- the same of a place and a generation that the key stands for
module _ (z : Shape) (w : Words) (h : List Act) (r : Lanes) (s : Rule z (moment w h r)) (lane : ℕ) (below : lane < (callers z)) (key : ℕ) (good : is_key z key ≡ true) where
  abbrev ClaimedAt : ℕ → ℕ → Pending → Type 0
  ClaimedAt place g u = is_place z place ≡ true → r.under lane ≡ Owes place g → w.life place ≡ claimable g
      → Rule z (moment (with_value w (Life place) (claim_gives z.last_generation g (w.life place))) (h ++ acts.Reclaim lane key ∷ []) (with_under r lane u))

  pub claimed-at : (place g : ℕ) (u : Pending) → place_of key ≡ place → generation_of key ≡ g → ((q : ℕ) → to_undo q u ≡ 0) → ((q : ℕ) → u ≡ Undo q true → ⊥)
      → ((words : Words) → IsReturning z words (h ++ acts.Reclaim lane key ∷ []) lane u) → ClaimedAt place g u
  claimed-at place g u at of quiet no_undo own = subst (λ (p : ℕ). ClaimedAt p g u) at (subst (λ (n : ℕ). ClaimedAt (place_of key) n u) of
      (λ inside is hit. claim_hits z w h r s lane below key u good inside is hit quiet no_undo (own (with_value w (Life (place_of key)) (claim_gives z.last_generation (generation_of key) (w.life (place_of key)))))))

  abbrev ReturnsAt : ℕ → ℕ → Type 0
  ReturnsAt place g = is_place z place ≡ true → r.under lane ≡ Owes place g → w.life place ≡ claimable g → g ≢ z.last_generation → shard_of place ≢ lane
      → (words : Words) → IsReturning z words (h ++ acts.Reclaim lane key ∷ []) lane (Returns place None false)

  pub returns-at : (place g : ℕ) → place_of key ≡ place → generation_of key ≡ g → ReturnsAt place g
  returns-at place g at of = subst (λ (p : ℕ). ReturnsAt p g) at (subst (λ (n : ℕ). ReturnsAt (place_of key) n) of
      (λ inside is hit less apart words. claim_returns z words h lane key (claim_allowed z w h r s lane below key good inside is hit) less apart))

module _ (z : Shape) (m : Moment) (lane place g : ℕ) (s : Rule z m) (o : HasUnderWay z m lane (Owes place g)) (inside : is_place z place ≡ true) where
  -- the key of the place and the generation
  record OfKey : Type 0 where
    pub good : is_key z (key_number z.tag place g) ≡ true
    pub place_is : place_of (key_number z.tag place g) ≡ place
    pub generation_is : generation_of (key_number z.tag place g) ≡ g

  of_key : m.words.life place ≡ claimable g → OfKey
  of_key hit =
      let now : (pool_after z m.history place).generation ≡ g = sym (s.state place inside).1 ∙ (ap generation_in hit ∙ omega arith) in
      let k = key_now z s.limits s.wide m.history place inside in record {
        good = subst (λ (n : ℕ). is_key z (key_number z.tag place n) ≡ true) now k.0;
        place_is = subst (λ (n : ℕ). place_of (key_number z.tag place n) ≡ place) now k.1;
        generation_is = subst (λ (n : ℕ). generation_of (key_number z.tag place n) ≡ n) now k.2;
      }

  claimed : (u : Pending) (word : ℕ) → ((q : ℕ) → to_undo q u ≡ 0) → ((q : ℕ) → u ≡ Undo q true → ⊥)
      → ((words : Words) → IsReturning z words (m.history ++ reclaim z lane place g ∷ []) lane u)
      → m.words.life place ≡ claimable g → word ≡ claim_gives z.last_generation g (m.words.life place)
      → Keeps z m (kinds.Claim g) (Life place) word (Some (reclaim z lane place g)) (with_under m.lanes lane u)
  claimed u word quiet no_undo own hit is =
      let k = of_key hit in
      keeps z m (kinds.Claim g) (Life place) word (Some (reclaim z lane place g)) (with_under m.lanes lane u) is tt
      (subst (λ (n : ℕ). Rule z (moment (with_value m.words (Life place) n) (m.history ++ reclaim z lane place g ∷ []) (with_under m.lanes lane u))) (sym is)
      (claimed-at z m.words m.history m.lanes s lane o.0 (key_number z.tag place g) k.good place g u k.place_is k.generation_is quiet no_undo own inside o.1 hit))

  claims-own : g ≢ z.last_generation → shard_of place ≡ lane → m.words.life place ≡ claimable g
      → Keeps z m (kinds.Claim g) (Life place) (word_with 0 0 (g + 1)) (Some (reclaim z lane place g)) (with_under m.lanes lane Nothing)
  claims-own less own hit = claimed Nothing (word_with 0 0 (g + 1)) (λ q. refl) (λ q e. cc e) (λ words. tt) hit (next-word z.last_generation g (m.words.life place) hit less)

  claims-other : g ≢ z.last_generation → shard_of place ≢ lane → m.words.life place ≡ claimable g
      → Keeps z m (kinds.Claim g) (Life place) (word_with 0 0 (g + 1)) (Some (reclaim z lane place g)) (with_under m.lanes lane (Returns place None false))
  claims-other less apart hit =
      let k = of_key hit in
      claimed (Returns place None false) (word_with 0 0 (g + 1)) (λ q. refl) (λ q e. cc e)
      (returns-at z m.words m.history m.lanes s lane o.0 (key_number z.tag place g) k.good place g k.place_is k.generation_is inside o.1 hit less apart)
      hit (next-word z.last_generation g (m.words.life place) hit less)

  claims-last : g ≡ z.last_generation → m.words.life place ≡ claimable g
      → Keeps z m (kinds.Claim g) (Life place) (word_with 2 0 g) (Some (reclaim z lane place g)) (with_under m.lanes lane Nothing)
  claims-last same hit = claimed Nothing (word_with 2 0 g) (λ q. refl) (λ q e. cc e) (λ words. tt) hit (last-word z.last_generation g (m.words.life place) hit same)

  claim-fails : m.words.life place ≢ claimable g → Keeps z m (kinds.Claim g) (Life place) (m.words.life place) None (with_under m.lanes lane Nothing)
  claim-fails miss = keeps z m (kinds.Claim g) (Life place) (m.words.life place) None (with_under m.lanes lane Nothing)
      (sym (ap (λ (b : Bool). cond b (cond (eqb g z.last_generation) (m.words.life place - 1) (m.words.life place + 4294967293)) (m.words.life place)) (ne_eqb (m.words.life place) (claimable g) miss))) tt
      (claim_misses z m.words m.history m.lanes s lane o.0 place g inside o.1 miss)

pub claim-own-law : ClaimOwnLaw
claim-own-law = claims-own

pub claim-other-law : ClaimOtherLaw
claim-other-law = claims-other

pub claim-last-law : ClaimLastLaw
claim-last-law = claims-last

pub claim-fails-law : ClaimFailsLaw
claim-fails-law = claim-fails
