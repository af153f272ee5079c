-- Steps on lifecycle words, and the acts that they make, keep Home.
use Rattle.std.proofs.Common.{◌≡◌, ◌≢◌, ◌⊎◌, inl, inr, ⊎_elim, ℕ, ◌+◌, ◌<◌, Bool, true, false, cond, eqb, ◌&&◌, List, [], ◌∷◌, ◌++◌, Some, None, refl, ap, sym, ◌∙◌, subst, eq-eqb, ne_eqb}
use mathlib.Core.Path.{fun_ext}
use mathlib.Core.Logic.{dite}
use native.Mathlib.Decide.{ℕ_discrete}
use Rattle.keybits.specs.declared.shape.Shape.{Shape}
use Rattle.keybits.specs.Places.{shard_of}
use Rattle.keybits.specs.Shapes.{is_place}
use Rattle.keybits.specs.Keys.{place_of, generation_of}
use Rattle.keybits.specs.Counts.{times}
use Rattle.keybits.specs.Homes.{AreHome}
use Rattle.keybits.proofs.KeyLemmas.{key_parts}
use Rattle.seqpool.specs.declared.act.Act.{Act}
use Rattle.seqpool.specs.declared.act.Act.TheVariants as acts
use Rattle.seqpool.specs.Pool.{Phase, with, published, home, retired, Spot, spot, Pool, is_marked, gained, lost, marked, lane_of, Allowed, touches, changed, after, fresh, pool_after}
use Rattle.seqpool.proofs.Growth.{pool-snoc, after-here, after-else}
use Rattle.seqpool.proofs.Ranks.{current-key}
use Rattle.steplaws.specs.declared.pending.Pending.{Pending}
use Rattle.steplaws.specs.declared.pending.Pending.TheVariants.{Returns}
use Rattle.steplaws.specs.Facts.{Words, Lanes, with_under, is_home, home_in, returner_after, returner, IsReturning, Home}
use Rattle.steplaws.proofs.Updates.{at-lane}
use Rattle.steplaws.proofs.HomePlaces.{with-one, returners-snoc, lane-same, guest-same}
use Rattle.keybits.specs.Rows.{row_word}
use Rattle.steplaws.proofs.Frames.{returning-same, chain-same, returned-same}

-- neither Home nor Collect
abbrev pub IsLife : Act → Type 0
IsLife (acts.Publish l key content with_ref) = Unit {0}
IsLife (acts.Get l key reply) = Unit {0}
IsLife (acts.Release l key) = Unit {0}
IsLife (acts.Clear l key reply) = Unit {0}
IsLife (acts.Reclaim l key) = Unit {0}
IsLife (acts.Home l place) = ⊥
IsLife (acts.Collect l places) = ⊥

-- the act publishes no key of this place
abbrev pub LeavesWith : Act → ℕ → Type 0
LeavesWith (acts.Publish l key content with_ref) place = place ≢ place_of key
LeavesWith (acts.Get l key reply) place = Unit {0}
LeavesWith (acts.Release l key) place = Unit {0}
LeavesWith (acts.Clear l key reply) place = Unit {0}
LeavesWith (acts.Reclaim l key) place = Unit {0}
LeavesWith (acts.Home l at) place = Unit {0}
LeavesWith (acts.Collect l places) place = Unit {0}

-- of the two phases both or none are home, and where the first is with a lane, so is the second
pub record Follows (f g : Phase) : Type 0 where
  pub homes : is_home g ≡ is_home f
  pub withs : (m : ℕ) → f ≡ with m → g ≡ with m

-- each act of the lifecycle
follows-self : (f : Phase) → Follows f f
follows-self f = record { homes = refl; withs = λ m e. e }

follows-gained : (l : ℕ) (f : Phase) → Follows f (gained l f)
follows-gained l (with k) = record { homes = refl; withs = λ m e. e }
follows-gained l (published c r x) = record { homes = refl; withs = λ m e. absurd (cc e) }
follows-gained l home = record { homes = refl; withs = λ m e. e }
follows-gained l retired = record { homes = refl; withs = λ m e. e }

follows-lost : (l : ℕ) (f : Phase) → Follows f (lost l f)
follows-lost l (with k) = record { homes = refl; withs = λ m e. e }
follows-lost l (published c r x) = record { homes = refl; withs = λ m e. absurd (cc e) }
follows-lost l home = record { homes = refl; withs = λ m e. e }
follows-lost l retired = record { homes = refl; withs = λ m e. e }

follows-marked : (f : Phase) → Follows f (marked f)
follows-marked (with k) = record { homes = refl; withs = λ m e. e }
follows-marked (published c r x) = record { homes = refl; withs = λ m e. absurd (cc e) }
follows-marked home = record { homes = refl; withs = λ m e. e }
follows-marked retired = record { homes = refl; withs = λ m e. e }

marked-no_home : (f : Phase) → is_marked f ≡ true → is_home f ≡ false
marked-no_home (with k) e = absurd (cc e)
marked-no_home (published c r x) e = refl
marked-no_home home e = absurd (cc e)
marked-no_home retired e = absurd (cc e)

reclaimed-no_home : (b : Bool) (s : Spot) (l : ℕ) → is_home (cond b (spot s.generation retired) (spot (s.generation + 1) (with l))).phase ≡ false
reclaimed-no_home true s l = refl
reclaimed-no_home false s l = refl

follows-marked_row : (f g : Phase) → is_marked f ≡ true → is_home g ≡ false → Follows f g
follows-marked_row f g row none = record {
  homes = none ∙ sym (marked-no_home f row);
  withs = λ m e. let bad : false ≡ true = sym (ap is_marked e) ∙ row in absurd (cc bad);
}

module _ (z : Shape) (P : Pool) (q : ℕ) where
  at-place : (act : Act) (one : ℕ) → ((x : ℕ) → touches act x ≡ eqb x one) → (q ≡ one → Follows (P one).phase (changed z.last_generation act (P one)).phase)
      → Follows (P q).phase (after z act P q).phase
  at-place act one of there = dite (ℕ_discrete q one)
      (λ here. subst (λ (p : ℕ). Follows (P p).phase (after z act P p).phase) (sym here)
      (subst (λ (t : Spot). Follows (P one).phase t.phase) (sym (after-here z P act one (of one ∙ eq-eqb one one refl))) (there here)))
      (λ other. subst (λ (t : Spot). Follows (P q).phase t.phase) (sym (after-else z P act q (of q ∙ ne_eqb q one other))) (follows-self (P q).phase))

  -- a place stays home, or not home; and it stays with its lane, but for the place that is published
  pub follows : (act : Act) → Allowed z P act → IsLife act → LeavesWith act q → Follows (P q).phase (after z act P q).phase
  follows (acts.Publish l key content with_ref) ok life leaves = at-place (acts.Publish l key content with_ref) (place_of key) (λ x. refl) (λ here. absurd (leaves here))
  follows (acts.Get l key None) ok life leaves = at-place (acts.Get l key None) (place_of key) (λ x. refl) (λ here. follows-self (P (place_of key)).phase)
  follows (acts.Get l key (Some content)) ok life leaves = at-place (acts.Get l key (Some content)) (place_of key) (λ x. refl) (λ here. follows-gained l (P (place_of key)).phase)
  follows (acts.Release l key) ok life leaves = at-place (acts.Release l key) (place_of key) (λ x. refl) (λ here. follows-lost l (P (place_of key)).phase)
  follows (acts.Clear l key true) ok life leaves = at-place (acts.Clear l key true) (place_of key) (λ x. refl) (λ here. follows-marked (P (place_of key)).phase)
  follows (acts.Clear l key false) ok life leaves = at-place (acts.Clear l key false) (place_of key) (λ x. refl) (λ here. follows-self (P (place_of key)).phase)
  follows (acts.Reclaim l key) ok life leaves = at-place (acts.Reclaim l key) (place_of key) (λ x. refl)
      (λ here. follows-marked_row (P (place_of key)).phase _ ok.1 (reclaimed-no_home (eqb (P (place_of key)).generation z.last_generation) (P (place_of key)) l))
  follows (acts.Home l place) ok life leaves = absurd life
  follows (acts.Collect l places) ok life leaves = absurd life

  -- the place that is published isn't home, before and after
  pub published-no_home : (l key : ℕ) (content : List ℕ) (with_ref : Bool) → (P (place_of key)).phase ≡ with l → q ≡ place_of key
      → is_home (after z (acts.Publish l key content with_ref) P q).phase ≡ is_home (P q).phase
  published-no_home l key content with_ref ok here =
      ap (λ (s : Spot). is_home s.phase) (after-here z P (acts.Publish l key content with_ref) q (eq-eqb q (place_of key) here))
      ∙ sym (ap (λ (p : ℕ). is_home (P p).phase) here ∙ ap is_home ok)

-- which places are home stays
pub life-homes : (z : Shape) (P : Pool) (q : ℕ) (act : Act) → Allowed z P act → IsLife act → is_home (after z act P q).phase ≡ is_home (P q).phase
life-homes z P q (acts.Publish l key content with_ref) ok life = dite (ℕ_discrete q (place_of key))
    (λ here. published-no_home z P q l key content with_ref ok.1 here)
    (λ n. (follows z P q (acts.Publish l key content with_ref) ok life n).homes)
life-homes z P q (acts.Get l key reply) ok life = (follows z P q (acts.Get l key reply) ok life tt).homes
life-homes z P q (acts.Release l key) ok life = (follows z P q (acts.Release l key) ok life tt).homes
life-homes z P q (acts.Clear l key reply) ok life = (follows z P q (acts.Clear l key reply) ok life tt).homes
life-homes z P q (acts.Reclaim l key) ok life = (follows z P q (acts.Reclaim l key) ok life tt).homes
life-homes z P q (acts.Home l place) ok life = absurd life
life-homes z P q (acts.Collect l places) ok life = absurd life

-- which places are with a lane stays, but for the one that the lane publishes
pub life-withs : (z : Shape) (P : Pool) (q m : ℕ) (act : Act) → Allowed z P act → IsLife act → (lane_of act ≢ m) ⊎ LeavesWith act q → (P q).phase ≡ with m → (after z act P q).phase ≡ with m
life-withs z P q m (acts.Publish l key content with_ref) ok life n e = (follows z P q (acts.Publish l key content with_ref) ok life
    (⊎_elim (λ (other : l ≢ m). λ here. other (with-one l m (sym ok.1 ∙ (ap (λ (p : ℕ). (P p).phase) (sym here) ∙ e)))) (λ (d : q ≢ place_of key). d) n)).withs m e
life-withs z P q m (acts.Get l key reply) ok life n e = (follows z P q (acts.Get l key reply) ok life tt).withs m e
life-withs z P q m (acts.Release l key) ok life n e = (follows z P q (acts.Release l key) ok life tt).withs m e
life-withs z P q m (acts.Clear l key reply) ok life n e = (follows z P q (acts.Clear l key reply) ok life tt).withs m e
life-withs z P q m (acts.Reclaim l key) ok life n e = (follows z P q (acts.Reclaim l key) ok life tt).withs m e
life-withs z P q m (acts.Home l place) ok life n e = absurd life
life-withs z P q m (acts.Collect l places) ok life n e = absurd life

-- who returned a place stays
pub life-returner : (f : ℕ → ℕ) (act : Act) → IsLife act → returner_after act f ≡ f
life-returner f (acts.Publish l key content with_ref) life = refl
life-returner f (acts.Get l key reply) life = refl
life-returner f (acts.Release l key) life = refl
life-returner f (acts.Clear l key reply) life = refl
life-returner f (acts.Reclaim l key) life = refl
life-returner f (acts.Home l place) life = absurd life
life-returner f (acts.Collect l places) life = absurd life

module _ (z : Shape) (w : Words) (f : ℕ → ℕ) (h : List Act) (r : Lanes) (t : Home z w h r) (lane : ℕ) (u : Pending) where
  abbrev V : Words
  V = record { life = f; link = w.link; stack = w.stack; bits = w.bits }

  -- a step on a lifecycle word that makes no act
  pub silent_keeps : IsReturning z V h lane u → Home z V h (with_under r lane u)
  silent_keeps own = record {
    stacks = t.stacks;
    returned = t.returned;
    last_pushed = t.last_pushed;
    bits = t.bits;
    returning = λ m b. at-lane r.under lane u (λ n y. IsReturning z V h n y) m own
        (λ other. returning-same z w V h h m (r.under m) (λ q i a e. (e, refl, λ none. none)) (t.returning m b));
    chained = λ m b. chain-same z w V h h m (r.chain m) (λ q i o e some. (e, refl)) (t.chained m b);
  }

  -- a step on a lifecycle word that makes an act; no place of the taken chain is published
  module _ (act : Act) (life : IsLife act) (mine : lane_of act ≡ lane) (ok : Allowed z (pool_after z h) act) (leaves : (q : ℕ) → 0 < times q (r.chain lane) → LeavesWith act q) where
    abbrev K : List Act
    K = h ++ act ∷ []

    pool-is : (q : ℕ) → pool_after z K q ≡ after z act (pool_after z h) q
    pool-is q = ap (λ (P : Pool). P q) (pool-snoc z fresh h act)

    homes-are : (shard q : ℕ) → home_in z h shard q ≡ home_in z K shard q
    homes-are shard q = sym (ap (λ (b : Bool). is_place z q && (eqb (shard_of q) shard && b))
        (ap (λ (s : Spot). is_home s.phase) (pool-is q) ∙ life-homes z (pool_after z h) q act ok life))

    returner-is : (q : ℕ) → returner K q ≡ returner h q
    returner-is q = ap (λ (g : ℕ → ℕ). g q) (returners-snoc (λ _. 0) h act ∙ life-returner (returner h) act life)

    stays-with : (q m : ℕ) → (lane ≢ m) ⊎ LeavesWith act q → (pool_after z h q).phase ≡ with m → (pool_after z K q).phase ≡ with m
    stays-with q m n e = ap (λ (s : Spot). s.phase) (pool-is q)
        ∙ life-withs z (pool_after z h) q m act ok life (⊎_elim (λ (d : lane ≢ m). inl (λ same. d (sym mine ∙ same))) (λ (l : LeavesWith act q). inr l) n) e

    pub act_keeps : IsReturning z V K lane u → Home z V K (with_under r lane u)
    act_keeps own = record {
      stacks = λ shard inside. subst (λ (g : ℕ → Bool). AreHome z shard w.link (w.stack shard) g) (fun_ext (λ q. sym (lane-same z h shard q K (sym (homes-are shard q)) (returner-is q)))) (t.stacks shard inside);
      returned = λ shard m inside b a. returned-same z w V h K shard m b a (t.stacks shard inside) (t.returned shard m inside b a) (λ q e. (refl, returner-is q)) refl;
      last_pushed = t.last_pushed;
      bits = λ shard row inside. t.bits shard row inside
          ∙ ap (row_word shard row) (fun_ext (λ q. sym (guest-same z h shard q K (sym (homes-are shard q)) (returner-is q))));
      returning = λ m b. at-lane r.under lane u (λ n y. IsReturning z V K n y) m own
          (λ other. returning-same z w V h K m (r.under m) (λ q i a e. (stays-with q m (inl (λ same. other (sym same))) e, refl, λ none. none)) (t.returning m b));
      chained = λ m b. dite (ℕ_discrete m lane)
          (λ e. chain-same z w V h K m (r.chain m) (λ q i o ph some. (stays-with q m (inr (leaves q (subst (λ (n : ℕ). 0 < times q (r.chain n)) e some))) ph, refl)) (t.chained m b))
          (λ other. chain-same z w V h K m (r.chain m) (λ q i o ph some. (stays-with q m (inl (λ same. other (sym same))) ph, refl)) (t.chained m b));
    }

-- a claim that succeeds below the last generation at a place of another shard: the place is to return
pub claim_returns : (z : Shape) (v : Words) (h : List Act) (lane key : ℕ) → Allowed z (pool_after z h) (acts.Reclaim lane key) → generation_of key ≢ z.last_generation → shard_of (place_of key) ≢ lane
    → IsReturning z v (h ++ acts.Reclaim lane key ∷ []) lane (Returns (place_of key) None false)
claim_returns z v h lane key ok below apart =
    let P : Pool = pool_after z h in
    let now = current-key z P key ok.0 in record {
      inside = (key_parts z key now.0).place;
      apart = apart;
      with_lane = ap (λ (s : Spot). s.phase) (ap (λ (Q : Pool). Q (place_of key)) (pool-snoc z fresh h (acts.Reclaim lane key))
          ∙ after-here z P (acts.Reclaim lane key) (place_of key) (eq-eqb (place_of key) (place_of key) refl))
          ∙ ap (λ (b : Bool). (cond b (spot (P (place_of key)).generation retired) (spot ((P (place_of key)).generation + 1) (with lane))).phase)
          (ne_eqb (P (place_of key)).generation z.last_generation (λ e. below (sym now.1 ∙ e)));
      link = tt;
      emptied = λ no. absurd (cc no);
    }
