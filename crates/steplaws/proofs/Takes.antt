-- TAKE and FOLLOW keep Home.
use Rattle.std.proofs.Common.{◌≡◌, ◌≢◌, ◌⊎◌, inl, ℕ, ◌<◌, ◌≤◌, Bool, true, false, eqb, ◌&&◌, List, [], ◌∷◌, ◌++◌, refl, ap, sym, ◌∙◌, subst, arith, eq-eqb, ne_eqb}
use mathlib.Core.Path.{fun_ext}
use mathlib.Core.Logic.{dite}
use native.Mathlib.Decide.{ℕ_discrete}
use Rattle.keybits.specs.declared.shape.Shape.{Shape}
use Rattle.keybits.specs.declared.step.Word.TheVariants.{Stack}
use Rattle.keybits.specs.Places.{shard_of}
use Rattle.keybits.specs.Counts.{times}
use Rattle.keybits.specs.Links.{Leads}
use Rattle.keybits.specs.Homes.{AreHome}
use Rattle.keybits.specs.HomeLaws.{without_places}
use Rattle.keybits.proofs.CountLemmas.{count_if, one_at}
use Rattle.keybits.proofs.LeadLemmas.{leads-zero}
use Rattle.keybits.proofs.HomeLemmas.{unchanged-law, take-law}
use Rattle.seqpool.specs.declared.act.Act.{Act}
use Rattle.seqpool.specs.declared.act.Act.TheVariants as acts
use Rattle.seqpool.specs.Pool.{with, Spot, spot, Pool, has, AllHome, Allowed, fresh, pool_after}
use Rattle.seqpool.proofs.Growth.{pool-snoc, after-here, after-else}
use Rattle.steplaws.specs.Facts.{Words, with_value, Lanes, with_chain, home_in, lane_home, guest_home, returner, IsChain, Home}
use Rattle.keybits.specs.Rows.{row_word}
use Rattle.steplaws.proofs.Updates.{at-lane, two-here, two-row, two-else, chosen}
use Rattle.steplaws.proofs.HomePlaces.{with-home, home-parts, home-off, home-same, not-home, has-some, has-none, repeats-none, returners-snoc, lane-part, lane-off, lane-same, guest-none, guest-same}
use Rattle.steplaws.proofs.Frames.{returning-same, chain-same, returned-same}

-- FOLLOW
pub follow_keeps : (z : Shape) (w : Words) (h : List Act) (r : Lanes) (lane p : ℕ) (more : List ℕ) → lane < z.lanes → r.chain lane ≡ p ∷ more
    → Home z w h r → Home z w h (with_chain r lane more) × Leads w.link lane (w.link p) more
follow_keeps z w h r lane p more below is t =
    let c : IsChain z w h lane (p ∷ more) = subst (λ (xs : List ℕ). IsChain z w h lane xs) is (t.chained lane below) in (
      record {
        stacks = t.stacks;
        returned = t.returned;
        last_pushed = t.last_pushed;
        bits = t.bits;
        returning = t.returning;
        chained = λ m b. at-lane r.chain lane more (λ n xs. IsChain z w h n xs) m
            record {
              first = w.link p;
              leads = c.leads.2;
              each = λ q some. let e = c.each q (omega arith) in let one = e.once in record { once = omega arith; inside = e.inside; own = e.own; with_lane = e.with_lane };
            }
            (λ other. t.chained m b);
      },
      c.leads.2,
    )

-- TAKE of a word that isn't 0, where these places are those that the links lead through
module _ (z : Shape) (w : Words) (h : List Act) (r : Lanes) (t : Home z w h r) (lane from : ℕ) (below : lane < z.lanes) (from_below : from < z.lanes) (apart : from ≢ lane) where
  abbrev pub emptied : Words
  emptied = with_value w (Stack lane from) 0

  -- what stands on the stack
  pub record Thread : Type 0 where
    pub taken : List ℕ
    pub leads : Leads w.link lane (w.stack lane from) taken
    pub once : (place : ℕ) → times place taken ≤ count_if (lane_home z h lane place)
    pub after : AreHome z lane w.link (emptied.stack lane) (without_places taken (lane_home z h lane))

  pub thread : Thread
  thread = let q = take-law z lane from w.link (w.stack lane) (emptied.stack lane) (lane_home z h lane) from_below apart
      (two-here w.stack lane from 0 lane from refl refl) (λ m b n. two-else w.stack lane from 0 lane m n) (t.stacks lane below) in
      record { taken = q.0; leads = q.1; once = q.2; after = q.3 }

  module _ (taken : List ℕ) (leads : Leads w.link lane (w.stack lane from) taken) (once : (place : ℕ) → times place taken ≤ count_if (lane_home z h lane place))
      (after : AreHome z lane w.link (emptied.stack lane) (without_places taken (lane_home z h lane))) where
    abbrev H' : List Act
    H' = h ++ acts.Collect lane taken ∷ []

    bit : (b : Bool) → 0 < count_if b → b ≡ true
    bit true p = refl
    bit false p = let bad : 0 < 0 = p in absurd (omega arith)

    taken-lane : (q : ℕ) → 0 < times q taken → lane_home z h lane q ≡ true
    taken-lane q some = bit (lane_home z h lane q) (let o = once q in omega arith)

    pub taken-home : (q : ℕ) → 0 < times q taken → home_in z h lane q ≡ true
    taken-home q some = (lane-part z h lane q (taken-lane q some)).0

    pub pool-on : (q : ℕ) → has taken q ≡ true → pool_after z H' q ≡ spot (pool_after z h q).generation (with lane)
    pool-on q e = ap (λ (P : Pool). P q) (pool-snoc z fresh h (acts.Collect lane taken)) ∙ after-here z (pool_after z h) (acts.Collect lane taken) q e

    pub pool-stays : (q : ℕ) → has taken q ≡ false → pool_after z H' q ≡ pool_after z h q
    pool-stays q e = ap (λ (P : Pool). P q) (pool-snoc z fresh h (acts.Collect lane taken)) ∙ after-else z (pool_after z h) (acts.Collect lane taken) q e

    -- a place with a lane isn't taken
    not-taken : (q m : ℕ) → (pool_after z h q).phase ≡ with m → has taken q ≡ false
    not-taken q m e = has-none q taken (dite (ℕ_discrete (times q taken) 0) (λ none. none)
        (λ some. absurd (with-home (pool_after z h q).phase m e (home-parts z h lane q (taken-home q (omega arith))).home)))

    stays : (q m : ℕ) → (pool_after z h q).phase ≡ with m → (pool_after z H' q).phase ≡ with m
    stays q m e = ap (λ (s : Spot). s.phase) (pool-stays q (not-taken q m e)) ∙ e

    returner-same : (q : ℕ) → returner H' q ≡ returner h q
    returner-same q = ap (λ (f : ℕ → ℕ). f q) (returners-snoc (λ _. 0) h (acts.Collect lane taken))

    off : (b c : Bool) → c ≡ false → (b && c) ≡ false
    off true c e = e
    off false c e = refl

    on : (b c : Bool) → c ≡ true → (b && c) ≡ b
    on true c e = e
    on false c e = refl

    homes-lane : (q : ℕ) → without_places taken (lane_home z h lane) q ≡ lane_home z H' lane q
    homes-lane q = dite (ℕ_discrete (times q taken) 0)
        (λ none. on (lane_home z h lane q) (eqb (times q taken) 0) (eq-eqb (times q taken) 0 none)
        ∙ sym (lane-same z h lane q H' (home-same z h lane q H' (ap (λ (s : Spot). s.phase) (pool-stays q (has-none q taken none)))) (returner-same q)))
        (λ some. off (lane_home z h lane q) (eqb (times q taken) 0) (ne_eqb (times q taken) 0 some)
        ∙ sym (lane-off z H' lane q (not-home z H' lane q lane (ap (λ (s : Spot). s.phase) (pool-on q (has-some q taken (omega arith)))))))

    homes-else : (shard q : ℕ) → shard ≢ lane → lane_home z h shard q ≡ lane_home z H' shard q
    homes-else shard q other = dite (ℕ_discrete (times q taken) 0)
        (λ none. sym (lane-same z h shard q H' (home-same z h shard q H' (ap (λ (s : Spot). s.phase) (pool-stays q (has-none q taken none)))) (returner-same q)))
        (λ some. sym (lane-same z h shard q H' (sym (home-off z H' shard q h (λ own. other (sym own ∙ (home-parts z h lane q (taken-home q (omega arith))).own)))) (returner-same q)))

    -- none of them was returned by a guest
    guests-stay : (shard q : ℕ) → guest_home z H' shard q ≡ guest_home z h shard q
    guests-stay shard q = dite (ℕ_discrete (times q taken) 0)
        (λ none. guest-same z h shard q H' (home-same z h shard q H' (ap (λ (s : Spot). s.phase) (pool-stays q (has-none q taken none)))) (returner-same q))
        (λ some.
        let low = (lane-part z h lane q (taken-lane q (omega arith))).1 in let who = returner-same q in
        guest-none z H' shard q (omega arith) ∙ sym (guest-none z h shard q low))

    pub take_keeps : Home z emptied H' (with_chain r lane taken)
    take_keeps = record {
      stacks = λ shard inside. dite (ℕ_discrete shard lane)
          (λ e. subst (λ (s : ℕ). AreHome z s w.link (emptied.stack s) (lane_home z H' s)) (sym e)
          (subst (λ (f : ℕ → Bool). AreHome z lane w.link (emptied.stack lane) f) (fun_ext homes-lane) after))
          (λ n. subst (λ (f : ℕ → Bool). AreHome z shard w.link (emptied.stack shard) f) (fun_ext (λ q. homes-else shard q n))
          (unchanged-law z shard w.link (w.stack shard) w.link (emptied.stack shard) (lane_home z h shard) (λ q e. refl)
          (λ m b a. two-row w.stack lane from 0 shard m n) (t.stacks shard inside)));
      returned = λ shard m inside b a. dite (ℕ_discrete m from)
          (λ same. dite (ℕ_discrete shard lane)
          (λ e. λ xs l q some. let none = leads-zero w.link shard (emptied.stack shard m) xs (two-here w.stack lane from 0 shard m e same) l in
          let bad : 0 < times q [] = subst (λ (ys : List ℕ). 0 < times q ys) none some in absurd (omega arith))
          (λ n. returned-same z w emptied h H' shard m b a (t.stacks shard inside) (t.returned shard m inside b a) (λ q e. (refl, returner-same q)) (two-row w.stack lane from 0 shard m n)))
          (λ n. returned-same z w emptied h H' shard m b a (t.stacks shard inside) (t.returned shard m inside b a) (λ q e. (refl, returner-same q)) (two-else w.stack lane from 0 shard m n));
      last_pushed = λ shard m inside b a. chosen (eqb shard lane && eqb m from) 0 (w.stack shard m) (λ x. (x ≡ 0) ⊎ (x ≡ r.pushed shard m)) (inl refl) (t.last_pushed shard m inside b a);
      bits = λ shard row inside. t.bits shard row inside ∙ ap (row_word shard row) (fun_ext (λ q. sym (guests-stay shard q)));
      returning = λ m b. returning-same z w emptied h H' m (r.under m)
          (λ q i a e. (stays q m e, refl, λ none. chosen (eqb (shard_of q) lane && eqb m from) 0 (w.stack (shard_of q) m) (λ x. x ≡ 0) refl none)) (t.returning m b);
      chained = λ m b. at-lane r.chain lane taken (λ n xs. IsChain z emptied H' n xs) m
          record {
            first = w.stack lane from;
            leads = leads;
            each = λ q some. let home_q = home-parts z h lane q (taken-home q some) in record {
              once = let o = once q in let one = ap count_if (taken-lane q some) in omega arith;
              inside = home_q.inside;
              own = home_q.own;
              with_lane = ap (λ (s : Spot). s.phase) (pool-on q (has-some q taken some));
            };
          }
          (λ other. chain-same z w emptied h H' m (r.chain m) (λ q i own e some. (stays q m e, refl)) (t.chained m b));
    }

    all-home : (xs : List ℕ) → ((q : ℕ) → 0 < times q xs → home_in z h lane q ≡ true) → AllHome z (pool_after z h) lane xs
    all-home [] all = tt
    all-home (x ∷ xs) all = let one = one_at x x refl in let p = home-parts z h lane x (all x (omega arith)) in
        (p.inside, p.own, p.home, all-home xs (λ q some. all q (omega arith)))

    pub take_allowed : w.stack lane from ≢ 0 → Allowed z (pool_after z h) (acts.Collect lane taken)
    take_allowed some = (
      λ none. some (subst (λ (xs : List ℕ). Leads w.link lane (w.stack lane from) xs) none leads),
      repeats-none taken (λ q. let o = once q in let b = bit-le (lane_home z h lane q) in omega arith),
      all-home taken taken-home,
    )
      where
        bit-le : (b : Bool) → count_if b ≤ 1
        bit-le true = omega arith
        bit-le false = omega arith
