-- LINK and PUSH keep Home.
use Rattle.std.proofs.Common.{◌≡◌, ◌≢◌, ◌⊎◌, inl, inr, ⊎_elim, ℕ, ◌<◌, Bool, true, eqb, ◌&&◌, ◌||◌, List, [], ◌∷◌, ◌++◌, Option, Some, None, refl, ap, sym, ◌∙◌, subst, arith, eq-eqb, ne_eqb}
use mathlib.Core.Path.{fun_ext}
use mathlib.Core.Logic.{dite}
use native.Mathlib.Decide.{ℕ_discrete}
use Rattle.keybits.specs.declared.shape.Shape.{Shape}
use Rattle.keybits.specs.declared.step.Word.TheVariants.{Link, Stack}
use Rattle.keybits.specs.Places.{shard_of}
use Rattle.keybits.specs.Shapes.{is_place, callers}
use Rattle.keybits.specs.Counts.{times}
use Rattle.keybits.specs.Links.{link_to, Leads}
use Rattle.keybits.specs.Homes.{AreHome}
use Rattle.keybits.specs.HomeLaws.{with_place}
use Rattle.keybits.proofs.LinkLemmas.{linked_place-link_to}
use Rattle.keybits.proofs.CountLemmas.{none_at}
use Rattle.keybits.proofs.HomeLemmas.{unchanged-law, push-law}
use Rattle.seqpool.specs.declared.act.Act.{Act}
use Rattle.seqpool.specs.declared.act.Act.TheVariants as acts
use Rattle.seqpool.specs.Pool.{with, home, Spot, spot, Pool, Allowed, fresh, pool_after}
use Rattle.seqpool.proofs.Growth.{pool-snoc, after-here, after-else}
use Rattle.steplaws.specs.declared.pending.Pending.{Pending}
use Rattle.steplaws.specs.declared.pending.Pending.TheVariants.{Nothing, Returns}
use Rattle.steplaws.specs.Facts.{put_at, Words, with_value, Lanes, with_under, with_pushed, home_in, lane_home, guest_home, returner, IsLinked, IsToReturn, IsReturning, Home}
use Rattle.steplaws.proofs.Updates.{at-here, at-else, at-lane, two-here, two-row, two-else, chosen-two}
use Rattle.steplaws.proofs.HomePlaces.{with-one, with-home, home-parts, home-from, home-off, home-same, not-home, returners-snoc, lane-part, lane-from, lane-off, guest-off, guest-none, lane-same, guest-same}
use Rattle.keybits.specs.Rows.{row_word}
use Rattle.steplaws.proofs.Frames.{returning-same, chain-same, returned-same}

-- a place that a lane has to return
module _ (z : Shape) (w : Words) (h : List Act) (r : Lanes) (t : Home z w h r) (lane place : ℕ) (linked : Option ℕ) (failed : Bool) (below : lane < callers z)
    (is : r.under lane ≡ Returns place linked failed) where
  pub now : IsToReturn z w h lane place linked failed
  now = subst (λ (u : Pending). IsReturning z w h lane u) is (t.returning lane below)

  pub home-apart : (shard q : ℕ) → home_in z h shard q ≡ true → q ≢ place
  home-apart shard q e same = with-home (pool_after z h place).phase lane now.with_lane
      (ap (λ (p : ℕ). (pool_after z h p).phase) (sym same) ∙ (home-parts z h shard q e).home)

  pub lane-apart : (m q : ℕ) → m ≢ lane → (pool_after z h q).phase ≡ with m → q ≢ place
  lane-apart m q other e same = other (with-one m lane (sym e ∙ (ap (λ (p : ℕ). (pool_after z h p).phase) same ∙ now.with_lane)))

  pub own-apart : (m q : ℕ) → shard_of q ≡ m → (pool_after z h q).phase ≡ with m → q ≢ place
  own-apart m q own e same =
      let m_is : m ≡ lane = with-one m lane (sym e ∙ (ap (λ (p : ℕ). (pool_after z h p).phase) same ∙ now.with_lane)) in
      now.apart (ap shard_of (sym same) ∙ (own ∙ m_is))

  -- LINK
  pub link_keeps : (top : ℕ) → Home z (with_value w (Link place) top) h (with_under r lane (Returns place (Some top) failed))
  link_keeps top = record {
    stacks = λ shard inside. unchanged-law z shard w.link (w.stack shard) (put_at w.link place top) (w.stack shard) (lane_home z h shard)
        (λ q e. at-else w.link place top q (home-apart shard q (lane-part z h shard q e).0)) (λ l b a. refl) (t.stacks shard inside);
    returned = λ shard m inside b a. returned-same z w (with_value w (Link place) top) h h shard m b a (t.stacks shard inside) (t.returned shard m inside b a)
        (λ q e. (at-else w.link place top q (home-apart shard q e), refl)) refl;
    last_pushed = t.last_pushed;
    bits = t.bits;
    returning = λ m b. at-lane r.under lane (Returns place (Some top) failed) (λ n u. IsReturning z (with_value w (Link place) top) h n u) m
        record {
          inside = now.inside;
          apart = now.apart;
          with_lane = now.with_lane;
          link = at-here w.link place top place refl;
          emptied = now.emptied;
        }
        (λ other. returning-same z w (with_value w (Link place) top) h h m (r.under m)
        (λ q i a e. (e, at-else w.link place top q (lane-apart m q other e), λ none. none)) (t.returning m b));
    chained = λ m b. chain-same z w (with_value w (Link place) top) h h m (r.chain m)
        (λ q i own e some. (e, at-else w.link place top q (own-apart m q own e))) (t.chained m b);
  }

  -- a PUSH that fails
  pub push_fails : w.stack (shard_of place) lane ≡ 0 → Home z w h (with_under r lane (Returns place None true))
  push_fails none = record {
    stacks = t.stacks;
    returned = t.returned;
    last_pushed = t.last_pushed;
    bits = t.bits;
    returning = λ m b. at-lane r.under lane (Returns place None true) (λ n u. IsReturning z w h n u) m
        record { inside = now.inside; apart = now.apart; with_lane = now.with_lane; link = tt; emptied = λ yes. none }
        (λ other. t.returning m b);
    chained = t.chained;
  }

  pub push_allowed : Allowed z (pool_after z h) (acts.Home lane place)
  push_allowed = (now.inside, now.with_lane, now.apart)

  -- a PUSH that succeeds
  module _ (top : ℕ) (linked_is : linked ≡ Some top) (found : w.stack (shard_of place) lane ≡ top) (mine : lane < z.lanes) where
    abbrev S : ℕ
    S = shard_of place

    abbrev K : List Act
    K = h ++ acts.Home lane place ∷ []

    abbrev V : Words
    V = with_value w (Stack S lane) (link_to place)

    link_is : w.link place ≡ w.stack S lane
    link_is = subst (λ (o : Option ℕ). IsLinked (w.link place) o) linked_is now.link ∙ sym found

    pub pool-at : (q : ℕ) → q ≡ place → pool_after z K q ≡ spot (pool_after z h q).generation home
    pool-at q e = ap (λ (P : Pool). P q) (pool-snoc z fresh h (acts.Home lane place)) ∙ after-here z (pool_after z h) (acts.Home lane place) q (eq-eqb q place e)

    pub pool-off : (q : ℕ) → q ≢ place → pool_after z K q ≡ pool_after z h q
    pool-off q n = ap (λ (P : Pool). P q) (pool-snoc z fresh h (acts.Home lane place)) ∙ after-else z (pool_after z h) (acts.Home lane place) q (ne_eqb q place n)

    returner-off : (q : ℕ) → q ≢ place → returner K q ≡ returner h q
    returner-off q n = ap (λ (f : ℕ → ℕ). f q) (returners-snoc (λ _. 0) h (acts.Home lane place)) ∙ at-else (returner h) place lane q n

    returner-at : (q : ℕ) → q ≡ place → returner K q ≡ lane
    returner-at q e = ap (λ (f : ℕ → ℕ). f q) (returners-snoc (λ _. 0) h (acts.Home lane place)) ∙ at-here (returner h) place lane q e

    homes-here : (q : ℕ) → with_place place (lane_home z h S) q ≡ lane_home z K S q
    homes-here q = dite (ℕ_discrete q place)
        (λ e. ap (λ (b : Bool). b || lane_home z h S q) (eq-eqb q place e)
        ∙ sym (lane-from z K S q (home-from z K S q (ap (is_place z) e ∙ now.inside) (ap shard_of e) (ap (λ (s : Spot). s.phase) (pool-at q e)))
        (let who = returner-at q e in omega arith)))
        (λ n. ap (λ (b : Bool). b || lane_home z h S q) (ne_eqb q place n)
        ∙ sym (lane-same z h S q K (home-same z h S q K (ap (λ (s : Spot). s.phase) (pool-off q n))) (returner-off q n)))

    homes-there : (shard q : ℕ) → shard ≢ S → lane_home z h shard q ≡ lane_home z K shard q
    homes-there shard q other = dite (ℕ_discrete q place)
        (λ e.
        let was = not-home z h shard q lane (ap (λ (p : ℕ). (pool_after z h p).phase) e ∙ now.with_lane) in
        lane-off z h shard q was ∙ sym (lane-off z K shard q (sym (home-off z K shard q h (λ own. other (sym own ∙ ap shard_of e))) ∙ was)))
        (λ n. sym (lane-same z h shard q K (home-same z h shard q K (ap (λ (s : Spot). s.phase) (pool-off q n))) (returner-off q n)))

    -- no guest returned it
    guests-stay : (shard q : ℕ) → guest_home z K shard q ≡ guest_home z h shard q
    guests-stay shard q = dite (ℕ_discrete q place)
        (λ e. guest-none z K shard q (let who = returner-at q e in omega arith)
        ∙ sym (guest-off z h shard q (not-home z h shard q lane (ap (λ (p : ℕ). (pool_after z h p).phase) e ∙ now.with_lane))))
        (λ n. guest-same z h shard q K (home-same z h shard q K (ap (λ (s : Spot). s.phase) (pool-off q n))) (returner-off q n))

    stack-same : (shard m : ℕ) → (m ≢ lane) ⊎ (shard ≢ S) → V.stack shard m ≡ w.stack shard m
    stack-same shard m n = ⊎_elim (λ (d : m ≢ lane). two-else w.stack S lane (link_to place) shard m d) (λ (d : shard ≢ S). two-row w.stack S lane (link_to place) shard m d) n

    returned-off : (shard m : ℕ) → shard < z.lanes → m < z.lanes → m ≢ shard → (m ≢ lane) ⊎ (shard ≢ S)
        → (thread : List ℕ) → Leads V.link shard (V.stack shard m) thread → (q : ℕ) → 0 < times q thread → returner K q ≡ m
    returned-off shard m inside b a n = returned-same z w V h K shard m b a (t.stacks shard inside) (t.returned shard m inside b a)
        (λ q e. (refl, returner-off q (home-apart shard q e))) (stack-same shard m n)

    returned-here : S < z.lanes → (thread : List ℕ) → Leads w.link S (link_to place) thread → (q : ℕ) → 0 < times q thread → returner K q ≡ lane
    returned-here inside [] leads q some = absurd (omega arith)
    returned-here inside (p ∷ more) leads q some = dite (ℕ_discrete q place)
        (λ e. returner-at q e)
        (λ n.
        let p_is : p ≡ place = leads.1 ∙ linked_place-link_to place in
        let off = none_at p q (λ e. n (sym e ∙ p_is)) in
        let rest : Leads w.link S (w.stack S lane) more = subst (λ (x : ℕ). Leads w.link S x more) (ap w.link p_is ∙ link_is) leads.2 in
        returner-off q n ∙ t.returned S lane inside mine (λ e. now.apart (sym e)) more rest q (omega arith))

    pub push_keeps : Home z V K (with_pushed r S lane (link_to place))
    push_keeps = record {
      stacks = λ shard inside. dite (ℕ_discrete shard S)
          (λ e. subst (λ (s : ℕ). AreHome z s w.link (V.stack s) (lane_home z K s)) (sym e)
          (subst (λ (f : ℕ → Bool). AreHome z S w.link (V.stack S) f) (fun_ext homes-here)
          (push-law z S lane place w.link (w.stack S) (V.stack S) (lane_home z h S) mine (λ d. now.apart (sym d)) now.inside refl
          (lane-off z h S place (not-home z h S place lane now.with_lane)) link_is (two-here w.stack S lane (link_to place) S lane refl refl)
          (λ m b n. two-else w.stack S lane (link_to place) S m n) (t.stacks S (subst (λ (s : ℕ). s < z.lanes) e inside)))))
          (λ n. subst (λ (f : ℕ → Bool). AreHome z shard w.link (V.stack shard) f) (fun_ext (λ q. homes-there shard q n))
          (unchanged-law z shard w.link (w.stack shard) w.link (V.stack shard) (lane_home z h shard) (λ q e. refl)
          (λ m b a. two-row w.stack S lane (link_to place) shard m n) (t.stacks shard inside)));
      returned = λ shard m inside b a thread leads q some. dite (ℕ_discrete m lane)
          (λ same. dite (ℕ_discrete shard S)
          (λ e. returned-here (subst (λ (s : ℕ). s < z.lanes) e inside) thread
          (subst (λ (s : ℕ). Leads w.link s (link_to place) thread) e (subst (λ (x : ℕ). Leads w.link shard x thread) (two-here w.stack S lane (link_to place) shard m e same) leads)) q some ∙ sym same)
          (λ n. returned-off shard m inside b a (inr n) thread leads q some))
          (λ n. returned-off shard m inside b a (inl n) thread leads q some);
      last_pushed = λ shard m inside b a. chosen-two (eqb shard S && eqb m lane) (link_to place) (w.stack shard m) (link_to place) (r.pushed shard m)
          (λ x y. (x ≡ 0) ⊎ (x ≡ y)) (inr refl) (t.last_pushed shard m inside b a);
      bits = λ shard row inside. t.bits shard row inside ∙ ap (row_word shard row) (fun_ext (λ q. sym (guests-stay shard q)));
      returning = λ m b. at-lane r.under lane Nothing (λ n u. IsReturning z V K n u) m tt
          (λ other. returning-same z w V h K m (r.under m)
          (λ q i a e. (
            ap (λ (s : Spot). s.phase) (pool-off q (lane-apart m q other e)) ∙ e,
            refl,
            λ none. two-else w.stack S lane (link_to place) (shard_of q) m other ∙ none,
          )) (t.returning m b));
      chained = λ m b. chain-same z w V h K m (r.chain m)
          (λ q i own e some. (ap (λ (s : Spot). s.phase) (pool-off q (own-apart m q own e)) ∙ e, refl)) (t.chained m b);
    }
