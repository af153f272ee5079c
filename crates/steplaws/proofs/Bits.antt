-- RETURN and GATHER keep the rule.
use Rattle.std.proofs.Common.{◌≡◌, ◌≢◌, ◌⊎◌, inl, inr, ⊎_elim, ℕ, ◌+◌, ◌^◌, ◌<◌, ◌≤◌, Bool, true, false, List, [], ◌∷◌, ◌++◌, Some, None, refl, ap, sym, ◌∙◌, subst, arith, eq-eqb, ne_eqb}
use Rattle.std.proofs.lemmas.Bool.{cases_Bool}
use mathlib.Core.Path.{fun_ext}
use mathlib.Core.Logic.{dite}
use native.Mathlib.Decide.{ℕ_discrete}
use Rattle.keybits.specs.declared.shape.Shape.{Shape}
use Rattle.keybits.specs.Places.{shard_of}
use Rattle.keybits.specs.Shapes.{callers}
use Rattle.keybits.specs.Counts.{times}
use Rattle.keybits.specs.Homes.{AreHome}
use Rattle.keybits.specs.Rows.{row_place, bits_word, row_word, row_places}
use Rattle.keybits.proofs.RowLemmas.{bits-low, bits-none, bits-one, bits-same, places-from, places-once, places-some}
use Rattle.keybits.proofs.ShapeLemmas.{is_place-parts}
use Rattle.keybits.proofs.CountLemmas.{one_at}
use Rattle.seqpool.specs.declared.act.Act.{Act}
use Rattle.seqpool.specs.declared.act.Act.TheVariants as acts
use Rattle.seqpool.specs.Pool.{with, home, Spot, spot, Pool, has, AllHome, Allowed, fresh, pool_after}
use Rattle.seqpool.proofs.Growth.{pool-snoc, after-here, after-else, legal-snoc}
use Rattle.steplaws.specs.declared.pending.Pending.TheVariants.{Nothing, Returns}
use Rattle.steplaws.specs.Facts.{Words, with_bits, Lanes, with_under, Moment, moment, home_in, lane_home, guest_home, returner, IsToReturn, IsReturning, Home, Rule}
use Rattle.steplaws.specs.StepLaws.{ReturnLaw, GatherLaw, KeepsBits, row_of, bit_of}
use Rattle.steplaws.proofs.Updates.{at-here, at-else, at-lane, two-here, two-row, two-else}
use Rattle.steplaws.proofs.HomePlaces.{with-home, home-parts, home-from, home-off, home-same, not-home, has-some, has-none, repeats-none, returners-snoc, guest-part, guest-from, guest-off, guest-same, lane-off, lane-none, lane-same}
use Rattle.steplaws.proofs.Frames.{returning-same, chain-same, returned-same}
use Rattle.steplaws.proofs.Quiets.{IsQuiet, quiet-returns, quiet-nothing, alike-put, alike-self, idle-with, idle-home, quiet_keeps}
use Rattle.steplaws.proofs.Returns.{now, home-apart, lane-apart, own-apart, push_allowed}
use Rattle.steplaws.proofs.Keeping.{allowed-last, two-same}

-- a place stands in its row, at its bit, and nowhere else
place-row : (place : ℕ) → row_place (shard_of place) (row_of place) (bit_of place) ≡ place
place-row place = omega arith

one-row : (shard row bit other_row other : ℕ) → bit < 64 → other < 64 → row_place shard row bit ≡ row_place shard other_row other → (row ≡ other_row) × (bit ≡ other)
one-row shard row bit other_row other low less e = (omega arith, omega arith)

-- ---- RETURN

module _ (z : Shape) (w : Words) (h : List Act) (r : Lanes) (s : Rule z (moment w h r)) (lane place : ℕ) (below : lane < callers z) (guest : z.lanes ≤ lane)
    (is : r.under lane ≡ Returns place None false) where
  abbrev S : ℕ
  S = shard_of place

  abbrev R : ℕ
  R = row_of place

  abbrev B : ℕ
  B = bit_of place

  abbrev K : List Act
  K = h ++ acts.Home lane place ∷ []

  abbrev W : ℕ
  W = w.bits S R

  abbrev V : Words
  V = with_bits w S R (W + 2 ^ B)

  t : Home z w h r
  t = s.home

  to-return : IsToReturn z w h lane place None false
  to-return = now z w h r t lane place None false below is

  in-shard : S < z.lanes
  in-shard = (is_place-parts z place to-return.inside).0

  pool-at : (q : ℕ) → q ≡ place → pool_after z K q ≡ spot (pool_after z h q).generation home
  pool-at q e = ap (λ (P : Pool). P q) (pool-snoc z fresh h (acts.Home lane place)) ∙ after-here z (pool_after z h) (acts.Home lane place) q (eq-eqb q place e)

  pool-off : (q : ℕ) → q ≢ place → pool_after z K q ≡ pool_after z h q
  pool-off q n = ap (λ (P : Pool). P q) (pool-snoc z fresh h (acts.Home lane place)) ∙ after-else z (pool_after z h) (acts.Home lane place) q (ne_eqb q place n)

  who-off : (q : ℕ) → q ≢ place → returner K q ≡ returner h q
  who-off q n = ap (λ (f : ℕ → ℕ). f q) (returners-snoc (λ _. 0) h (acts.Home lane place)) ∙ at-else (returner h) place lane q n

  who-at : (q : ℕ) → q ≡ place → returner K q ≡ lane
  who-at q e = ap (λ (f : ℕ → ℕ). f q) (returners-snoc (λ _. 0) h (acts.Home lane place)) ∙ at-here (returner h) place lane q e

  was-away : (shard q : ℕ) → q ≡ place → home_in z h shard q ≡ false
  was-away shard q e = not-home z h shard q lane (ap (λ (p : ℕ). (pool_after z h p).phase) e ∙ to-return.with_lane)

  home-off-place : (shard q : ℕ) → q ≢ place → home_in z K shard q ≡ home_in z h shard q
  home-off-place shard q n = home-same z h shard q K (ap (λ (x : Spot). x.phase) (pool-off q n))

  -- what lanes returned stays
  lanes-stay : (shard q : ℕ) → lane_home z K shard q ≡ lane_home z h shard q
  lanes-stay shard q = dite (ℕ_discrete q place)
      (λ e. lane-none z K shard q (let who = who-at q e in omega arith) ∙ sym (lane-off z h shard q (was-away shard q e)))
      (λ n. lane-same z h shard q K (home-off-place shard q n) (who-off q n))

  -- and what guests returned, but for the place
  guests-else : (shard q : ℕ) → q ≢ place → guest_home z K shard q ≡ guest_home z h shard q
  guests-else shard q n = guest-same z h shard q K (home-off-place shard q n) (who-off q n)

  guest-now : guest_home z K S place ≡ true
  guest-now = guest-from z K S place (home-from z K S place to-return.inside refl (ap (λ (x : Spot). x.phase) (pool-at place refl))) (let who = who-at place refl in omega arith)

  row-there : (shard row : ℕ) → (shard ≢ S) ⊎ (row ≢ R) → row_word shard row (guest_home z K shard) ≡ row_word shard row (guest_home z h shard)
  row-there shard row apart = bits-same 64 (λ bit. guest_home z h shard (row_place shard row bit)) (λ bit. guest_home z K shard (row_place shard row bit))
      (λ bit low. ⊎_elim
      (λ (d : shard ≢ S). dite (ℕ_discrete (row_place shard row bit) place)
      (λ e.
      let away = was-away shard (row_place shard row bit) e in
      let off : home_in z K shard (row_place shard row bit) ≡ home_in z h shard (row_place shard row bit) =
      home-off z h shard (row_place shard row bit) K (λ own. d (sym own ∙ ap shard_of e)) in
      guest-off z K shard (row_place shard row bit) (off ∙ away) ∙ sym (guest-off z h shard (row_place shard row bit) away))
      (λ n. guests-else shard (row_place shard row bit) n))
      (λ (d : row ≢ R). dite (ℕ_discrete shard S)
      (λ same. guests-else shard (row_place shard row bit) (λ e. d (one-row shard row bit R B low (omega arith) (e ∙ (sym (place-row place) ∙ ap (λ (x : ℕ). row_place x R B) (sym same)))).0))
      (λ other. dite (ℕ_discrete (row_place shard row bit) place)
      (λ e.
      let away = was-away shard (row_place shard row bit) e in
      let off : home_in z K shard (row_place shard row bit) ≡ home_in z h shard (row_place shard row bit) =
      home-off z h shard (row_place shard row bit) K (λ own. other (sym own ∙ ap shard_of e)) in
      guest-off z K shard (row_place shard row bit) (off ∙ away) ∙ sym (guest-off z h shard (row_place shard row bit) away))
      (λ n. guests-else shard (row_place shard row bit) n)))
      apart)

  row-here : row_word S R (guest_home z K S) ≡ row_word S R (guest_home z h S) + 2 ^ B
  row-here = bits-one 64 B (λ bit. guest_home z h S (row_place S R bit)) (λ bit. guest_home z K S (row_place S R bit)) (omega arith)
      (ap (guest_home z h S) (place-row place) ∙ guest-off z h S place (was-away S place refl))
      (ap (guest_home z K S) (place-row place) ∙ guest-now)
      (λ bit other. guests-else S (row_place S R bit) (λ e. other (let both = e ∙ sym (place-row place) in omega arith)))

  word-is : W ≡ row_word S R (guest_home z h S)
  word-is = t.bits S R in-shard

  pub return-low : W + 2 ^ B < 2 ^ 64
  return-low = let now_is = row-here in let e = word-is in let low = bits-low 64 (λ bit. guest_home z K S (row_place S R bit)) in omega arith

  return_keeps : Home z V K (with_under r lane Nothing)
  return_keeps = record {
    stacks = λ shard inside. subst (λ (g : ℕ → Bool). AreHome z shard w.link (w.stack shard) g) (fun_ext (λ q. sym (lanes-stay shard q))) (t.stacks shard inside);
    returned = λ shard m inside b a. returned-same z w V h K shard m b a (t.stacks shard inside) (t.returned shard m inside b a)
        (λ q e. (refl, who-off q (home-apart z w h r t lane place None false below is shard q e))) refl;
    last_pushed = t.last_pushed;
    bits = λ shard row inside. dite (ℕ_discrete shard S)
        (λ e. dite (ℕ_discrete row R)
        (λ d. two-here w.bits S R (W + 2 ^ B) shard row e d ∙ (ap (λ (n : ℕ). n + 2 ^ B) word-is
        ∙ (sym row-here ∙ (ap (λ (x : ℕ). row_word x R (guest_home z K x)) (sym e) ∙ ap (λ (x : ℕ). row_word shard x (guest_home z K shard)) (sym d)))))
        (λ d. two-else w.bits S R (W + 2 ^ B) shard row d ∙ (t.bits shard row inside ∙ sym (row-there shard row (inr d)))))
        (λ d. two-row w.bits S R (W + 2 ^ B) shard row d ∙ (t.bits shard row inside ∙ sym (row-there shard row (inl d))));
    returning = λ m b. at-lane r.under lane Nothing (λ n u. IsReturning z V K n u) m tt
        (λ other. returning-same z w V h K m (r.under m)
        (λ q i a e. (ap (λ (x : Spot). x.phase) (pool-off q (lane-apart z w h r t lane place None false below is m q other e)) ∙ e, refl, λ none. none)) (t.returning m b));
    chained = λ m b. chain-same z w V h K m (r.chain m)
        (λ q i own e some. (ap (λ (x : Spot). x.phase) (pool-off q (own-apart z w h r t lane place None false below is m q own e)) ∙ e, refl)) (t.chained m b);
  }

  pub return-rule : Rule z (moment V K (with_under r lane Nothing))
  return-rule =
      let quiet : IsQuiet (r.under lane) = subst IsQuiet (sym is) (quiet-returns place None false) in
      quiet_keeps z w w.link w.stack V.bits h K r (with_under r lane Nothing) s
      (legal-snoc z fresh h (acts.Home lane place) s.legal below (push_allowed z w h r t lane place None false below is))
      (alike-put r.under lane Nothing quiet quiet-nothing)
      (λ q. dite (ℕ_discrete q place)
      (λ e. let at = pool-at q e in inr (
        ap (λ (x : Spot). x.generation) at,
        idle-with lane (pool_after z h q).phase (ap (λ (p : ℕ). (pool_after z h p).phase) e ∙ to-return.with_lane),
        idle-home (pool_after z K q).phase (ap (λ (x : Spot). x.phase) at),
      ))
      (λ n. inl (pool-off q n)))
      return_keeps

pub return-law : ReturnLaw
return-law z m lane place s u guest =
    let rule = return-rule z m.words m.history m.lanes s lane place u.0 guest u.1 in (
      return-low z m.words m.history m.lanes s lane place u.0 guest u.1,
      record { allowed = allowed-last z m.history (Some (acts.Home lane place)) rule.legal; rule = rule },
    )

-- ---- GATHER

positive : (n : ℕ) → n ≢ 0 → 0 < n
positive n some = omega arith

-- a place of the row that a guest returned
pub record IsTaken (z : Shape) (h : List Act) (lane row q : ℕ) : Type 0 where
  pub bit : ℕ
  pub below : bit < 64
  pub is : q ≡ row_place lane row bit
  pub guest : guest_home z h lane q ≡ true

module _ (z : Shape) (w : Words) (h : List Act) (r : Lanes) (s : Rule z (moment w h r)) (lane row : ℕ) (below : lane < z.lanes) (taken : List ℕ)
    (from : (q : ℕ) → 0 < times q taken → IsTaken z h lane row q)
    (once : (bit : ℕ) → bit < 64 → guest_home z h lane (row_place lane row bit) ≡ true → times (row_place lane row bit) taken ≡ 1) where
  abbrev set : ℕ → Bool
  set bit = guest_home z h lane (row_place lane row bit)

  abbrev H' : List Act
  H' = h ++ acts.Collect lane taken ∷ []

  abbrev E : Words
  E = with_bits w lane row 0

  taken-guest : (q : ℕ) → 0 < times q taken → guest_home z h lane q ≡ true
  taken-guest q some = (from q some).guest

  taken-home : (q : ℕ) → 0 < times q taken → home_in z h lane q ≡ true
  taken-home q some = (guest-part z h lane q (taken-guest q some)).0

  g-on : (q : ℕ) → has taken q ≡ true → pool_after z H' q ≡ spot (pool_after z h q).generation (with lane)
  g-on q e = ap (λ (P : Pool). P q) (pool-snoc z fresh h (acts.Collect lane taken)) ∙ after-here z (pool_after z h) (acts.Collect lane taken) q e

  g-stays : (q : ℕ) → has taken q ≡ false → pool_after z H' q ≡ pool_after z h q
  g-stays q e = ap (λ (P : Pool). P q) (pool-snoc z fresh h (acts.Collect lane taken)) ∙ after-else z (pool_after z h) (acts.Collect lane taken) q e

  not-taken : (q m : ℕ) → (pool_after z h q).phase ≡ with m → has taken q ≡ false
  not-taken q m e = has-none q taken (dite (ℕ_discrete (times q taken) 0) (λ none. none)
      (λ some. absurd (with-home (pool_after z h q).phase m e (home-parts z h lane q (taken-home q (positive (times q taken) some))).home)))

  g-with : (q m : ℕ) → (pool_after z h q).phase ≡ with m → (pool_after z H' q).phase ≡ with m
  g-with q m e = ap (λ (x : Spot). x.phase) (g-stays q (not-taken q m e)) ∙ e

  who-same : (q : ℕ) → returner H' q ≡ returner h q
  who-same q = ap (λ (f : ℕ → ℕ). f q) (returners-snoc (λ _. 0) h (acts.Collect lane taken))

  home-kept : (shard q : ℕ) → times q taken ≡ 0 → home_in z H' shard q ≡ home_in z h shard q
  home-kept shard q none = home-same z h shard q H' (ap (λ (x : Spot). x.phase) (g-stays q (has-none q taken none)))

  g-lanes : (shard q : ℕ) → lane_home z H' shard q ≡ lane_home z h shard q
  g-lanes shard q = dite (ℕ_discrete (times q taken) 0)
      (λ none. lane-same z h shard q H' (home-kept shard q none) (who-same q))
      (λ some.
      let high = (guest-part z h lane q (taken-guest q (positive (times q taken) some))).1 in let who = who-same q in
      lane-none z H' shard q (omega arith) ∙ sym (lane-none z h shard q high))

  -- of another row no bit changes
  g-there : (shard other : ℕ) → (shard ≢ lane) ⊎ (other ≢ row) → row_word shard other (guest_home z H' shard) ≡ row_word shard other (guest_home z h shard)
  g-there shard other apart = bits-same 64 (λ bit. guest_home z h shard (row_place shard other bit)) (λ bit. guest_home z H' shard (row_place shard other bit))
      (λ bit low. dite (ℕ_discrete (times (row_place shard other bit) taken) 0)
      (λ none. guest-same z h shard (row_place shard other bit) H' (home-kept shard (row_place shard other bit) none) (who-same (row_place shard other bit)))
      (λ some.
      let a = from (row_place shard other bit) (positive (times (row_place shard other bit) taken) some) in
      let own = (home-parts z h lane (row_place shard other bit) (taken-home (row_place shard other bit) (positive (times (row_place shard other bit) taken) some))).own in
      dite (ℕ_discrete shard lane)
      (λ same.
      let both = one-row shard other bit row a.bit low a.below (a.is ∙ ap (λ (x : ℕ). row_place x row a.bit) (sym same)) in
      absurd (⊎_elim (λ (d : shard ≢ lane). d same) (λ (d : other ≢ row). d both.0) apart))
      (λ d.
      let off : home_in z H' shard (row_place shard other bit) ≡ home_in z h shard (row_place shard other bit) =
      home-off z h shard (row_place shard other bit) H' (λ mine. d (sym mine ∙ own)) in
      guest-same z h shard (row_place shard other bit) H' off (who-same (row_place shard other bit)))))

  -- of this one none is set any more
  g-here : row_word lane row (guest_home z H' lane) ≡ 0
  g-here = bits-none 64 (λ bit. guest_home z H' lane (row_place lane row bit)) (λ bit low. ⊎_elim
      (λ (on : set bit ≡ true).
      let one = once bit low on in
      guest-off z H' lane (row_place lane row bit) (not-home z H' lane (row_place lane row bit) lane
      (ap (λ (x : Spot). x.phase) (g-on (row_place lane row bit) (has-some (row_place lane row bit) taken (omega arith))))))
      (λ (off : set bit ≡ false). dite (ℕ_discrete (times (row_place lane row bit) taken) 0)
      (λ none. guest-same z h lane (row_place lane row bit) H' (home-kept lane (row_place lane row bit) none) (who-same (row_place lane row bit)) ∙ off)
      (λ some. let bad : true ≡ false = sym (taken-guest (row_place lane row bit) (positive (times (row_place lane row bit) taken) some)) ∙ off in absurd (cc bad)))
      (cases_Bool (set bit)))

  gather_keeps : Home z E H' r
  gather_keeps = record {
    stacks = λ shard inside. subst (λ (g : ℕ → Bool). AreHome z shard w.link (w.stack shard) g) (fun_ext (λ q. sym (g-lanes shard q))) (s.home.stacks shard inside);
    returned = λ shard m inside b a. returned-same z w E h H' shard m b a (s.home.stacks shard inside) (s.home.returned shard m inside b a) (λ q e. (refl, who-same q)) refl;
    last_pushed = s.home.last_pushed;
    bits = λ shard other inside. dite (ℕ_discrete shard lane)
        (λ e. dite (ℕ_discrete other row)
        (λ d. two-here w.bits lane row 0 shard other e d
        ∙ (sym g-here ∙ (ap (λ (x : ℕ). row_word x row (guest_home z H' x)) (sym e) ∙ ap (λ (x : ℕ). row_word shard x (guest_home z H' shard)) (sym d))))
        (λ d. two-else w.bits lane row 0 shard other d ∙ (s.home.bits shard other inside ∙ sym (g-there shard other (inr d)))))
        (λ d. two-row w.bits lane row 0 shard other d ∙ (s.home.bits shard other inside ∙ sym (g-there shard other (inl d))));
    returning = λ m b. returning-same z w E h H' m (r.under m) (λ q i a e. (g-with q m e, refl, λ none. none)) (s.home.returning m b);
    chained = λ m b. chain-same z w E h H' m (r.chain m) (λ q i own e some. (g-with q m e, refl)) (s.home.chained m b);
  }

  all-home : (xs : List ℕ) → ((q : ℕ) → 0 < times q xs → home_in z h lane q ≡ true) → AllHome z (pool_after z h) lane xs
  all-home [] all = tt
  all-home (x ∷ xs) all = let one = one_at x x refl in let p = home-parts z h lane x (all x (omega arith)) in
      (p.inside, p.own, p.home, all-home xs (λ q some. all q (omega arith)))

  once-all : (q : ℕ) → times q taken ≤ 1
  once-all q = dite (ℕ_discrete (times q taken) 0) (λ none. omega arith)
      (λ some. let a = from q (positive (times q taken) some) in
      let one = once a.bit a.below (ap (guest_home z h lane) (sym a.is) ∙ a.guest) in
      let same : times q taken ≡ times (row_place lane row a.bit) taken = ap (λ (x : ℕ). times x taken) a.is in omega arith)

  gather_allowed : taken ≢ [] → Allowed z (pool_after z h) (acts.Collect lane taken)
  gather_allowed some = (some, repeats-none taken once-all, all-home taken taken-home)

  pub gather-rule : taken ≢ [] → Rule z (moment E H' r)
  gather-rule some = quiet_keeps z w w.link w.stack E.bits h H' r r s
      (legal-snoc z fresh h (acts.Collect lane taken) s.legal (omega (arith, below)) (gather_allowed some))
      (alike-self r.under)
      (λ q. dite (ℕ_discrete (times q taken) 0)
      (λ none. inl (g-stays q (has-none q taken none)))
      (λ more. let at = g-on q (has-some q taken (positive (times q taken) more)) in inr (
        ap (λ (x : Spot). x.generation) at,
        idle-home (pool_after z h q).phase (home-parts z h lane q (taken-home q (positive (times q taken) more))).home,
        idle-with lane (pool_after z H' q).phase (ap (λ (x : Spot). x.phase) at),
      )))
      gather_keeps

-- a row without a bit
nothing-rule : (z : Shape) (w : Words) (h : List Act) (r : Lanes) → Rule z (moment w h r) → (lane row : ℕ) → w.bits lane row ≡ 0
    → Rule z (moment (with_bits w lane row 0) h r)
nothing-rule z w h r s lane row none = subst (λ (b : ℕ → ℕ → ℕ). Rule z (moment record { life = w.life; link = w.link; stack = w.stack; bits = b } h r))
    (sym (two-same w.bits lane row 0 (sym none))) s

-- the places whose bits are set, by what is set
gather-by : (z : Shape) (m : Moment) (lane row : ℕ) → Rule z m → lane < z.lanes → (set : ℕ → Bool) → ((bit : ℕ) → set bit ≡ guest_home z m.history lane (row_place lane row bit))
    → bits_word 64 set ≢ 0 → KeepsBits z m lane row 0 (Some (acts.Collect lane (row_places lane row (bits_word 64 set) 64))) m.lanes
gather-by z m lane row s below set same some =
    let rule = gather-rule z m.words m.history m.lanes s lane row below (row_places lane row (bits_word 64 set) 64)
    (λ q more. let a = places-from lane row 64 set q more in record { bit = a.bit; below = a.below; is = a.is; guest = ap (guest_home z m.history lane) a.is ∙ (sym (same a.bit) ∙ a.set_is) })
    (λ bit low is. places-once lane row 64 set bit low (same bit ∙ is)) (places-some lane row 64 set some) in
    record { allowed = allowed-last z m.history (Some (acts.Collect lane (row_places lane row (bits_word 64 set) 64))) rule.legal; rule = rule }

pub gather-law : GatherLaw
gather-law z m lane row s below =
    let set : ℕ → Bool = λ bit. guest_home z m.history lane (row_place lane row bit) in
    let is : m.words.bits lane row ≡ bits_word 64 set = s.home.bits lane row below in
    let low : bits_word 64 set < 2 ^ 64 = bits-low 64 set in (
      subst (λ (n : ℕ). n < 2 ^ 64) (sym is) low,
      λ none. record { allowed = tt; rule = nothing-rule z m.words m.history m.lanes s lane row none },
      λ some. subst (λ (found : ℕ). KeepsBits z m lane row 0 (Some (acts.Collect lane (row_places lane row found 64))) m.lanes) (sym is)
          (gather-by z m lane row s below set (λ bit. refl) (λ none. some (is ∙ none))),
    )
