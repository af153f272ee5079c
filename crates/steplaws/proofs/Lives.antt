-- What has to be shown of a step on a lifecycle word, so that the rule is kept.
use Rattle.std.proofs.Common.{◌≡◌, ◌≢◌, ℕ, zero, suc, ◌+◌, ◌-◌, ◌*◌, ◌<◌, ◌≤◌, ⊎_elim, nat_lt, Bool, true, false, cond, eqb, ◌&&◌, List, refl, ap, sym, ◌∙◌, subst, arith, eq-eqb}
use Rattle.std.proofs.lemmas.Bool.{cases_lt, le-ltb, lt-ltb}
use mathlib.Core.Logic.{dite}
use native.Mathlib.Decide.{ℕ_discrete}
use Rattle.keybits.specs.declared.shape.Shape.{Shape}
use Rattle.keybits.specs.declared.step.Word.TheVariants.{Life}
use Rattle.keybits.specs.Shapes.{callers, is_place}
use Rattle.keybits.specs.Keys.{place_of, generation_of, is_key}
use Rattle.keybits.specs.Counts.{sum_below}
use Rattle.keybits.specs.Words.{state_in, count_in, generation_in, claimable}
use Rattle.keybits.proofs.CountLemmas.{sum-part, sum-at, sum-bound}
use Rattle.seqpool.specs.declared.act.Act.{Act}
use Rattle.seqpool.specs.Pool.{Phase, Spot, references_in, has_key, is_published, pool_after, IsLegal}
use Rattle.steplaws.specs.declared.pending.Pending.{Pending}
use Rattle.steplaws.specs.declared.pending.Pending.TheVariants.{Nothing, Undo, Owes, Returns}
use Rattle.steplaws.specs.Facts.{put_at, Words, with_value, Lanes, with_under, moment, to_undo, bits_of, most_of, Home, Rule}
use Rattle.steplaws.proofs.Updates.{at-here, at-else, at-lane}

-- the references of all lanes, and the ENTERs to undo
abbrev pub all_refs : Shape → Phase → ℕ
all_refs z f = sum_below (callers z) (λ lane. references_in f lane)

abbrev pub all_undo : Shape → (ℕ → Pending) → ℕ → ℕ
all_undo z u place = sum_below (callers z) (λ lane. to_undo place (u lane))

-- what has to be shown of a step of a lane on the lifecycle word of a place, which becomes n
pub record StepsOn (z : Shape) (w : Words) (h k : List Act) (r : Lanes) (lane place n : ℕ) (u : Pending) : Type 0 where
  pub legal : IsLegal z k
  pub elsewhere : (q : ℕ) → q ≢ place → pool_after z k q ≡ pool_after z h q
  pub undo_elsewhere : (q : ℕ) → q ≢ place → to_undo q u ≡ to_undo q (r.under lane)
  pub count : count_in n + to_undo place (r.under lane) ≡ all_refs z (pool_after z k place).phase + all_undo z r.under place + to_undo place u
  pub state : (state_in n ≡ bits_of (pool_after z k place).phase) × (generation_in n ≡ (pool_after z k place).generation)
  pub pinned : (key : ℕ) → place_of key ≡ place → has_key z (pool_after z h) key ≡ true → 0 < all_undo z r.under place → has_key z (pool_after z k) key ≡ true
  pub own_pinned : (key : ℕ) → u ≡ Undo key true → has_key z (pool_after z k) key ≡ true
  pub own_owes : (q generation : ℕ) → r.under lane ≡ Owes q generation → q ≡ place
  pub owed : (generation : ℕ) → n ≡ claimable generation → (o : ℕ) × (o < (callers z)) × (put_at r.under lane u o ≡ Owes place generation)
  pub few : (m : ℕ) → references_in (pool_after z k place).phase m ≤ most_of z m
  pub home : Home z (with_value w (Life place) n) k (with_under r lane u)

-- then the rule is kept
pub life_keeps : (z : Shape) (w : Words) (h k : List Act) (r : Lanes) (lane place n : ℕ) (u : Pending) → lane < (callers z) → Rule z (moment w h r) → StepsOn z w h k r lane place n u
    → Rule z (moment (with_value w (Life place) n) k (with_under r lane u))
life_keeps z w h k r lane place n u below s o = record {
  limits = s.limits;
  wide = s.wide;
  legal = o.legal;
  count = λ q inside.
      let whole = sum-at (callers z) lane (λ m. to_undo q (put_at r.under lane u m)) (λ m. to_undo q (r.under m)) below
      (λ m b other. ap (to_undo q) (at-else r.under lane u m other)) in
      let new : to_undo q (put_at r.under lane u lane) ≡ to_undo q u = ap (to_undo q) (at-here r.under lane u lane refl) in
      dite (ℕ_discrete q place)
      (λ e. let word : count_in (put_at w.life place n q) ≡ count_in n = ap count_in (at-here w.life place n q e) in
      let c = o.count in
      let refs : all_refs z (pool_after z k q).phase ≡ all_refs z (pool_after z k place).phase = ap (λ (p : ℕ). all_refs z (pool_after z k p).phase) e in
      let a : to_undo q (r.under lane) ≡ to_undo place (r.under lane) = ap (λ (p : ℕ). to_undo p (r.under lane)) e in
      let b : to_undo q u ≡ to_undo place u = ap (λ (p : ℕ). to_undo p u) e in
      let d : all_undo z r.under q ≡ all_undo z r.under place = ap (λ (p : ℕ). all_undo z r.under p) e in
      omega arith)
      (λ other. let word : count_in (put_at w.life place n q) ≡ count_in (w.life q) = ap count_in (at-else w.life place n q other) in
      let old = s.count q inside in
      let refs : all_refs z (pool_after z k q).phase ≡ all_refs z (pool_after z h q).phase = ap (λ (t : Spot). all_refs z t.phase) (o.elsewhere q other) in
      let same = o.undo_elsewhere q other in
      omega arith);
  pinned = λ m key b. at-lane r.under lane u (λ x y. x < (callers z) → y ≡ Undo key true → has_key z (pool_after z k) key ≡ true) m
      (λ c e. o.own_pinned key e)
      (λ other c e. let old = s.pinned m key c e in dite (ℕ_discrete (place_of key) place)
      (λ here. o.pinned key here old (
      let one : to_undo place (r.under m) ≡ 1 = ap (to_undo place) e ∙ ap (λ (x : Bool). let i : ℕ = cond x 1 0 in i) (eq-eqb (place_of key) place here) in
      let part = sum-part (callers z) m (λ x. to_undo place (r.under x)) c in omega arith))
      (λ away. ap (λ (t : Spot). (is_key z key && eqb t.generation (generation_of key)) && is_published t.phase) (o.elsewhere (place_of key) away) ∙ old)) b;
  state = λ q inside. dite (ℕ_discrete q place)
      (λ e. subst (λ (p : ℕ). (state_in (put_at w.life place n p) ≡ bits_of (pool_after z k p).phase) × (generation_in (put_at w.life place n p) ≡ (pool_after z k p).generation)) (sym e)
      (ap state_in (at-here w.life place n place refl) ∙ o.state.0, ap generation_in (at-here w.life place n place refl) ∙ o.state.1))
      (λ other. let old = s.state q inside in (
        ap state_in (at-else w.life place n q other) ∙ (old.0 ∙ sym (ap (λ (t : Spot). bits_of t.phase) (o.elsewhere q other))),
        ap generation_in (at-else w.life place n q other) ∙ (old.1 ∙ sym (ap (λ (t : Spot). t.generation) (o.elsewhere q other))),
      ));
  owed = λ q generation inside e. dite (ℕ_discrete q place)
      (λ here. let r' = o.owed generation (sym (at-here w.life place n q here) ∙ e) in (r'.0, r'.1, r'.2 ∙ ap (λ (p : ℕ). Owes p generation) (sym here)))
      (λ other. let old = s.owed q generation inside (sym (at-else w.life place n q other) ∙ e) in
      (old.0, old.1, at-else r.under lane u old.0 (λ same. other (o.own_owes q generation (ap r.under (sym same) ∙ old.2))) ∙ old.2));
  few = λ q m. dite (ℕ_discrete q place)
      (λ e. subst (λ (p : ℕ). references_in (pool_after z k p).phase m ≤ most_of z m) (sym e) (o.few m))
      (λ other. let old = s.few q m in let same = ap (λ (t : Spot). references_in t.phase m) (o.elsewhere q other) in omega arith);
  home = o.home;
}

-- a lane has one ENTER to undo at most
undo_le : (place : ℕ) (u : Pending) → to_undo place u ≤ 1
undo_le place Nothing = omega arith
undo_le place (Undo key hit) = bit (eqb (place_of key) place)
  where
    bit : (b : Bool) → (let i : ℕ = cond b 1 0 in i) ≤ 1
    bit true = omega arith
    bit false = omega arith
undo_le place (Owes p g) = omega arith
undo_le place (Returns p l f) = omega arith

-- each caller may have one
pub most-some : (z : Shape) (k : ℕ) → 1 ≤ most_of z k
most-some z k = bit (nat_lt k z.lanes)
  where
    bit : (b : Bool) → 1 ≤ (let i : ℕ = cond b 1048575 1 in i)
    bit true = omega arith
    bit false = omega arith

-- a lane may have as many as lanes have at most
pub most-lane : (z : Shape) (lane n : ℕ) → lane < z.lanes → n < 1048575 → n < most_of z lane
most-lane z lane n below few = let is : most_of z lane ≡ 1048575 = ap (λ (b : Bool). cond b 1048575 1) (lt-ltb lane z.lanes below) in omega arith

-- what lanes have at most and what guests have
sum-most : (z : Shape) (n : ℕ) (f : ℕ → ℕ) → ((k : ℕ) → f k ≤ most_of z k) → sum_below n f ≤ z.lanes * 1048575 + (n - z.lanes)
sum-most z zero f most = omega arith
sum-most z (suc n) f most = ⊎_elim
    (λ (low : n < z.lanes).
    let rest = sum-bound (suc n) 1048575 f (λ k. let one = most k in let top = most-le z k in omega arith) in
    let wide = mul-le (suc n) z.lanes 1048575 low in omega arith)
    (λ (high : z.lanes ≤ n).
    let rest = sum-most z n f most in
    let one = most n in
    let is : most_of z n ≡ 1 = ap (λ (b : Bool). cond b 1048575 1) (le-ltb n z.lanes high) in omega arith)
    (cases_lt n z.lanes)
  where
    most-le : (z : Shape) (k : ℕ) → most_of z k ≤ 1048575
    most-le z k = bit (nat_lt k z.lanes)
      where
        bit : (b : Bool) → (let i : ℕ = cond b 1048575 1 in i) ≤ 1048575
        bit true = omega arith
        bit false = omega arith

    mul-le : (a b c : ℕ) → a ≤ b → a * c ≤ b * c
    mul-le a b c low = grind arith

-- a count has room for one more
pub count_room : (z : Shape) (w : Words) (h : List Act) (r : Lanes) → Rule z (moment w h r) → (place : ℕ) → is_place z place ≡ true → count_in (w.life place) < 1073741823
count_room z w h r s place inside =
    let few : z.lanes ≤ 64 = s.limits.lanes.1 in
    let guests : z.guests ≤ 268435456 = s.limits.guests in
    let c = s.count place inside in
    let a = sum-most z (callers z) (λ lane. references_in (pool_after z h place).phase lane) (λ lane. s.few place lane) in
    let b = sum-bound (callers z) 1 (λ lane. to_undo place (r.under lane)) (λ lane. undo_le place (r.under lane)) in
    omega arith
