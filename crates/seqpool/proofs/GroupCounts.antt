-- How many places are of a group, position after position.
use Rattle.std.proofs.Common.{◌≡◌, ◌≢◌, ℕ, suc, ◌+◌, ◌<◌, ◌≤◌, Bool, true, false, cond, ◌&&◌, nat_lt, [], ◌∷◌, refl, sym, ap, ◌∙◌, arith, eq-eqb, ne_eqb, add-one, inl, inr, List, subst}
use Rattle.std.proofs.lemmas.Bool.{cases_Bool, cases_lt, lt-ltb, le-ltb}
use mathlib.Core.Logic.{dite}
use native.Mathlib.Decide.{ℕ_discrete}
use Rattle.keybits.specs.declared.shape.Shape.{Shape}
use Rattle.keybits.specs.Shapes.{IsShape, is_place, position_of, all_places}
use Rattle.keybits.proofs.ShapeLemmas.{position_of-injective, position_of-lt}
use Rattle.seqpool.specs.declared.act.Act.{Act}
use Rattle.seqpool.specs.declared.summary.Group.{Group}
use Rattle.seqpool.specs.Pool.{Pool, has, pool_after}
use Rattle.seqpool.specs.Checker.{AreMany, AreIn}

-- the places before this position that pass the test
abbrev pub before : Shape → (ℕ → Bool) → ℕ → ℕ → Bool
before z test i x = cond (is_place z x) (cond (nat_lt (position_of z x) i) (test x) false) false

before-in : (z : Shape) (test : ℕ → Bool) (i x : ℕ) → is_place z x ≡ true → position_of z x < i → before z test i x ≡ test x
before-in z test i x is below = ap (λ b. cond b (cond (nat_lt (position_of z x) i) (test x) false) false) is ∙ ap (λ b. cond b (test x) false) (lt-ltb (position_of z x) i below)

before-past : (z : Shape) (test : ℕ → Bool) (i x : ℕ) → is_place z x ≡ true → i ≤ position_of z x → before z test i x ≡ false
before-past z test i x is past = ap (λ b. cond b (cond (nat_lt (position_of z x) i) (test x) false) false) is ∙ ap (λ b. cond b (test x) false) (le-ltb (position_of z x) i past)

before-no : (z : Shape) (test : ℕ → Bool) (i x : ℕ) → is_place z x ≡ false → before z test i x ≡ false
before-no z test i x isnt = ap (λ b. cond b (cond (nat_lt (position_of z x) i) (test x) false) false) isnt

-- any other place is before the next position where it is before this one
before-other : (z : Shape) (test : ℕ → Bool) (i place x : ℕ) → IsShape z → is_place z place ≡ true → position_of z place ≡ i → x ≢ place → before z test (i + 1) x ≡ before z test i x
before-other z test i place x checked is at other = elim (cases_Bool (is_place z x)) [
  | inl inside ↦ dite (ℕ_discrete (position_of z x) i)
      (λ same. absurd (other (position_of-injective z checked x place inside is (same ∙ sym at))))
      (λ apart. elim (cases_lt (position_of z x) i) [
        | inl below ↦ before-in z test (i + 1) x inside (omega arith) ∙ sym (before-in z test i x inside below)
        | inr past ↦ before-past z test (i + 1) x inside (omega arith) ∙ sym (before-past z test i x inside past)
      ])
  | inr outside ↦ before-no z test (i + 1) x outside ∙ sym (before-no z test i x outside)
]

module _ (z : Shape) (test : ℕ → Bool) where
  pub many-none : AreMany (before z test 0) 0
  many-none = ([], tt, λ x. sym (none x), refl)
    where
      none : (x : ℕ) → before z test 0 x ≡ false
      none x = elim (cases_Bool (is_place z x)) [ inl is ↦ before-past z test 0 x is (omega arith) | inr isnt ↦ before-no z test 0 x isnt ]

  pub many-yes : (i n place : ℕ) → IsShape z → is_place z place ≡ true → position_of z place ≡ i → test place ≡ true → AreMany (before z test i) n → AreMany (before z test (i + 1)) (n + 1)
  many-yes i n place checked is at passes (all, once, are, size) = (
    place ∷ all,
    (are place ∙ before-past z test i place is (omega arith), once),
    λ x. dite (ℕ_discrete x place)
        (λ same. ap (λ b. cond b true (has all x)) (eq-eqb x place same)
        ∙ sym (ap (before z test (i + 1)) same ∙ (before-in z test (i + 1) place is (omega arith) ∙ passes)))
        (λ other. ap (λ b. cond b true (has all x)) (ne_eqb x place other) ∙ (are x ∙ sym (before-other z test i place x checked is at other))),
    ap suc size ∙ sym (add-one n),
  )

  pub many-no : (i n place : ℕ) → IsShape z → is_place z place ≡ true → position_of z place ≡ i → test place ≡ false → AreMany (before z test i) n → AreMany (before z test (i + 1)) n
  many-no i n place checked is at fails (all, once, are, size) = (
    all,
    once,
    λ x. dite (ℕ_discrete x place)
        (λ same. are x ∙ (ap (before z test i) same ∙ (before-past z test i place is (omega arith)
        ∙ sym (ap (before z test (i + 1)) same ∙ (before-in z test (i + 1) place is (omega arith) ∙ fails)))))
        (λ other. are x ∙ sym (before-other z test i place x checked is at other)),
    size,
  )

  and-cond : (a b : Bool) → (a && b) ≡ cond a b false
  and-cond true b = refl
  and-cond false b = refl

  pub many-all : (n : ℕ) → AreMany (before z test (all_places z)) n → AreMany (λ x. is_place z x && test x) n
  many-all n (all, once, are, size) = (all, once, λ x. are x ∙ (last x ∙ sym (and-cond (is_place z x) (test x))), size)
    where
      last : (x : ℕ) → before z test (all_places z) x ≡ cond (is_place z x) (test x) false
      last x = elim (cases_Bool (is_place z x)) [
        | inl is ↦ before-in z test (all_places z) x is (position_of-lt z x is) ∙ sym (ap (λ b. cond b (test x) false) is)
        | inr isnt ↦ before-no z test (all_places z) x isnt ∙ sym (ap (λ b. cond b (test x) false) isnt)
      ]

-- what is counted in a pool after a history is counted of that history
pub count-at : (z y : Shape) (P : Pool) (history : List Act) → y ≡ z → P ≡ pool_after z history → (group : Group) (n : ℕ) → AreIn y P group n → AreIn z (pool_after z history) group n
count-at z y P history shapes pools group n counted =
    subst (λ (Q : Pool). AreIn z Q group n) pools (subst (λ (x : Shape). AreIn x P group n) shapes counted)
