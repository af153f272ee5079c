-- How often a number is in a list, and sums below a number.
use Rattle.std.proofs.Common.{◌≡◌, ◌≢◌, ℕ, zero, suc, ◌+◌, ◌*◌, ◌<◌, ◌≤◌, Bool, cond, eqb, List, [], ◌∷◌, ◌++◌, length, map, refl, ap, sym, ◌∙◌, arith, eq-eqb, ne_eqb, suc-mul}
use mathlib.Core.Logic.{dite}
use native.Mathlib.Decide.{ℕ_discrete}
use Rattle.keybits.specs.Counts.{sum_below, times}

-- 1 where it is so, else 0
abbrev pub count_if : Bool → ℕ
count_if b = cond b 1 0

pub one_at : (x n : ℕ) → x ≡ n → count_if (eqb x n) ≡ 1
one_at x n same = ap count_if (eq-eqb x n same)

pub none_at : (x n : ℕ) → x ≢ n → count_if (eqb x n) ≡ 0
none_at x n other = ap count_if (ne_eqb x n other)

pub times-append : (n : ℕ) (xs ys : List ℕ) → times n (xs ++ ys) ≡ times n xs + times n ys
times-append n [] ys = omega arith
times-append n (x ∷ xs) ys = let rest : times n (xs ++ ys) ≡ times n xs + times n ys = times-append n xs ys in omega arith

pub times-head : (n : ℕ) (xs : List ℕ) → 0 < times n (n ∷ xs)
times-head n xs = let one : count_if (eqb n n) ≡ 1 = one_at n n refl in omega arith

pub no_times : (n : ℕ) → (0 < n → ⊥) → n ≡ 0
no_times zero h = refl
no_times (suc n) h = absurd (h (omega arith))

-- ---- sums

pub sum-none : (n : ℕ) → sum_below n (λ k. 0) ≡ 0
sum-none zero = refl
sum-none (suc n) = let rest : sum_below n (λ k. 0) ≡ 0 = sum-none n in omega arith

pub sum-add : (n : ℕ) (f g : ℕ → ℕ) → sum_below n (λ k. f k + g k) ≡ sum_below n f + sum_below n g
sum-add zero f g = refl
sum-add (suc n) f g = let rest : sum_below n (λ k. f k + g k) ≡ sum_below n f + sum_below n g = sum-add n f g in omega arith

pub sum-same : (n : ℕ) (f g : ℕ → ℕ) → ((k : ℕ) → k < n → f k ≡ g k) → sum_below n f ≡ sum_below n g
sum-same zero f g same = refl
sum-same (suc n) f g same =
    let rest : sum_below n f ≡ sum_below n g = sum-same n f g (λ k below. same k (omega arith)) in
    let last : f n ≡ g n = same n (omega arith) in
    omega arith

-- what changes at one number alone
pub sum-at : (n at : ℕ) (f g : ℕ → ℕ) → at < n → ((k : ℕ) → k < n → k ≢ at → f k ≡ g k) → sum_below n f + g at ≡ sum_below n g + f at
sum-at zero at f g below same = absurd (omega arith)
sum-at (suc n) at f g below same = dite (ℕ_discrete n at)
    (λ here.
    let rest : sum_below n f ≡ sum_below n g = sum-same n f g (λ k less. same k (omega arith) (λ e. absurd (omega arith))) in
    let left : f n ≡ f at = ap f here in
    let right : g n ≡ g at = ap g here in
    omega arith)
    (λ other.
    let rest : sum_below n f + g at ≡ sum_below n g + f at = sum-at n at f g (omega arith) (λ k less apart. same k (omega arith) apart) in
    let last : f n ≡ g n = same n (omega arith) other in
    omega arith)

pub sum-part : (n at : ℕ) (f : ℕ → ℕ) → at < n → f at ≤ sum_below n f
sum-part zero at f below = absurd (omega arith)
sum-part (suc n) at f below = dite (ℕ_discrete n at)
    (λ here. let last : f n ≡ f at = ap f here in omega arith)
    (λ other. let rest : f at ≤ sum_below n f = sum-part n at f (omega arith) in omega arith)

pub sum-le : (n : ℕ) (f : ℕ → ℕ) → ((k : ℕ) → k < n → f k ≤ 1) → sum_below n f ≤ n
sum-le zero f most = omega arith
sum-le (suc n) f most =
    let rest : sum_below n f ≤ n = sum-le n f (λ k below. most k (omega arith)) in
    let last : f n ≤ 1 = most n (omega arith) in
    omega arith

-- a sum above 0 has a part above 0
pub sum-some : (n : ℕ) (f : ℕ → ℕ) → 0 < sum_below n f → (k : ℕ) × (k < n) × (0 < f k)
sum-some zero f some = absurd (omega arith)
sum-some (suc n) f some = dite (ℕ_discrete (f n) 0)
    (λ none. let r = sum-some n f (omega arith) in (r.0, omega arith, r.2))
    (λ more. (n, omega arith, omega arith))

-- a sum of parts that are at most b
pub sum-bound : (n b : ℕ) (f : ℕ → ℕ) → ((k : ℕ) → f k ≤ b) → sum_below n f ≤ n * b
sum-bound zero b f most = omega arith
sum-bound (suc n) b f most =
    let rest = sum-bound n b f most in
    let last = most n in
    let one_more : suc n * b ≡ n * b + b = suc-mul n b ∙ omega arith in
    omega arith

sum-past : (n x : ℕ) → n ≤ x → sum_below n (λ k. count_if (eqb x k)) ≡ 0
sum-past zero x past = refl
sum-past (suc n) x past =
    let rest : sum_below n (λ k. count_if (eqb x k)) ≡ 0 = sum-past n x (omega arith) in
    let last : count_if (eqb x n) ≡ 0 = none_at x n (λ e. absurd (omega arith)) in
    omega arith

sum-one : (n x : ℕ) → x < n → sum_below n (λ k. count_if (eqb x k)) ≡ 1
sum-one zero x below = absurd (omega arith)
sum-one (suc n) x below = dite (ℕ_discrete x n)
    (λ here.
    let rest : sum_below n (λ k. count_if (eqb x k)) ≡ 0 = sum-past n x (omega arith) in
    let last : count_if (eqb x n) ≡ 1 = one_at x n here in
    omega arith)
    (λ other.
    let rest : sum_below n (λ k. count_if (eqb x k)) ≡ 1 = sum-one n x (omega arith) in
    let last : count_if (eqb x n) ≡ 0 = none_at x n other in
    omega arith)

-- a list of numbers below n has as many elements as it has of each of these
sum-times : (n : ℕ) (xs : List ℕ) → ((x : ℕ) → 0 < times x xs → x < n) → sum_below n (λ k. times k xs) ≡ length xs
sum-times n [] below = sum-none n
sum-times n (x ∷ xs) below =
    let split : sum_below n (λ k. count_if (eqb x k) + times k xs) ≡ sum_below n (λ k. count_if (eqb x k)) + sum_below n (λ k. times k xs)
    = sum-add n (λ k. count_if (eqb x k)) (λ k. times k xs) in
    let one : sum_below n (λ k. count_if (eqb x k)) ≡ 1 = sum-one n x (below x (times-head x xs)) in
    let rest : sum_below n (λ k. times k xs) ≡ length xs = sum-times n xs (λ y more. below y (omega arith)) in
    split ∙ omega arith

-- a list of numbers below n without repeats has n elements at most
pub length_le : (n : ℕ) (xs : List ℕ) → ((x : ℕ) → 0 < times x xs → x < n) → ((x : ℕ) → times x xs ≤ 1) → length xs ≤ n
length_le n xs below once =
    let all : sum_below n (λ k. times k xs) ≡ length xs = sum-times n xs below in
    let few : sum_below n (λ k. times k xs) ≤ n = sum-le n (λ k. times k xs) (λ k less. once k) in
    omega arith

-- ---- lists through a function

-- what is in a list through f is f of an element
pub record Source (f : ℕ → ℕ) (xs : List ℕ) (n : ℕ) : Type 0 where
  pub from : ℕ
  pub among : 0 < times from xs
  pub gives : f from ≡ n

pub source : (f : ℕ → ℕ) (xs : List ℕ) (n : ℕ) → 0 < times n (map f xs) → Source f xs n
source f [] n some = absurd (omega arith)
source f (x ∷ xs) n some = dite (ℕ_discrete (f x) n)
    (λ here. record { from = x; among = times-head x xs; gives = here })
    (λ other.
    let none : count_if (eqb (f x) n) ≡ 0 = none_at (f x) n other in
    let rest : Source f xs n = source f xs n (omega arith) in
    let more : 0 < times rest.from xs = rest.among in
    record { from = rest.from; among = omega arith; gives = rest.gives })

-- through a function that tells the elements apart, a list without repeats has none either
pub times-map_le : (f : ℕ → ℕ) (xs : List ℕ) → ((x y : ℕ) → 0 < times x xs → 0 < times y xs → f x ≡ f y → x ≡ y)
    → ((x : ℕ) → times x xs ≤ 1) → (n : ℕ) → times n (map f xs) ≤ 1
times-map_le f [] apart once n = omega arith
times-map_le f (x ∷ xs) apart once n = dite (ℕ_discrete (f x) n)
    (λ here.
    let one : count_if (eqb (f x) n) ≡ 1 = one_at (f x) n here in
    let none : times n (map f xs) ≡ 0 = no_times (times n (map f xs)) (λ some. clash here (source f xs n some)) in
    omega arith)
    (λ other.
    let none : count_if (eqb (f x) n) ≡ 0 = none_at (f x) n other in
    let rest : times n (map f xs) ≤ 1 = times-map_le f xs (λ a b among_a among_b same. apart a b (omega arith) (omega arith) same)
    (λ a. let all : times a (x ∷ xs) ≤ 1 = once a in omega arith) n in
    omega arith)
  where
    clash : f x ≡ n → Source f xs n → ⊥
    clash here s =
        let among : 0 < times s.from xs = s.among in
        let same : x ≡ s.from = apart x s.from (times-head x xs) (omega arith) (here ∙ sym s.gives) in
        let one : count_if (eqb x s.from) ≡ 1 = one_at x s.from same in
        let all : times s.from (x ∷ xs) ≤ 1 = once s.from in
        omega arith

pub length-map : (f : ℕ → ℕ) (xs : List ℕ) → length (map f xs) ≡ length xs
length-map f [] = refl
length-map f (x ∷ xs) = ap suc (length-map f xs)
