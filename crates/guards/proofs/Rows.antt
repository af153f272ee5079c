-- Rows of lanes that were taken out, or are given back.
use Rattle.std.proofs.Common.{◌≡◌, ◌≢◌, ◌⊎◌, ℕ, zero, suc, ◌<◌, ◌≤◌, List, [], ◌∷◌, ◌++◌, length, map, slice_get, Option, Some, None, option_map, unwrap_or, refl, sym, ap, ◌∙◌, subst, ⊎_elim, inl, inr, arith, length-append, append_assoc}
use Rattle.std.proofs.lemmas.List.{length-map}
use Rattle.std.proofs.lemmas.Option.{slice_get_within, slice_get_cases, slice_get-map, unwrap_or-slice_get}
use Rattle.shardpool.specs.Tokens.{LaneOf}
use Rattle.guards.specs.Here.{LanesOf, lane_at, AreHereBelow}
use Rattle.guards.specs.Runs.{AllRan, IsDone, AreFrom, AreBack}
use Rattle.guards.proofs.Slots.{all-some}

-- an element of a list with one more at its end is of the list, or that one
pub of-longer : {A : Type 0} (xs : List A) (x y : A) (i : ℕ) → slice_get (xs ++ x ∷ []) i ≡ Some y → (slice_get xs i ≡ Some y) ⊎ ((i ≡ length xs) × (x ≡ y))
of-longer [] x y zero is = let same : x ≡ y = cc is in inr (refl, same)
of-longer [] x y (suc i) is = absurd (cc is)
of-longer (z ∷ xs) x y zero is = inl is
of-longer (z ∷ xs) x y (suc i) is = ⊎_elim inl (λ last. inr (ap suc last.0, last.1)) (of-longer xs x y i is)

-- the first of what is left stands behind what was before it
pub in-front : {A : Type 0} (all before left more : List A) (x : A) → before ++ left ≡ all → left ≡ x ∷ more → (length before < length all) × ((before ++ x ∷ []) ++ more ≡ all)
in-front all before left more x is first =
    let whole = append_assoc before (x ∷ []) more ∙ (ap (λ (list : List _). before ++ list) (sym first) ∙ is) in
    (let long = ap length whole in let wide = length-append (before ++ x ∷ []) more in let low = length-append before (x ∷ []) in omega (arith, long, wide, low), whole)

-- one lane more that was taken from its number
pub from-more : (lanes : LanesOf) (list : List LaneOf) (lane : LaneOf) → AreFrom lanes list → lane_at lanes (length list) ≡ Some lane → lane.number ≡ length list
    → AreFrom lanes (list ++ lane ∷ [])
from-more lanes list lane from at number i found is = ⊎_elim
    (λ old. from i found old)
    (λ last. (
      ap (λ (n : ℕ). lane_at lanes n) last.0 ∙ (at ∙ ap Some last.1),
      ap (λ (l : LaneOf). l.number) (sym last.1) ∙ (number ∙ sym last.0),
    ))
    (of-longer list lane found i is)

-- one lane more that stands under its number again
pub back-more : (old between new : LanesOf) (list : List LaneOf) (lane : LaneOf) → AreBack old between list → new.pool ≡ between.pool → lane.number ≡ length list
    → lane_at new lane.number ≡ Some lane → ((other : ℕ) → other ≢ lane.number → lane_at new other ≡ lane_at between other) → AreBack old new (list ++ lane ∷ [])
back-more old between new list lane back pool number here others = record {
  pool = pool ∙ back.pool;
  each = λ i found is. ⊎_elim
      (λ was. others i (let low = slice_get_within list i found was in omega (arith, low, number)) ∙ back.each i found was)
      (λ last. ap (λ (n : ℕ). lane_at new n) (last.0 ∙ sym number) ∙ (here ∙ ap Some last.1))
      (of-longer list lane found i is);
  others = λ i high. let long = length-append list (lane ∷ []) in others i (omega (arith, high, long, number)) ∙ back.others i (omega (arith, high, long));
}

-- ---- what a row of jobs came to

made-at : {A B : Type 0} (f : A → B) (xs : List A) (i : ℕ) (x : A) → slice_get xs i ≡ Some x → slice_get (map f xs) i ≡ Some (f x)
made-at f xs i x is = slice_get-map f xs i ∙ ap (option_map f) is

-- what stands in a row that was made of another is made of what stands there
made-of : {A B : Type 0} (f : A → B) (xs : List A) (i : ℕ) (y : B) → slice_get (map f xs) i ≡ Some y → (x : A) × (slice_get xs i ≡ Some x) × (f x ≡ y)
made-of f xs i y is = ⊎_elim
    (λ there. (there.0, there.2, (let same = sym (made-at f xs i there.0 there.2) ∙ is in cc same)))
    (λ gone. let none = sym (slice_get-map f xs i ∙ ap (option_map f) gone.1) ∙ is in absurd (cc none))
    (slice_get_cases xs i).1

-- what stands behind a list
stands-behind : {A : Type 0} (before more : List A) (x : A) → slice_get ((before ++ x ∷ []) ++ more) (length before) ≡ Some x
stands-behind [] more x = refl
stands-behind (y ∷ before) more x = stands-behind before more x

-- the one behind those before it is filled, where all are
pub one-of-all : {P A : Type 0} (answer_of : P → Option A) (all before more : List P) (x : P) → (before ++ x ∷ []) ++ more ≡ all → (list : List A) → map answer_of all ≡ map Some list
    → (answer : A) × (answer_of x ≡ Some answer)
one-of-all answer_of all before more x is list filled =
    let at : slice_get (map answer_of all) (length before) ≡ Some (answer_of x) = made-at answer_of all (length before) x (ap (λ (xs : List _). slice_get xs (length before)) (sym is) ∙ stands-behind before more x) in
    let found = made-of Some list (length before) (answer_of x) (ap (λ (xs : List (Option _)). slice_get xs (length before)) (sym filled) ∙ at) in
    (found.0, sym found.2)

-- and it has the number at which it stands
pub number-of : {P : Type 0} (lane_of : P → LaneOf) (all before more : List P) (x : P) → (before ++ x ∷ []) ++ more ≡ all
    → ((number : ℕ) (lane : LaneOf) → slice_get (map lane_of all) number ≡ Some lane → lane.number ≡ number) → (lane_of x).number ≡ length (map lane_of before)
number-of lane_of all before more x is numbers =
    numbers (length before) (lane_of x) (made-at lane_of all (length before) x (ap (λ (xs : List _). slice_get xs (length before)) (sym is) ∙ stands-behind before more x))
    ∙ sym (length-map before lane_of)

module _ {P J A : Type 0} (lane_of : P → LaneOf) (job_of : P → Option J) (answer_of : P → Option A) (does : J → LaneOf → LaneOf → A → Type 0)
    (jobs : List J) (before after : List P) (are : map job_of before ≡ map Some jobs) (same : length after ≡ length before)
    (done : (i : ℕ) (x y : P) → slice_get before i ≡ Some x → slice_get after i ≡ Some y → (job : J) → job_of x ≡ Some job → IsDone does job (lane_of x) (lane_of y) (answer_of y)) where
  -- what one post was, its job, and what came of it
  record Done (i : ℕ) (y : P) : Type 0 where
    was : P
    stood : slice_get before i ≡ Some was
    job : J
    asked : slice_get jobs i ≡ Some job
    is : IsDone does job (lane_of was) (lane_of y) (answer_of y)

  done-at : (i : ℕ) (y : P) → slice_get after i ≡ Some y → Done i y
  done-at i y at = ⊎_elim
      (λ there.
      let x : P = there.0 in
      let jobs_at : slice_get (map Some jobs) i ≡ Some (job_of x) = ap (λ (list : List (Option J)). slice_get list i) (sym are) ∙ made-at job_of before i x there.2 in
      let found = made-of Some jobs i (job_of x) jobs_at in
      record { was = x; stood = there.2; job = found.0; asked = found.1; is = done i x y there.2 at found.0 (sym found.2) })
      (λ gone. let low = slice_get_within after i y at in let high = gone.0 in absurd (omega (arith, low, high, same)))
      (slice_get_cases before i).1

  module _ (old : LanesOf) (from : AreFrom old (map lane_of before)) where
    -- the lanes have the numbers at which they stand
    pub done-numbers : (number : ℕ) (lane : LaneOf) → slice_get (map lane_of after) number ≡ Some lane → lane.number ≡ number
    done-numbers number lane at =
        let found = made-of lane_of after number lane at in
        let one = done-at number found.0 found.1 in
        let first = from number (lane_of one.was) (made-at lane_of before number one.was one.stood) in
        ap (λ (l : LaneOf). l.number) (sym found.2) ∙ (one.is.number ∙ first.1)

    -- every post has its answer
    pub done-answers : (list : List A) × (map answer_of after ≡ map Some list)
    done-answers = all-some (map answer_of after) (λ n low. ⊎_elim
        (λ there.
        let one = done-at n there.0 there.2 in
        (one.is.answer, sym (unwrap_or-slice_get (map answer_of after) n None) ∙ ap (λ (found : Option (Option A)). unwrap_or found None) (made-at answer_of after n there.0 there.2) ∙ one.is.is))
        (λ gone. let high = gone.0 in let long = length-map after answer_of in absurd (omega (arith, low, high, long)))
        (slice_get_cases after n).1)

    pub all-ran : (between new : LanesOf) (answers : List A) → between.pool ≡ old.pool → ((number : ℕ) → length jobs ≤ number → lane_at between number ≡ lane_at old number)
        → AreBack between new (map lane_of after) → map Some answers ≡ map answer_of after → AllRan does old new jobs answers
    all-ran between new answers pool others back gave =
        let wide : length after ≡ length jobs = same ∙ (sym (length-map before job_of) ∙ (ap length are ∙ length-map jobs Some)) in
        record {
          pool = back.pool ∙ pool;
          count = sym (length-map answers Some) ∙ (ap length gave ∙ (length-map after answer_of ∙ wide));
          each = λ number job answer asked answered.
              let found = made-of answer_of after number (Some answer) (ap (λ (list : List (Option A)). slice_get list number) (sym gave) ∙ made-at Some answers number answer answered) in
              let one = done-at number found.0 found.1 in
              let first = from number (lane_of one.was) (made-at lane_of before number one.was one.stood) in
              let job_is : one.job ≡ job = (let both = sym one.asked ∙ asked in cc both) in
              let answer_is : one.is.answer ≡ answer = (let both = sym one.is.is ∙ found.2 in cc both) in
              record {
                before = lane_of one.was;
                after = lane_of found.0;
                was = first.0;
                is = back.each number (lane_of found.0) (made-at lane_of after number found.0 found.1);
                did = subst (λ (a : A). does job (lane_of one.was) (lane_of found.0) a) answer_is (subst (λ (j : J). does j (lane_of one.was) (lane_of found.0) one.is.answer) job_is one.is.did);
              };
          others = λ number high. back.others number (let long = length-map after lane_of in omega (arith, long, wide, high)) ∙ others number high;
        }

-- a run leaves each lane here that was here
pub still-here : {J A : Type 0} {does : J → LaneOf → LaneOf → A → Type 0} (old new : LanesOf) (jobs : List J) (answers : List A) → AllRan does old new jobs answers
    → (count : ℕ) → AreHereBelow old count → AreHereBelow new count
still-here old new jobs answers ran count here low below = ⊎_elim
    (λ there. ⊎_elim
    (λ given. let one = ran.each low there.0 given.0 there.2 given.2 in (one.after, one.is))
    (λ none. let high = none.0 in let under = there.1 in let long = ran.count in absurd (omega (arith, high, under, long)))
    (slice_get_cases answers low).1)
    (λ gone. let was = here low below in (was.0, ran.others low gone.0 ∙ was.1))
    (slice_get_cases jobs low).1
