-- A lane's stop, as it is read from the front of a schedule.
use Rattle.std.proofs.Common.{◌≡◌, ◌==◌, ℕ, zero, suc, ◌+◌, ◌-◌, ◌<◌, ◌≤◌, Bool, true, false, not, cond, min, List, [], ◌∷◌, ◌++◌, length, drop, get_or, ne_eqb, refl, sym, ap, ◌∙◌, arith}
use Rattle.std.proofs.lemmas.Bool.{eq-eqb}
use Rattle.std.proofs.lemmas.List.{append-nil, drop_all, drop_more}
use Rattle.std.proofs.lemmas.List.Sums.{sum_by-cons}
use Rattle.schedules.specs.Stops.{turns_of, without, IsStopped}

-- what is left of a schedule whose lane has k entries to go
abbrev pub stopped : ℕ → ℕ → List ℕ → List ℕ
stopped lane k [] = []
stopped lane zero (entry ∷ more) = cond (entry == lane) (stopped lane zero more) (entry ∷ stopped lane zero more)
stopped lane (suc k) (entry ∷ more) = cond (entry == lane) (entry ∷ stopped lane k more) (entry ∷ stopped lane (suc k) more)

stopped-none : (lane : ℕ) (schedule : List ℕ) → stopped lane 0 schedule ≡ without lane schedule
stopped-none lane [] = refl
stopped-none lane (entry ∷ more) = at (entry == lane) (stopped-none lane more)
  where
    at : (b : Bool) → stopped lane 0 more ≡ without lane more
        → cond b (stopped lane 0 more) (entry ∷ stopped lane 0 more) ≡ cond (not b) (entry ∷ without lane more) (without lane more)
    at true same = same
    at false same = ap (λ xs. entry ∷ xs) same

turns_of-cons : (lane entry : ℕ) (more : List ℕ) → turns_of lane (entry ∷ more) ≡ cond (entry == lane) 1 0 + turns_of lane more
turns_of-cons lane entry more = sum_by-cons (λ x. cond (x == lane) 1 0) entry more

-- one entry in front of a schedule whose lane stops; it is one of the lane's, or none
ahead : (lane k j entry one : ℕ) (more rest : List ℕ) → IsStopped lane j more rest → cond (entry == lane) 1 0 ≡ one
    → one + min j (turns_of lane more) ≡ min k (one + turns_of lane more) → IsStopped lane k (entry ∷ more) (entry ∷ rest)
ahead lane k j entry one more rest there is_one same = record {
  front = entry ∷ there.front;
  back = there.back;
  whole = ap (λ xs. entry ∷ xs) there.whole;
  turns = with_one there.front ∙ ap (λ n. one + n) there.turns ∙ same ∙ sym (ap (λ n. min k n) (with_one more));
  is = ap (λ xs. entry ∷ xs) there.is;
}
  where
    with_one : (xs : List ℕ) → turns_of lane (entry ∷ xs) ≡ one + turns_of lane xs
    with_one xs = turns_of-cons lane entry xs ∙ ap (λ n. n + turns_of lane xs) is_one

pub stopped-is : (lane k : ℕ) (schedule : List ℕ) → IsStopped lane k schedule (stopped lane k schedule)
stopped-is lane k [] = record { front = []; back = []; whole = refl; turns = omega arith; is = refl }
stopped-is lane zero (entry ∷ more) =
    record { front = []; back = entry ∷ more; whole = refl; turns = omega arith; is = stopped-none lane (entry ∷ more) }
stopped-is lane (suc k) (entry ∷ more) = at (entry == lane) refl (stopped-is lane k more) (stopped-is lane (suc k) more)
  where
    at : (b : Bool) → (entry == lane) ≡ b → IsStopped lane k more (stopped lane k more) → IsStopped lane (suc k) more (stopped lane (suc k) more)
        → IsStopped lane (suc k) (entry ∷ more) (cond b (entry ∷ stopped lane k more) (entry ∷ stopped lane (suc k) more))
    at true e fewer same = ahead lane (suc k) k entry 1 more (stopped lane k more) fewer (rw e refl) (omega arith)
    at false e fewer same = ahead lane (suc k) (suc k) entry 0 more (stopped lane (suc k) more) same (rw e refl) (omega arith)

stopped-nothing : (lane left : ℕ) → stopped lane left [] ≡ []
stopped-nothing lane left = refl

-- no entry is left
pub stopped-end : (lane k left i : ℕ) (schedule done : List ℕ) → done ++ stopped lane left (drop i schedule) ≡ stopped lane k schedule → length schedule ≤ i
    → IsStopped lane k schedule done
stopped-end lane k left i schedule done so_far past =
    let all : done ≡ stopped lane k schedule =
    sym (append-nil done) ∙ sym (ap (λ rest. done ++ stopped lane left rest) (drop_all i schedule past) ∙ ap (λ rest. done ++ rest) (stopped-nothing lane left)) ∙ so_far in
    rw all (stopped-is lane k schedule)

at-own : (lane entry left : ℕ) (more : List ℕ) → entry ≡ lane → ¬ (left ≡ 0) → stopped lane left (entry ∷ more) ≡ entry ∷ stopped lane (left - 1) more
at-own lane entry zero more own some = absurd (some refl)
at-own lane entry (suc left) more own some =
    let is : (entry == lane) ≡ true = eq-eqb entry lane own in
    let less : suc left - 1 ≡ left = omega arith in
    rw (is, less) refl

at-last : (lane entry left : ℕ) (more : List ℕ) → entry ≡ lane → left ≡ 0 → stopped lane left (entry ∷ more) ≡ stopped lane left more
at-last lane entry zero more own none = let is : (entry == lane) ≡ true = eq-eqb entry lane own in rw is refl
at-last lane entry (suc left) more own none = absurd (cc none)

at-other : (lane entry left : ℕ) (more : List ℕ) → ¬ (entry ≡ lane) → stopped lane left (entry ∷ more) ≡ entry ∷ stopped lane left more
at-other lane entry zero more other = let is : (entry == lane) ≡ false = ne_eqb entry lane other in rw is refl
at-other lane entry (suc left) more other = let is : (entry == lane) ≡ false = ne_eqb entry lane other in rw is refl

module _ (lane left at : ℕ) (schedule : List ℕ) (none : ℕ) (within : at < length schedule) where
  -- an entry of the lane, which has some to go
  pub kept-own : get_or schedule at none ≡ lane → ¬ (left ≡ 0)
      → stopped lane left (drop at schedule) ≡ get_or schedule at none ∷ stopped lane (left - 1) (drop (at + 1) schedule)
  kept-own own some = ap (stopped lane left) (drop_more schedule at none within) ∙ at-own lane _ left _ own some

  -- an entry of another lane
  pub kept-other : ¬ (get_or schedule at none ≡ lane)
      → stopped lane left (drop at schedule) ≡ get_or schedule at none ∷ stopped lane left (drop (at + 1) schedule)
  kept-other other = ap (stopped lane left) (drop_more schedule at none within) ∙ at-other lane _ left _ other

  -- an entry of the lane, which has none to go
  pub not-kept : get_or schedule at none ≡ lane → left ≡ 0 → stopped lane left (drop at schedule) ≡ stopped lane left (drop (at + 1) schedule)
  not-kept own end = ap (stopped lane left) (drop_more schedule at none within) ∙ at-last lane _ left _ own end
