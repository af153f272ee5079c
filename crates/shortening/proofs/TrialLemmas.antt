-- Trials one after the other, and what is kept of a schedule.
use Rattle.std.proofs.Common.{◌≡◌, ◌∙◌, ℕ, ◌<◌, Bool, true, false, List, Option, length, sym}
use Rattle.std.specs.Prelude.{MatchBool}
use Rattle.shortening.specs.Parts.{IsPart, without}
use Rattle.shortening.specs.Shortest.{is_left, IsSameTrial, IsShortest, IsShortened}
use Rattle.shortening.specs.declared.short.Short.{Short}
use Rattle.shortening.proofs.PartLemmas.{part-refl, part-trans}

pub same-refl : (passes fails : List ℕ → Type 0) (tries : Option ℕ) → IsSameTrial passes fails tries passes fails tries
same-refl passes fails tries = record { passes_still = λ s h. h; passed_before = λ s h. h; failed_before = λ s h. h; endless = λ none. none }

pub same-trans : (p f : List ℕ → Type 0) (t : Option ℕ) (q g : List ℕ → Type 0) (u : Option ℕ) (r h : List ℕ → Type 0) (v : Option ℕ)
    → IsSameTrial p f t q g u → IsSameTrial q g u r h v → IsSameTrial p f t r h v
same-trans p f t q g u r h v one two = record {
  passes_still = λ s is. two.passes_still s (one.passes_still s is);
  passed_before = λ s is. one.passed_before s (two.passed_before s is);
  failed_before = λ s is. one.failed_before s (two.failed_before s is);
  endless = λ none. two.endless (one.endless none);
}

-- after some trials, what is kept of the whole passes
pub record IsKept (p f : List ℕ → Type 0) (t : Option ℕ) (q g : List ℕ → Type 0) (u : Option ℕ) (whole kept : List ℕ) : Type 0 where
  pub part : IsPart kept whole
  pub passed : q kept
  pub same : IsSameTrial p f t q g u

-- at first all of it
pub kept-first : (p f : List ℕ → Type 0) (t : Option ℕ) (whole : List ℕ) → p whole → IsKept p f t p f t whole whole
kept-first p f t whole passed = record { part = part-refl whole; passed = passed; same = same-refl p f t }

-- then a part of that, which passes
pub kept-next : (p f : List ℕ → Type 0) (t : Option ℕ) (q g : List ℕ → Type 0) (u : Option ℕ) (r h : List ℕ → Type 0) (v : Option ℕ) (whole kept left : List ℕ)
    → IsKept p f t q g u whole kept → IsPart left kept → q left → IsSameTrial q g u r h v → IsKept p f t r h v whole left
kept-next p f t q g u r h v whole kept left so_far part passed same = record {
  part = part-trans left kept whole part so_far.part;
  passed = same.passes_still left passed;
  same = same-trans p f t q g u r h v so_far.same same;
}

-- a trial that a schedule passed
pub passed-by : (told : Bool) (P Q : Type 0) → MatchBool told P Q → told ≡ true → P
passed-by true P Q says is = says
passed-by false P Q says is = cc

-- a shortest part of what is kept is one of the whole
shortest-kept : (p f : List ℕ → Type 0) (t : Option ℕ) (q g : List ℕ → Type 0) (u : Option ℕ) (whole kept short : List ℕ)
    → IsKept p f t q g u whole kept → IsShortest q g kept short → IsShortest p f whole short
shortest-kept p f t q g u whole kept short so_far is = record {
  part = part-trans short kept whole is.part so_far.part;
  passed = so_far.same.passed_before short is.passed;
  least = λ at within. so_far.same.failed_before _ (is.least at within);
}

-- what is left of what is kept is left of the whole
pub shortened-kept : (p f : List ℕ → Type 0) (t : Option ℕ) (q g : List ℕ → Type 0) (u v : Option ℕ) (whole kept : List ℕ) (short : Short)
    → IsKept p f t q g u whole kept → IsShortened q g v kept short → IsShortened p f v whole short
shortened-kept p f t q g u v whole kept short so_far is = record {
  part = part-trans short.schedule.items kept whole is.part so_far.part;
  passed = so_far.same.passed_before short.schedule.items is.passed;
  least = λ least. shortest-kept p f t q g u whole kept short.schedule.items so_far (is.least least);
  ended = is.ended;
}

-- what is kept at the end, of which no entry can go where a try is left
pub shortened-now : (p f : List ℕ → Type 0) (t : Option ℕ) (q g : List ℕ → Type 0) (u : Option ℕ) (whole : List ℕ) (short : Short)
    → IsKept p f t q g u whole short.schedule.items → short.least ≡ is_left u
    → (is_left u ≡ true → (at : ℕ) → at < length short.schedule.items → f (without at 1 short.schedule.items)) → IsShortened p f u whole short
shortened-now p f t q g u whole short so_far is stays = record {
  part = so_far.part;
  passed = so_far.same.passed_before short.schedule.items so_far.passed;
  least = λ least. record {
    part = so_far.part;
    passed = so_far.same.passed_before short.schedule.items so_far.passed;
    least = stays (sym is ∙ least);
  };
  ended = λ ended. sym is ∙ ended;
}
