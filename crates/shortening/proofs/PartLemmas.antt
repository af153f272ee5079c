-- Parts of schedules.
use Rattle.std.proofs.Common.{ℕ, suc, zero, ◌+◌, ◌<◌, ◌≤◌, List, [], ◌∷◌, ◌++◌, length, take, drop, inl, inr, refl, ◌∙◌, arith, length-append, length-drop}
use Rattle.std.proofs.lemmas.List.{length-take}
use Rattle.shortening.specs.Parts.{IsPart, without}

pub part-refl : (schedule : List ℕ) → IsPart schedule schedule
part-refl [] = tt
part-refl (entry ∷ schedule) = inl (refl, part-refl schedule)

part-behind : (part whole : List ℕ) (entry : ℕ) → IsPart part whole → IsPart part (entry ∷ whole)
part-behind [] whole entry is = tt
part-behind (first ∷ part) whole entry is = inr is

part-drop : (count : ℕ) (schedule : List ℕ) → IsPart (drop count schedule) schedule
part-drop zero schedule = part-refl schedule
part-drop (suc count) [] = tt
part-drop (suc count) (entry ∷ schedule) = part-behind (drop count schedule) schedule entry (part-drop count schedule)

part-cut : (from to : ℕ) (schedule : List ℕ) → from ≤ to → IsPart (take from schedule ++ drop to schedule) schedule
part-cut zero to schedule le = part-drop to schedule
part-cut (suc from) zero schedule le = absurd (omega arith)
part-cut (suc from) (suc to) [] le = tt
part-cut (suc from) (suc to) (entry ∷ schedule) le = inl (refl, part-cut from to schedule (omega arith))

pub part-without : (at count : ℕ) (schedule : List ℕ) → IsPart (without at count schedule) schedule
part-without at count schedule = part-cut at (at + count) schedule (omega arith)

pub part-trans : (one two three : List ℕ) → IsPart one two → IsPart two three → IsPart one three
part-trans [] two three a b = tt
part-trans (x ∷ one) [] three a b = absurd a
part-trans (x ∷ one) (y ∷ two) [] a b = absurd b
part-trans (x ∷ one) (y ∷ two) (z ∷ three) (inl (same, a)) (inl (other, b)) = inl (same ∙ other, part-trans one two three a b)
part-trans (x ∷ one) (y ∷ two) (z ∷ three) (inr a) (inl (other, b)) = inr (part-trans (x ∷ one) two three a b)
part-trans (x ∷ one) (y ∷ two) (z ∷ three) a (inr b) = inr (part-trans (x ∷ one) (y ∷ two) three a b)

pub shorter-without : (at count : ℕ) (schedule : List ℕ) → at < length schedule → 1 ≤ count → length (without at count schedule) < length schedule
shorter-without at count schedule within some =
    omega (arith, length-append (take at schedule) (drop (at + count) schedule), length-take at schedule, length-drop (at + count) schedule)
