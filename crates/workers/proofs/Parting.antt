-- Rows that are gone through, element by element.
use Rattle.std.proofs.Common.{◌≡◌, List, [], ◌∷◌, ◌++◌, length, arith, sym, ap, ◌∙◌}
use Rattle.std.specs.Prelude.{map}
use Rattle.std.proofs.lemmas.List.{append-nil, map-append}
use Rattle.workers.proofs.Pairs.{next-first}

-- where none is left what was before is all
pub all-gone : {A : Type 0} (all before rest : List A) → all ≡ before ++ rest → length rest ≡ 0 → before ≡ all
all-gone all before [] whole none = sym (whole ∙ append-nil before)
all-gone all before (x ∷ rest) whole none = absurd (omega (arith, none))

-- the first of the rest is a part of the last that was made
pub next-made : {A B : Type 0} (part : B → A) (all : List A) (before now : List B) (rest more : List A) (made : B) → all ≡ map part before ++ rest
    → rest ≡ part made ∷ more → now ≡ before ++ made ∷ [] → all ≡ map part now ++ more
next-made part all before now rest more made whole is now_is =
    next-first all (map part before) rest more (part made) whole is
    ∙ ap (λ xs. xs ++ more) (sym (ap (λ ys. map part ys) now_is ∙ map-append part before (made ∷ [])))

-- the last part is of the first of the rest
pub next-part : {A B : Type 0} (part : A → B) (all before now : List B) (rest more : List A) (x : A) → all ≡ before ++ map part rest
    → rest ≡ x ∷ more → now ≡ before ++ part x ∷ [] → all ≡ now ++ map part more
next-part part all before now rest more x whole is now_is =
    next-first all before (map part rest) (map part more) (part x) whole (ap (λ xs. map part xs) is) ∙ ap (λ ys. ys ++ map part more) (sym now_is)

pub all-parts : {A B : Type 0} (part : A → B) (all before : List B) (rest : List A) → all ≡ before ++ map part rest → length rest ≡ 0 → before ≡ all
all-parts part all before [] whole none = sym (whole ∙ append-nil before)
all-parts part all before (x ∷ rest) whole none = absurd (omega (arith, none))
