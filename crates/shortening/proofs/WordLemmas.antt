-- Words that stand in a text.
use Rattle.std.proofs.Common.{◌≡◌, ℕ, true, List, [], ◌∷◌, ◌++◌, refl, sym, ap, ◌∙◌, subst}
use Rattle.std.proofs.lemmas.List.{append_cancel_left}
use Rattle.shortening.specs.Words.{is_gap, BeginsWith, StandsIn}

-- a gap, and the word behind it
pub stands-here : (word : List ℕ) (byte : ℕ) (more : List ℕ) → is_gap byte ≡ true → BeginsWith word more → StandsIn word (byte ∷ more)
stands-here word byte more gap begins = record { before = []; gap = byte; is_one = gap; rest = more; is = refl; begins = begins }

-- further on
pub stands-further : (word : List ℕ) (byte : ℕ) (more : List ℕ) → StandsIn word more → StandsIn word (byte ∷ more)
stands-further word byte more in_more = record {
  before = byte ∷ in_more.before;
  gap = in_more.gap;
  is_one = in_more.is_one;
  rest = in_more.rest;
  is = ap (λ (t : List ℕ). byte ∷ t) in_more.is;
  begins = in_more.begins;
}

-- here, or further on
pub stands-later : (word : List ℕ) (byte : ℕ) (more : List ℕ) → (is_gap byte ≡ true → BeginsWith word more → ⊥) → StandsIn word (byte ∷ more) → StandsIn word more
stands-later word byte more not_here there = at there.before there.is
  where
    at : (before : List ℕ) → byte ∷ more ≡ before ++ there.gap ∷ there.rest → StandsIn word more
    at [] is =
        let same : byte ≡ there.gap = cc in
        let rest : more ≡ there.rest = cc in
        absurd (not_here (ap is_gap same ∙ there.is_one) (subst (λ (t : List ℕ). BeginsWith word t) (sym rest) there.begins))
    at (first ∷ before) is =
        let rest : more ≡ before ++ there.gap ∷ there.rest = cc in
        record { before = before; gap = there.gap; is_one = there.is_one; rest = there.rest; is = rest; begins = there.begins }

-- in no empty text
pub stands-nowhere : (word : List ℕ) → StandsIn word [] → ⊥
stands-nowhere word there = at there.before there.is
  where
    at : (before : List ℕ) → [] ≡ before ++ there.gap ∷ there.rest → ⊥
    at [] is = cc
    at (first ∷ before) is = cc

-- a text that begins with the word has what stands behind it
pub begins-behind : (word text behind : List ℕ) → text ≡ word ++ behind → BeginsWith word text → (gap : ℕ) × (is_gap gap ≡ true) × (rest : List ℕ) × (behind ≡ gap ∷ rest)
begins-behind word text behind is begins =
    (begins.gap, begins.is_one, begins.rest, append_cancel_left word behind (begins.gap ∷ begins.rest) (sym is ∙ begins.is))
