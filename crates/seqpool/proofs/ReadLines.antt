-- Lines of a text, the last of which may lack its line feed.
use Rattle.std.proofs.Common.{◌≡◌, ℕ, ◌<◌, List, [], ◌∷◌, ◌++◌, length, sym, ap, ◌∙◌, append_assoc, append-nil, ◌⊎◌, inl, inr}
use Rattle.seqpool.specs.ActsText.{IsUpToLineFeed}
use Rattle.seqpool.specs.ReadTexts.{Without, IsFirstLine}
use Rattle.seqpool.proofs.Parts.{one-cut, uncut}

-- a line has a byte, and no line feed
pub record IsLine (line : List ℕ) : Type 0 where
  pub some : 0 < length line
  pub one : Without 10 line

-- a line with its line feed, and what comes after it
abbrev pub lined : List ℕ → List ℕ → List ℕ
lined line rest = (line ++ 10 ∷ []) ++ rest

pub lined-is : (line rest : List ℕ) → lined line rest ≡ line ++ 10 ∷ rest
lined-is line rest = append_assoc line (10 ∷ []) rest

pub lined-end : (line rest : List ℕ) → lined line rest ++ 10 ∷ [] ≡ line ++ 10 ∷ (rest ++ 10 ∷ [])
lined-end line rest = simp append_assoc

fed : (text other : List ℕ) → text ≡ other → text ++ 10 ∷ [] ≡ other ++ 10 ∷ []
fed text other is = ap (λ (xs : List ℕ). xs ++ 10 ∷ []) is

-- the first line of a text that begins with a line is that line
pub first-split : (line rest text other more : List ℕ) → IsFirstLine line rest text → Without 10 other
    → IsUpToLineFeed text (lined other more) → (line ≡ other) × IsUpToLineFeed rest more
first-split line rest text other more first none up = at first.is up
  where
    at : (text ≡ line ++ 10 ∷ rest) ⊎ ((text ≡ line) × (rest ≡ [])) → IsUpToLineFeed text (lined other more)
        → (line ≡ other) × IsUpToLineFeed rest more
    at (inl is) (inl whole) =
        let cuts = one-cut 10 line rest other more first.one none (sym is ∙ (whole ∙ lined-is other more)) in
        (cuts.0, inl cuts.1)
    at (inl is) (inr lacking) =
        let cuts = one-cut 10 line (rest ++ 10 ∷ []) other more first.one none
        (sym (append_assoc line (10 ∷ rest) (10 ∷ [])) ∙ (fed (line ++ 10 ∷ rest) text (sym is) ∙ (lacking ∙ lined-is other more))) in
        (cuts.0, inr cuts.1)
    at (inr (is, empty)) (inl whole) = absurd (uncut 10 line other more first.one (sym is ∙ (whole ∙ lined-is other more)))
    at (inr (is, empty)) (inr lacking) =
        let cuts = one-cut 10 line [] other more first.one none (fed line text (sym is) ∙ (lacking ∙ lined-is other more)) in
        (cuts.0, inl (empty ∙ cuts.1))

-- a text begins with its first line, and goes on as its rest does
pub first-join : (line rest text more : List ℕ) → IsFirstLine line rest text → IsUpToLineFeed rest more → (rest ≡ [] → more ≡ [])
    → IsUpToLineFeed text (lined line more)
first-join line rest text more first up none = at first.is up
  where
    at : (text ≡ line ++ 10 ∷ rest) ⊎ ((text ≡ line) × (rest ≡ [])) → IsUpToLineFeed rest more → IsUpToLineFeed text (lined line more)
    at (inl is) (inl whole) = inl (is ∙ (ap (λ (xs : List ℕ). line ++ 10 ∷ xs) whole ∙ sym (lined-is line more)))
    at (inl is) (inr lacking) =
        inr (fed text (line ++ 10 ∷ rest) is ∙ (append_assoc line (10 ∷ rest) (10 ∷ [])
        ∙ (ap (λ (xs : List ℕ). line ++ 10 ∷ xs) lacking ∙ sym (lined-is line more))))
    at (inr (is, empty)) _ =
        inr (fed text line is ∙ (sym (append-nil (line ++ 10 ∷ [])) ∙ ap (λ (xs : List ℕ). lined line xs) (sym (none empty))))

-- two rests are one, but for a line feed at the end
abbrev pub AreAlike : List ℕ → List ℕ → Type 0
AreAlike rest other = (rest ≡ other) ⊎ ((rest ++ 10 ∷ [] ≡ other) ⊎ (other ++ 10 ∷ [] ≡ rest))

-- a text begins with one line
pub heads-same : (bytes line rest other more : List ℕ) → Without 10 line → Without 10 other → IsUpToLineFeed bytes (lined line rest)
    → IsUpToLineFeed bytes (lined other more) → (line ≡ other) × AreAlike rest more
heads-same bytes line rest other more one none (inl whole) (inl all) =
    let cuts = one-cut 10 line rest other more one none (sym (lined-is line rest) ∙ (sym whole ∙ (all ∙ lined-is other more))) in
    (cuts.0, inl cuts.1)
heads-same bytes line rest other more one none (inl whole) (inr lacking) =
    let cuts = one-cut 10 line (rest ++ 10 ∷ []) other more one none
    (sym (lined-end line rest) ∙ (fed (lined line rest) bytes (sym whole) ∙ (lacking ∙ lined-is other more))) in
    (cuts.0, inr (inl cuts.1))
heads-same bytes line rest other more one none (inr lacking) (inl whole) =
    let cuts = one-cut 10 other (more ++ 10 ∷ []) line rest none one
    (sym (lined-end other more) ∙ (fed (lined other more) bytes (sym whole) ∙ (lacking ∙ lined-is line rest))) in
    (sym cuts.0, inr (inr cuts.1))
heads-same bytes line rest other more one none (inr lacking) (inr lacks) =
    let cuts = one-cut 10 line rest other more one none (sym (lined-is line rest) ∙ (sym lacking ∙ (lacks ∙ lined-is other more))) in
    (cuts.0, inl cuts.1)
