-- Places with commas between them.
use Rattle.std.proofs.Common.{◌≡◌, ℕ, ◌<◌, List, [], ◌∷◌, ◌++◌, decimal, codes, refl, sym, ap, ◌∙◌, arith, append_assoc}
use Rattle.std.specs.List.{AllByRecursion}
use Rattle.keybits.specs.declared.place.TheConstants.{GREATEST_PLACE}
use Rattle.seqpool.specs.ActsText.{places_text, IsPlaceNumber}
use Rattle.seqpool.specs.ReadTexts.{Without, NothingHas, ArePlaces}
use Rattle.seqpool.proofs.Parts.{IsCut, Without-append, one-cut, uncut, IsFirst}
use Rattle.seqpool.proofs.Numbers.{IsNoNumber, place-same, place-Without}

places_text-more : (p q : ℕ) (more : List ℕ) → places_text (p ∷ q ∷ more) ≡ decimal p ++ 44 ∷ places_text (q ∷ more)
places_text-more p q more = append_assoc (decimal p) (codes ",") (places_text (q ∷ more))

-- one place has no comma
one-place : (p : ℕ) (s a b : List ℕ) → IsPlaceNumber p → s ≡ decimal p → s ≡ a ++ 44 ∷ b → ⊥
one-place p s a b low is cuts = uncut 44 (decimal p) a b (place-Without 44 p (omega arith) low) (sym is ∙ cuts)

-- the first comma of several places is behind the first of them
first-comma : (p q : ℕ) (more s front after : List ℕ) → IsPlaceNumber p → s ≡ places_text (p ∷ q ∷ more) → IsCut 44 s front after
    → (front ≡ decimal p) × (after ≡ places_text (q ∷ more))
first-comma p q more s front after low is (cuts, one) =
    one-cut 44 front after (decimal p) (places_text (q ∷ more)) one (place-Without 44 p (omega arith) low)
    (sym cuts ∙ (is ∙ places_text-more p q more))

-- what a comma cuts off is the first place
pub places-first : (p : ℕ) (s front after : List ℕ) → IsCut 44 s front after → IsPlaceNumber p × (front ≡ decimal p)
    → IsFirst ArePlaces p s after
places-first p s front after cuts (low, written) = record { on = on; only = only }
  where
    on : (more : List ℕ) → ArePlaces more after → ArePlaces (p ∷ more) s
    on [] h = absurd (h.0 refl)
    on (q ∷ more) h = (
      (λ none. absurd (cc)),
      (low, h.1),
      cuts.0 ∙ (ap (λ (xs : List ℕ). xs ++ 44 ∷ after) written
          ∙ (ap (λ (xs : List ℕ). decimal p ++ 44 ∷ xs) h.2 ∙ sym (places_text-more p q more))),
    )

    only : (all : List ℕ) → ArePlaces all s → (more : List ℕ) × (all ≡ p ∷ more) × ArePlaces more after
    only [] h = absurd (h.0 refl)
    only (q ∷ []) h = absurd (one-place q s front after h.1.0 h.2 cuts.0)
    only (q ∷ r ∷ more) h =
        let (first, others) = first-comma q r more s front after h.1.0 h.2 cuts in
        (r ∷ more, ap (λ (x : ℕ). x ∷ r ∷ more) (place-same q p h.1.0 low (sym first ∙ written)), ((λ none. absurd (cc)), h.1.1, others))

-- what a comma cuts off is no place
pub places-never : (s front after : List ℕ) → IsCut 44 s front after → IsNoNumber GREATEST_PLACE front → NothingHas ArePlaces s
places-never s front after cuts never [] h = h.0 refl
places-never s front after cuts never (q ∷ []) h = one-place q s front after h.1.0 h.2 cuts.0
places-never s front after cuts never (q ∷ r ∷ more) h = never q h.1.0 (first-comma q r more s front after h.1.0 h.2 cuts).0

-- the last part is a place
pub places-last : (p : ℕ) (s : List ℕ) → IsPlaceNumber p × (s ≡ decimal p) → ArePlaces (p ∷ []) s
places-last p s (low, is) = ((λ none. absurd (cc)), (low, tt), is)

-- the last part is no place
pub places-never-last : (s : List ℕ) → Without 44 s → IsNoNumber GREATEST_PLACE s → NothingHas ArePlaces s
places-never-last s one never [] h = h.0 refl
places-never-last s one never (q ∷ []) h = never q h.1.0 h.2
places-never-last s one never (q ∷ r ∷ more) h =
    uncut 44 s (decimal q) (places_text (r ∷ more)) one (h.2 ∙ places_text-more q r more)

-- a text is that of one list of places
pub places-same : (ps qs text : List ℕ) → ArePlaces ps text → ArePlaces qs text → ps ≡ qs
places-same [] qs text one two = absurd (one.0 refl)
places-same (p ∷ ps) [] text one two = absurd (two.0 refl)
places-same (p ∷ []) (q ∷ []) text one two = ap (λ (x : ℕ). x ∷ []) (place-same p q one.1.0 two.1.0 (sym one.2 ∙ two.2))
places-same (p ∷ []) (q ∷ r ∷ qs) text one two =
    absurd (one-place p text (decimal q) (places_text (r ∷ qs)) one.1.0 one.2 (two.2 ∙ places_text-more q r qs))
places-same (p ∷ r ∷ ps) (q ∷ []) text one two =
    absurd (one-place q text (decimal p) (places_text (r ∷ ps)) two.1.0 two.2 (one.2 ∙ places_text-more p r ps))
places-same (p ∷ r ∷ ps) (q ∷ t ∷ qs) text one two =
    let (first, others) = first-comma q t qs text (decimal p) (places_text (r ∷ ps)) two.1.0 two.2
    (one.2 ∙ places_text-more p r ps, place-Without 44 p (omega arith) one.1.0) in
    let rest = places-same (r ∷ ps) (t ∷ qs) (places_text (r ∷ ps)) ((λ none. absurd (cc)), one.1.1, refl) ((λ none. absurd (cc)), two.1.1, others) in
    ap (λ (x : ℕ). x ∷ r ∷ ps) (place-same p q one.1.0 two.1.0 first) ∙ ap (λ (xs : List ℕ). q ∷ xs) rest

pub places-Without : (separator : ℕ) (ps : List ℕ) → separator < 44 → AllByRecursion IsPlaceNumber ps → Without separator (places_text ps)
places-Without separator [] low all = tt
places-Without separator (p ∷ []) low all = place-Without separator p (omega arith) all.0
places-Without separator (p ∷ q ∷ more) low all =
    Without-append separator (decimal p ++ codes ",") (places_text (q ∷ more))
    (Without-append separator (decimal p) (codes ",") (place-Without separator p (omega arith) all.0) ((λ same. omega (arith, same)), tt))
    (places-Without separator (q ∷ more) low all.1)
