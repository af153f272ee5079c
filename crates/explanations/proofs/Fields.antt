-- Parts of a text that are cut off one by one.
use Rattle.std.proofs.Common.{◌≡◌, ◌≢◌, ◌<◌, ◌∙◌, ℕ, List, [], ◌∷◌, ◌++◌, length, map, Bool, true, false, refl, sym, ap, arith, append_assoc, Bor, ◌&&◌}
use Rattle.std.specs.List.{list_all}
use Rattle.std.proofs.lemmas.Bool.{ne_eqb, eq-eqb}
use Rattle.std.proofs.lemmas.List.{length-append, map-append}
use Rattle.schedules.specs.Parts.{onto, parts_of}
use Rattle.seqpool.specs.ReadTexts.{Without}

parts_of-here : (s : ℕ) (more : List ℕ) → parts_of s (s ∷ more) ≡ [] ∷ parts_of s more
parts_of-here s more = rw (eq-eqb s s refl) refl

parts_of-other : (s byte : ℕ) (more : List ℕ) → byte ≢ s → parts_of s (byte ∷ more) ≡ onto byte (parts_of s more)
parts_of-other s byte more other = rw (ne_eqb byte s other) refl

-- the first part, and those behind its separator
pub parts_of-cut : (s : ℕ) (front after : List ℕ) → Without s front → parts_of s (front ++ s ∷ after) ≡ front ∷ parts_of s after
parts_of-cut s [] after h = parts_of-here s after
parts_of-cut s (byte ∷ front) after h = parts_of-other s byte (front ++ s ∷ after) h.0 ∙ ap (onto byte) (parts_of-cut s front after h.1)

-- a text without a separator is one part
pub parts_of-one : (s : ℕ) (text : List ℕ) → Without s text → parts_of s text ≡ text ∷ []
parts_of-one s [] h = refl
parts_of-one s (byte ∷ more) h = parts_of-other s byte more h.0 ∙ ap (onto byte) (parts_of-one s more h.1)

-- what is behind a separator is shorter
pub shorter : (s : ℕ) (text front after : List ℕ) → text ≡ front ++ s ∷ after → length after < length text
shorter s text front after is = omega (arith, length-append front (s ∷ after), ap length is)

cut_off : (s : ℕ) (rest part after : List ℕ) → rest ≡ part ++ s ∷ after → Without s part → parts_of s rest ≡ part ∷ parts_of s after
cut_off s rest part after is one = ap (parts_of s) is ∙ parts_of-cut s part after one

and_true : (b : Bool) → (b && true) ≡ b
and_true true = refl
and_true false = refl

module _ (p : List ℕ → Bool) (s : ℕ) where
  -- a part fails the test
  pub all-no : (rest part after : List ℕ) → rest ≡ part ++ s ∷ after → Without s part → p part ≡ false → list_all p (parts_of s rest) ≡ false
  all-no rest part after is one fails = ap (list_all p) (cut_off s rest part after is one) ∙ rw fails refl

  -- a part passes it
  pub all-more : (rest part after : List ℕ) → rest ≡ part ++ s ∷ after → Without s part → p part ≡ true → list_all p (parts_of s after) ≡ list_all p (parts_of s rest)
  all-more rest part after is one passes = sym (ap (list_all p) (cut_off s rest part after is one) ∙ rw passes refl)

  -- the last part says it
  pub all-one : (text : List ℕ) → Without s text → list_all p (parts_of s text) ≡ p text
  all-one text one = ap (list_all p) (parts_of-one s text one) ∙ and_true (p text)

-- one field more
pub fields-more : (fields new : List (Bor (List ℕ))) (field : Bor (List ℕ)) (line rest after : List ℕ) → new ≡ fields ++ field ∷ []
    → rest ≡ field.now ++ 32 ∷ after → Without 32 field.now → map (λ f. f.now) fields ++ parts_of 32 rest ≡ parts_of 32 line
    → map (λ f. f.now) new ++ parts_of 32 after ≡ parts_of 32 line
fields-more fields new field line rest after grown is one so_far =
    ap (λ (xs : List (Bor (List ℕ))). map (λ f. f.now) xs ++ parts_of 32 after) grown
    ∙ ap (λ (xs : List (List ℕ)). xs ++ parts_of 32 after) (map-append (λ (f : Bor (List ℕ)). f.now) fields (field ∷ []))
    ∙ append_assoc (map (λ f. f.now) fields) (field.now ∷ []) (parts_of 32 after)
    ∙ ap (λ (ps : List (List ℕ)). map (λ f. f.now) fields ++ ps) (sym (cut_off 32 rest field.now after is one)) ∙ so_far

-- the last field
pub fields-end : (fields new : List (Bor (List ℕ))) (rest : Bor (List ℕ)) (line : List ℕ) → new ≡ fields ++ rest ∷ [] → Without 32 rest.now
    → map (λ f. f.now) fields ++ parts_of 32 rest.now ≡ parts_of 32 line → map (λ f. f.now) new ≡ parts_of 32 line
fields-end fields new rest line grown one so_far =
    ap (map (λ (f : Bor (List ℕ)). f.now)) grown ∙ map-append (λ (f : Bor (List ℕ)). f.now) fields (rest ∷ [])
    ∙ ap (λ (ps : List (List ℕ)). map (λ f. f.now) fields ++ ps) (sym (parts_of-one 32 rest.now one)) ∙ so_far
