-- Lines of shapes.
use Rattle.std.proofs.Common.{◌≡◌, ◌≢◌, ℕ, ◌≤◌, List, [], ◌∷◌, ◌++◌, Bool, true, false, decimal, codes, refl, sym, ap, ◌∙◌, arith, subst, append_assoc, ◌⊎◌, inl, inr}
use Rattle.std.proofs.lemmas.List.{append_cancel_left, append_cancel_right}
use Rattle.keybits.specs.declared.shape.Shape.{Shape}
use Rattle.seqpool.specs.ActsText.{shape_line, AreNumbers, IsShapeText}
use Rattle.seqpool.specs.ReadTexts.{Without, spaced, NothingHas, IsShapeOf, AreLast}
use Rattle.seqpool.proofs.Parts.{IsCut, Without-append, spaced-Without, lacks-Without, one-cut, uncut}
use Rattle.seqpool.proofs.Numbers.{IsNoNumber, IsLed, IsNotLed, one-u32, u32-same, u32-Without}

-- the numbers of a shape behind its word

abbrev behind_first_page : Shape → List ℕ → List ℕ
behind_first_page z ending = spaced (decimal z.pages) ending

abbrev behind_lanes : Shape → List ℕ → List ℕ
behind_lanes z ending = spaced (decimal z.first_page) (behind_first_page z ending)

abbrev all_numbers : Shape → List ℕ → List ℕ
all_numbers z ending = spaced (decimal z.lanes) (behind_lanes z ending)

regroup : (s a b c d : List ℕ) → ((((((s ++ a) ++ 32 ∷ []) ++ b) ++ 32 ∷ []) ++ c) ++ 32 ∷ []) ++ d ≡ s ++ spaced a (spaced b (spaced c d))
regroup s a b c d = simp append_assoc

regroup-tagged : (s a b c d e : List ℕ) → ((((((((s ++ a) ++ 32 ∷ []) ++ b) ++ 32 ∷ []) ++ c) ++ 32 ∷ []) ++ d) ++ 32 ∷ []) ++ e
    ≡ s ++ spaced a (spaced b (spaced c (spaced d e)))
regroup-tagged s a b c d e = simp append_assoc

-- what an ending may be
abbrev ending_text : Shape → Bool → List ℕ
ending_text z true = spaced (decimal z.last_generation) (decimal z.tag)
ending_text z false = decimal z.last_generation

shape_line-parts : (z : Shape) (tagged : Bool) → shape_line z tagged ≡ codes "shape " ++ all_numbers z (ending_text z tagged)
shape_line-parts z true =
    regroup-tagged (codes "shape ") (decimal z.lanes) (decimal z.first_page) (decimal z.pages) (decimal z.last_generation) (decimal z.tag)
shape_line-parts z false = regroup (codes "shape ") (decimal z.lanes) (decimal z.first_page) (decimal z.pages) (decimal z.last_generation)

-- a line is the word, three numbers and an ending
record IsParted (z : Shape) (line : List ℕ) : Type 0 where
  pub ending : List ℕ
  pub last : AreLast (z.last_generation, z.tag) ending
  pub is : line ≡ codes "shape " ++ all_numbers z ending

parted : (z : Shape) (line : List ℕ) → IsShapeOf z line → IsParted z line
parted z line (numbers, inl tagged) = record {
  ending = ending_text z true;
  last = (numbers.last_generation, numbers.tag, inl refl);
  is = append_cancel_right line (shape_line z true) (codes "\n") tagged ∙ shape_line-parts z true;
}
parted z line (numbers, inr (none, untagged)) = record {
  ending = ending_text z false;
  last = (numbers.last_generation, numbers.tag, inr (none, refl));
  is = append_cancel_right line (shape_line z false) (codes "\n") untagged ∙ shape_line-parts z false;
}

line-of : (z : Shape) (tagged : Bool) (text c : List ℕ) → text ≡ all_numbers z c → c ≡ ending_text z tagged
    → (codes "shape " ++ text) ++ codes "\n" ≡ shape_line z tagged ++ codes "\n"
line-of z tagged text c is last =
    ap (λ (xs : List ℕ). (codes "shape " ++ xs) ++ codes "\n") (is ∙ ap (all_numbers z) last)
    ∙ ap (λ (xs : List ℕ). xs ++ codes "\n") (sym (shape_line-parts z tagged))

-- the line of these numbers
pub shape-of : (z : Shape) (text a b c : List ℕ) → z.guests ≡ 0 → IsLed 4294967295 z.lanes text a → IsLed 4294967295 z.first_page a b
    → IsLed 4294967295 z.pages b c → AreLast (z.last_generation, z.tag) c → IsShapeOf z (codes "shape " ++ text)
shape-of z text a b c alone (one, first) (two, second) (three, third) (four, five, last) = (
  record { lanes = one; first_page = two; pages = three; last_generation = four; tag = five; alone = alone },
  at last,
)
  where
    is : text ≡ all_numbers z c
    is =
        first ∙ (ap (λ (xs : List ℕ). spaced (decimal z.lanes) xs) second
        ∙ ap (λ (xs : List ℕ). spaced (decimal z.lanes) (spaced (decimal z.first_page) xs)) third)

    at : (c ≡ ending_text z true) ⊎ ((z.tag ≡ 0) × (c ≡ ending_text z false)) → IsShapeText z ((codes "shape " ++ text) ++ codes "\n")
    at (inl tagged) = inl (line-of z true text c is tagged)
    at (inr (none, untagged)) = inr (none, line-of z false text c is untagged)

-- where a line is refused

pub shape-uncut : (line : List ℕ) → Without 32 line → NothingHas IsShapeOf line
shape-uncut line none z has = let p = parted z line has in uncut 32 line (codes "shape") (all_numbers z p.ending) none p.is

pub shape-unworded : (line a b : List ℕ) → IsCut 32 line a b → a ≢ codes "shape" → NothingHas IsShapeOf line
shape-unworded line a b (cuts, one) other z has =
    let p = parted z line has in
    other (one-cut 32 a b (codes "shape") (all_numbers z p.ending) one (lacks-Without 32 (codes "shape") refl) (sym cuts ∙ p.is)).0

-- these are the numbers behind the word
abbrev pub AreNumbersOf : Shape → List ℕ → Type 0
AreNumbersOf z numbers = IsShapeOf z (codes "shape " ++ numbers)

behind-word : (z : Shape) (text : List ℕ) (p : IsParted z (codes "shape " ++ text)) → text ≡ all_numbers z p.ending
behind-word z text p = append_cancel_left (codes "shape ") text (all_numbers z p.ending) p.is

pub no-lanes : (text : List ℕ) → IsNotLed 4294967295 text → NothingHas AreNumbersOf text
no-lanes text never z has =
    let p = parted z (codes "shape " ++ text) has in never z.lanes (behind_lanes z p.ending) has.0.lanes (behind-word z text p)

lanes-led : (lanes : ℕ) (text a : List ℕ) (z : Shape) (ending : List ℕ) → AreNumbers z → IsLed 4294967295 lanes text a
    → text ≡ all_numbers z ending → a ≡ behind_lanes z ending
lanes-led lanes text a z ending numbers (low, led) is = (one-u32 lanes z.lanes a (behind_lanes z ending) low numbers.lanes (sym led ∙ is)).1

first_page-led : (first_page : ℕ) (a b : List ℕ) (z : Shape) (ending : List ℕ) → AreNumbers z → IsLed 4294967295 first_page a b
    → a ≡ behind_lanes z ending → b ≡ behind_first_page z ending
first_page-led first_page a b z ending numbers (low, led) is =
    (one-u32 first_page z.first_page b (behind_first_page z ending) low numbers.first_page (sym led ∙ is)).1

pages-led : (pages : ℕ) (b c : List ℕ) (z : Shape) (ending : List ℕ) → AreNumbers z → IsLed 4294967295 pages b c
    → b ≡ behind_first_page z ending → c ≡ ending
pages-led pages b c z ending numbers (low, led) is = (one-u32 pages z.pages c ending low numbers.pages (sym led ∙ is)).1

pub no-first_page : (lanes : ℕ) (text a : List ℕ) → IsLed 4294967295 lanes text a → IsNotLed 4294967295 a → NothingHas AreNumbersOf text
no-first_page lanes text a first never z has =
    let p = parted z (codes "shape " ++ text) has in
    never z.first_page (behind_first_page z p.ending) has.0.first_page (lanes-led lanes text a z p.ending has.0 first (behind-word z text p))

pub no-pages : (lanes first_page : ℕ) (text a b : List ℕ) → IsLed 4294967295 lanes text a → IsLed 4294967295 first_page a b
    → IsNotLed 4294967295 b → NothingHas AreNumbersOf text
no-pages lanes first_page text a b first second never z has =
    let p = parted z (codes "shape " ++ text) has in
    never z.pages p.ending has.0.pages
    (first_page-led first_page a b z p.ending has.0 second (lanes-led lanes text a z p.ending has.0 first (behind-word z text p)))

pub no-last : (lanes first_page pages : ℕ) (text a b c : List ℕ) → IsLed 4294967295 lanes text a → IsLed 4294967295 first_page a b
    → IsLed 4294967295 pages b c → NothingHas AreLast c → NothingHas AreNumbersOf text
no-last lanes first_page pages text a b c first second third never z has =
    let p = parted z (codes "shape " ++ text) has in
    let same : c ≡ p.ending =
    pages-led pages b c z p.ending has.0 third
    (first_page-led first_page a b z p.ending has.0 second (lanes-led lanes text a z p.ending has.0 first (behind-word z text p))) in
    never (z.last_generation, z.tag) (subst (λ (xs : List ℕ). AreLast (z.last_generation, z.tag) xs) (sym same) p.last)

pub no-tag : (generation : ℕ) (text rest : List ℕ) → IsLed 4294967295 generation text rest → IsNoNumber 4294967295 rest
    → NothingHas AreLast text
no-tag generation text rest (low, is) never (g, t) (few, less, inl tagged) =
    never t less (one-u32 generation g rest (decimal t) low few (sym is ∙ tagged)).1
no-tag generation text rest (low, is) never (g, t) (few, less, inr (none, untagged)) =
    uncut 32 (decimal g) (decimal generation) rest (u32-Without 32 g (omega arith) few) (sym untagged ∙ is)

pub no-ending : (text : List ℕ) → IsNotLed 4294967295 text → IsNoNumber 4294967295 text → NothingHas AreLast text
no-ending text unled never (g, t) (few, less, inl tagged) = unled g (decimal t) few tagged
no-ending text unled never (g, t) (few, less, inr (none, untagged)) = never g few untagged

-- a line is that of one shape

last-same : (g t h u : ℕ) (text : List ℕ) → AreLast (g, t) text → AreLast (h, u) text → (g ≡ h) × (t ≡ u)
last-same g t h u text (low, small, inl one) (few, less, inl two) =
    let (generations, tags) = one-u32 g h (decimal t) (decimal u) low few (sym one ∙ two) in (generations, u32-same t u small less tags)
last-same g t h u text (low, small, inl one) (few, less, inr (none, two)) =
    absurd (uncut 32 (decimal h) (decimal g) (decimal t) (u32-Without 32 h (omega arith) few) (sym two ∙ one))
last-same g t h u text (low, small, inr (none, one)) (few, less, inl two) =
    absurd (uncut 32 (decimal g) (decimal h) (decimal u) (u32-Without 32 g (omega arith) low) (sym one ∙ two))
last-same g t h u text (low, small, inr (none, one)) (few, less, inr (nothing, two)) =
    (u32-same g h low few (sym one ∙ two), none ∙ sym nothing)

abbrev shape_with : ℕ → ℕ → ℕ → ℕ → ℕ → ℕ → Shape
shape_with lanes first_page pages generation tag guests =
    record { lanes = lanes; first_page = first_page; pages = pages; last_generation = generation; tag = tag; guests = guests }

fields-same : (y z : Shape) → y.lanes ≡ z.lanes → y.first_page ≡ z.first_page → y.pages ≡ z.pages → y.last_generation ≡ z.last_generation
    → y.tag ≡ z.tag → y.guests ≡ z.guests → y ≡ z
fields-same y z one two three four five six =
    ap (λ (n : ℕ). shape_with n y.first_page y.pages y.last_generation y.tag y.guests) one
    ∙ (ap (λ (n : ℕ). shape_with z.lanes n y.pages y.last_generation y.tag y.guests) two
    ∙ (ap (λ (n : ℕ). shape_with z.lanes z.first_page n y.last_generation y.tag y.guests) three
    ∙ (ap (λ (n : ℕ). shape_with z.lanes z.first_page z.pages n y.tag y.guests) four
    ∙ (ap (λ (n : ℕ). shape_with z.lanes z.first_page z.pages z.last_generation n y.guests) five
    ∙ ap (λ (n : ℕ). shape_with z.lanes z.first_page z.pages z.last_generation z.tag n) six))))

pub shape-same : (y z : Shape) (line : List ℕ) → IsShapeOf y line → IsShapeOf z line → y ≡ z
shape-same y z line has also =
    let p = parted y line has in
    let q = parted z line also in
    let whole : all_numbers y p.ending ≡ all_numbers z q.ending =
    append_cancel_left (codes "shape ") (all_numbers y p.ending) (all_numbers z q.ending) (sym p.is ∙ q.is) in
    let (lanes, first) = one-u32 y.lanes z.lanes (behind_lanes y p.ending) (behind_lanes z q.ending) has.0.lanes also.0.lanes whole in
    let (first_pages, second) =
    one-u32 y.first_page z.first_page (behind_first_page y p.ending) (behind_first_page z q.ending) has.0.first_page also.0.first_page first in
    let (pages, third) = one-u32 y.pages z.pages p.ending q.ending has.0.pages also.0.pages second in
    let (generations, tags) =
    last-same y.last_generation y.tag z.last_generation z.tag p.ending p.last
    (subst (λ (xs : List ℕ). AreLast (z.last_generation, z.tag) xs) (sym third) q.last) in
    fields-same y z lanes first_pages pages generations tags (has.0.alone ∙ sym also.0.alone)

-- a line of a shape has no line feed

led-Without : (n : ℕ) (text : List ℕ) → n ≤ 4294967295 → Without 10 text → Without 10 (spaced (decimal n) text)
led-Without n text low rest = spaced-Without 10 (decimal n) text (omega arith) (u32-Without 10 n (omega arith) low) rest

last-Without : (g t : ℕ) (text : List ℕ) → AreLast (g, t) text → Without 10 text
last-Without g t text (low, small, inl is) =
    subst (λ (xs : List ℕ). Without 10 xs) (sym is) (led-Without g (decimal t) low (u32-Without 10 t (omega arith) small))
last-Without g t text (low, small, inr (none, is)) = subst (λ (xs : List ℕ). Without 10 xs) (sym is) (u32-Without 10 g (omega arith) low)

pub shape-Without : (z : Shape) (line : List ℕ) → IsShapeOf z line → Without 10 line
shape-Without z line has =
    let p = parted z line has in
    subst (λ (xs : List ℕ). Without 10 xs) (sym p.is)
    (Without-append 10 (codes "shape ") (all_numbers z p.ending) (lacks-Without 10 (codes "shape ") refl)
    (led-Without z.lanes (behind_lanes z p.ending) has.0.lanes
    (led-Without z.first_page (behind_first_page z p.ending) has.0.first_page
    (led-Without z.pages p.ending has.0.pages (last-Without z.last_generation z.tag p.ending p.last)))))
