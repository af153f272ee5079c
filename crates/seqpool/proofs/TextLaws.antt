-- What a text of acts stands for, by its lines.
use Rattle.std.proofs.Common.{◌≡◌, ℕ, ◌<◌, List, [], ◌∷◌, ◌++◌, length, flat_map, true, false, refl, sym, ap, ◌∙◌, subst, inl, inr, cond, nat_eq, arith, length-append}
use Rattle.std.specs.List.{AllByRecursion}
use Rattle.std.proofs.lemmas.Bool.{cases_order}
use Rattle.keybits.specs.declared.shape.Shape.{Shape}
use Rattle.keybits.specs.declared.shape.ShapeFault.{ShapeFault}
use Rattle.keybits.specs.declared.shape.ShapeFault.TheVariants as shapes
use Rattle.keybits.specs.Shapes.{IsNarrow}
use Rattle.keybits.specs.ShapeFaults.{shape_fault_number, IsFirstFault}
use Rattle.keybits.proofs.FaultLemmas.{narrow_each}
use Rattle.seqpool.specs.declared.act.Act.{Act}
use Rattle.seqpool.specs.ActsText.{act_line, act_text, shape_line, HasLine, IsShapeText, AreNumbers, IsUpToLineFeed, BeginsWith, StandsFor, HasShapeFault, StandsForNothing}
use Rattle.seqpool.specs.ReadTexts.{NothingHas, IsAct, AreActs, IsShapeOf, IsFirstLine}
use Rattle.seqpool.proofs.Parts.{IsFirst, one-cut}
use Rattle.seqpool.proofs.ReadLines.{lined, lined-is, lined-end, first-split, first-join, AreAlike, heads-same}
use Rattle.seqpool.proofs.ActTexts.{act-same, act_line-IsLine}
use Rattle.seqpool.proofs.ShapeTexts.{shape-same, shape-Without}

-- acts whose text is empty are none
no-text : (acts : List Act) → AllByRecursion HasLine acts → IsUpToLineFeed [] (flat_map act_text acts) → acts ≡ []
no-text [] all up = refl
no-text (act ∷ acts) all (inl whole) =
    let long : 0 ≡ length (act_line act ++ 10 ∷ flat_map act_text acts) = ap length (whole ∙ lined-is (act_line act) (flat_map act_text acts)) in
    absurd (omega (arith, length-append (act_line act) (10 ∷ flat_map act_text acts)))
no-text (act ∷ acts) all (inr lacking) =
    let line = act_line-IsLine act all.0 in
    let cuts = one-cut 10 [] [] (act_line act) (flat_map act_text acts) tt line.one (lacking ∙ lined-is (act_line act) (flat_map act_text acts)) in
    let some : 0 < length (act_line act) = line.some in
    let none : 0 ≡ length (act_line act) = ap length cuts.0 in absurd (omega arith)

-- the rest of a text whose rest is empty
nothing-more : (acts : List Act) (rest : List ℕ) → AreActs acts rest → rest ≡ [] → flat_map act_text acts ≡ []
nothing-more acts rest (all, up) empty =
    ap (flat_map act_text) (no-text acts all (subst (λ (xs : List ℕ). IsUpToLineFeed xs (flat_map act_text acts)) empty up))

-- a text with a byte is not that of no acts
no-acts-text : (s : List ℕ) → 0 < length s → IsUpToLineFeed s [] → ⊥
no-acts-text s some (inl none) = let zero : length s ≡ 0 = ap length none in omega arith
no-acts-text s some (inr none) = let zero : length (s ++ 10 ∷ []) ≡ 0 = ap length none in omega (arith, length-append s (10 ∷ []))

-- a line that is read is that of the first act
pub acts-first : (act : Act) (line rest s : List ℕ) → 0 < length s → IsFirstLine line rest s → IsAct act line → IsFirst AreActs act s rest
acts-first act line rest s some first is = record { on = on; only = only }
  where
    on : (more : List Act) → AreActs more rest → AreActs (act ∷ more) s
    on more h = (
      (is.0, h.0),
      subst (λ (xs : List ℕ). IsUpToLineFeed s (lined xs (flat_map act_text more))) is.1
          (first-join line rest s (flat_map act_text more) first h.1 (nothing-more more rest h)),
    )

    only : (all : List Act) → AreActs all s → (more : List Act) × (all ≡ act ∷ more) × AreActs more rest
    only [] (all, up) = absurd (no-acts-text s some up)
    only (other ∷ more) (all, up) =
        let (line-is, goes) = first-split line rest s (act_line other) (flat_map act_text more) first (act_line-IsLine other all.0).one up in
        (more, ap (λ (x : Act). x ∷ more) (act-same other act line (all.0, line-is) is), (all.1, goes))

-- a first line that is no act's
pub acts-never : (line rest s : List ℕ) → 0 < length s → IsFirstLine line rest s → NothingHas IsAct line → NothingHas AreActs s
acts-never line rest s some first never [] (all, up) = no-acts-text s some up
acts-never line rest s some first never (other ∷ more) (all, up) =
    never other (all.0, (first-split line rest s (act_line other) (flat_map act_text more) first (act_line-IsLine other all.0).one up).0)

-- no lines are left
pub acts-end : (s : List ℕ) → length s ≡ 0 → AreActs [] s
acts-end [] none = (tt, inl refl)
acts-end (x ∷ s) none = absurd (omega arith)

-- the text of acts does not end in a line that is empty
flat-never : (xs ys : List Act) → AllByRecursion HasLine xs → AllByRecursion HasLine ys
    → flat_map act_text xs ++ 10 ∷ [] ≡ flat_map act_text ys → ⊥
flat-never [] ys all each is =
    let none : ys ≡ [] = no-text ys each (inr is) in
    let long : 1 ≡ length (flat_map act_text ys) = ap length is in
    let zero : length (flat_map act_text ys) ≡ 0 = ap (λ (zs : List Act). length (flat_map act_text zs)) none in omega arith
flat-never (x ∷ xs) [] all each is =
    let long : length (flat_map act_text (x ∷ xs) ++ 10 ∷ []) ≡ 0 = ap length is in
    omega (arith, length-append (flat_map act_text (x ∷ xs)) (10 ∷ []))
flat-never (x ∷ xs) (y ∷ ys) all each is =
    let cuts = one-cut 10 (act_line x) (flat_map act_text xs ++ 10 ∷ []) (act_line y) (flat_map act_text ys) (act_line-IsLine x all.0).one
    (act_line-IsLine y each.0).one (sym (lined-end (act_line x) (flat_map act_text xs)) ∙ (is ∙ lined-is (act_line y) (flat_map act_text ys))) in
    flat-never xs ys all.1 each.1 cuts.1

-- a text is that of one list of acts
flat-same : (xs ys : List Act) → AllByRecursion HasLine xs → AllByRecursion HasLine ys → flat_map act_text xs ≡ flat_map act_text ys
    → xs ≡ ys
flat-same [] ys all each is = sym (no-text ys each (inl is))
flat-same (x ∷ xs) [] all each is = no-text (x ∷ xs) all (inl (sym is))
flat-same (x ∷ xs) (y ∷ ys) all each is =
    let cuts = one-cut 10 (act_line x) (flat_map act_text xs) (act_line y) (flat_map act_text ys) (act_line-IsLine x all.0).one
    (act_line-IsLine y each.0).one (sym (lined-is (act_line x) (flat_map act_text xs)) ∙ (is ∙ lined-is (act_line y) (flat_map act_text ys))) in
    ap (λ (a : Act). a ∷ xs) (act-same x y (act_line x) (all.0, refl) (each.0, cuts.0))
    ∙ ap (λ (more : List Act). y ∷ more) (flat-same xs ys all.1 each.1 cuts.1)

alike-same : (xs ys : List Act) → AllByRecursion HasLine xs → AllByRecursion HasLine ys
    → AreAlike (flat_map act_text xs) (flat_map act_text ys) → xs ≡ ys
alike-same xs ys all each (inl is) = flat-same xs ys all each is
alike-same xs ys all each (inr (inl is)) = absurd (flat-never xs ys all each is)
alike-same xs ys all each (inr (inr is)) = absurd (flat-never ys xs each all is)

-- the text begins with the shape of its first line
pub begins : (bytes line rest : List ℕ) (z : Shape) → IsFirstLine line rest bytes → IsShapeOf z line → BeginsWith bytes z
begins bytes line rest z first shape = record {
  numbers = shape.0;
  first = line ++ 10 ∷ [];
  first_line = shape.1;
  rest = rest;
  text = first-join line rest bytes rest first (inl refl) (λ empty. empty);
}

-- the text stands for the shape of its first line and the acts of the others
pub stands : (bytes line rest : List ℕ) (z : Shape) (acts : List Act) → IsFirstLine line rest bytes → IsShapeOf z line → IsNarrow z
    → AreActs acts rest → StandsFor bytes z acts
stands bytes line rest z acts first shape checked are = record {
  checked = checked;
  numbers = shape.0;
  lines = are.0;
  first = line ++ 10 ∷ [];
  first_line = shape.1;
  text = first-join line rest bytes (flat_map act_text acts) first are.1 (nothing-more acts rest are);
}

-- the line of a shape that a text begins with
record HasHead (bytes : List ℕ) (z : Shape) (rest : List ℕ) : Type 0 where
  pub line : List ℕ
  pub shape : IsShapeOf z line
  pub text : IsUpToLineFeed bytes (lined line rest)

head-of : (bytes : List ℕ) (z : Shape) (first rest : List ℕ) → AreNumbers z → IsShapeText z first → IsUpToLineFeed bytes (first ++ rest)
    → HasHead bytes z rest
head-of bytes z first rest numbers (inl tagged) text = record {
  line = shape_line z true;
  shape = (numbers, inl refl);
  text = subst (λ (xs : List ℕ). IsUpToLineFeed bytes (xs ++ rest)) tagged text;
}
head-of bytes z first rest numbers (inr (none, untagged)) text = record {
  line = shape_line z false;
  shape = (numbers, inr (none, refl));
  text = subst (λ (xs : List ℕ). IsUpToLineFeed bytes (xs ++ rest)) untagged text;
}

begins-head : (bytes : List ℕ) (z : Shape) (begun : BeginsWith bytes z) → HasHead bytes z begun.rest
begins-head bytes z begun = head-of bytes z begun.first begun.rest begun.numbers begun.first_line begun.text

stands-head : (bytes : List ℕ) (z : Shape) (acts : List Act) → StandsFor bytes z acts → HasHead bytes z (flat_map act_text acts)
stands-head bytes z acts there = head-of bytes z there.first (flat_map act_text acts) there.numbers there.first_line there.text

-- a text has one first shape, and one rest
heads-are : (bytes : List ℕ) (y z : Shape) (r s : List ℕ) → HasHead bytes y r → HasHead bytes z s → (y ≡ z) × AreAlike r s
heads-are bytes y z r s one two =
    let (lines, rests) =
    heads-same bytes one.line r two.line s (shape-Without y one.line one.shape) (shape-Without z two.line two.shape) one.text two.text in
    (shape-same y z one.line one.shape (subst (λ (xs : List ℕ). IsShapeOf z xs) (sym lines) two.shape), rests)

pub begins-same : (bytes : List ℕ) (y z : Shape) → BeginsWith bytes y → BeginsWith bytes z → y ≡ z
begins-same bytes y z one two = (heads-are bytes y z one.rest two.rest (begins-head bytes y one) (begins-head bytes z two)).0

pub stands-begins : (bytes : List ℕ) (z : Shape) (acts : List Act) → StandsFor bytes z acts → BeginsWith bytes z
stands-begins bytes z acts there =
    record { numbers = there.numbers; first = there.first; first_line = there.first_line; rest = flat_map act_text acts; text = there.text }

-- a text stands for one shape and one list of acts
pub stands-same : (bytes : List ℕ) (y z : Shape) (some others : List Act) → StandsFor bytes y some → StandsFor bytes z others
    → (y ≡ z) × (some ≡ others)
stands-same bytes y z some others one two =
    let (shapes-are, rests) =
    heads-are bytes y z (flat_map act_text some) (flat_map act_text others) (stands-head bytes y some one) (stands-head bytes z others two) in
    (shapes-are, alike-same some others one.lines two.lines rests)

-- what the first line and the rest of a text are, where it has a head
head-split : (bytes line rest : List ℕ) (z : Shape) (more : List ℕ) → IsFirstLine line rest bytes → HasHead bytes z more
    → IsShapeOf z line × IsUpToLineFeed rest more
head-split bytes line rest z more first head =
    let (lines, goes) = first-split line rest bytes head.line more first (shape-Without z head.line head.shape) head.text in
    (subst (λ (xs : List ℕ). IsShapeOf z xs) (sym lines) head.shape, goes)

-- a shape within the narrow limits has no fault
no-fault : (z : Shape) (fault : ShapeFault) → IsNarrow z → IsFirstFault z fault → ⊥
no-fault z fault checked first = first.0 ((narrow_each z checked.3).1 checked fault)

fault_at : ℕ → ShapeFault
fault_at n =
    cond (nat_eq n 1) shapes.Lanes (cond (nat_eq n 2) shapes.FirstPage (cond (nat_eq n 3) shapes.Pages
    (cond (nat_eq n 4) shapes.Generation shapes.Tag)))

fault_at-number : (fault : ShapeFault) → fault_at (shape_fault_number fault) ≡ fault
unfolding fault_at
fault_at-number shapes.Lanes = refl
fault_at-number shapes.FirstPage = refl
fault_at-number shapes.Pages = refl
fault_at-number shapes.Generation = refl
fault_at-number shapes.Tag = refl

-- a shape has one first fault
pub one-fault : (z : Shape) (f g : ShapeFault) → IsFirstFault z f → IsFirstFault z g → f ≡ g
one-fault z f g one two = elim (cases_order (shape_fault_number f) (shape_fault_number g)) [
  | inl same ↦ sym (fault_at-number f) ∙ (ap fault_at same ∙ fault_at-number g)
  | inr (inl below) ↦ absurd (one.0 (two.1 f below))
  | inr (inr above) ↦ absurd (two.0 (one.1 g above))
]

pub refused-shape : (bytes : List ℕ) (y : Shape) (fault : ShapeFault) → BeginsWith bytes y → IsNarrow y → HasShapeFault bytes fault → ⊥
refused-shape bytes y fault begun checked (z, other, first) =
    no-fault z fault (subst (λ (x : Shape). IsNarrow x) (begins-same bytes y z begun other) checked) first

-- the first line is none of a shape
pub no-begin : (bytes line rest : List ℕ) → IsFirstLine line rest bytes → NothingHas IsShapeOf line → (z : Shape) → BeginsWith bytes z → ⊥
no-begin bytes line rest first never z begun = never z (head-split bytes line rest z begun.rest first (begins-head bytes z begun)).0

pub no-shape : (bytes line rest : List ℕ) → IsFirstLine line rest bytes → NothingHas IsShapeOf line → StandsForNothing bytes
no-shape bytes line rest first never = record {
  no_acts = λ z acts there. never z (head-split bytes line rest z (flat_map act_text acts) first (stands-head bytes z acts there)).0;
  no_fault = λ fault (z, begun, is). no-begin bytes line rest first never z begun;
}

-- the other lines are none of acts
pub no-acts : (bytes line rest : List ℕ) (y : Shape) → IsFirstLine line rest bytes → IsShapeOf y line → IsNarrow y → NothingHas AreActs rest
    → StandsForNothing bytes
no-acts bytes line rest y first shape checked never = record {
  no_acts = λ z acts there.
      never acts (there.lines, (head-split bytes line rest z (flat_map act_text acts) first (stands-head bytes z acts there)).1);
  no_fault = λ fault has. refused-shape bytes y fault (begins bytes line rest y first shape) checked has;
}
