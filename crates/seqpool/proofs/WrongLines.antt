-- Where a text of acts is refused: its first wrong line.
use Rattle.std.proofs.Common.{◌≡◌, ℕ, ◌+◌, ◌<◌, List, [], ◌∷◌, ◌++◌, length, flat_map, Result, Ok, Err, refl, sym, ap, ◌∙◌, subst, ◌⊎◌, inl, inr, ⊎_elim, append_assoc, length-append, arith}
use Rattle.std.specs.List.{AllByRecursion}
use Rattle.std.specs.Result.{MatchResult}
use Rattle.std.proofs.lemmas.List.{flat_map_more}
use Rattle.keybits.specs.declared.shape.Shape.{Shape}
use Rattle.keybits.specs.declared.shape.ShapeFault.{ShapeFault}
use Rattle.keybits.specs.Shapes.{IsNarrow}
use Rattle.keybits.specs.ShapeFaults.{IsFirstFault}
use Rattle.seqpool.specs.declared.act.Act.{Act}
use Rattle.seqpool.specs.declared.acts_fault.ActsFault.{ActsFault}
use Rattle.seqpool.specs.declared.acts_fault.ActsFault.TheVariants as faults
use Rattle.seqpool.specs.declared.acts_refusal.ActsPlace.{ActsPlace}
use Rattle.seqpool.specs.declared.acts_refusal.ActsPlace.TheVariants as places
use Rattle.seqpool.specs.declared.acts_refusal.ActsRefusal.{ActsRefusal}
use Rattle.seqpool.specs.ActsText.{act_line, act_text, HasLine, StandsFor, HasShapeFault}
use Rattle.seqpool.specs.ReadTexts.{NothingHas, IsAct, AreActs, IsShapeOf, IsFirstLine}
use Rattle.seqpool.specs.ActsPlaces.{refusal, out_of_memory, IsWrongBehind, IsWrongAct, RefusesTextAt, RefusesText, RefusesLine, HasWrongAct, RefusesLines}
use Rattle.seqpool.proofs.ShapeTexts.{shape-uncut}
use Rattle.seqpool.proofs.TextLaws.{begins, no-begin, no-shape, no-acts, refused-shape, begins-same, stands-begins, one-fault}

-- the text begins with the lines of acts, unless nothing is left of it
pub record IsBegun (acts : List Act) (rest text : List ℕ) : Type 0 where
  pub lines : AllByRecursion HasLine acts
  pub begins : 0 < length rest → text ≡ flat_map act_text acts ++ rest

pub begun-none : (acts : List Act) (text : List ℕ) → acts ≡ [] → IsBegun acts text text
begun-none acts text none =
    let P : List Act → Type 0 = λ xs. IsBegun xs text text in subst P (sym none) (record { lines = tt; begins = λ some. refl })

lines-more : (acts : List Act) (act : Act) → AllByRecursion HasLine acts → HasLine act → AllByRecursion HasLine (acts ++ act ∷ [])
lines-more [] act all one = (one, tt)
lines-more (x ∷ xs) act all one = (all.0, lines-more xs act all.1 one)

regroup : (a b c : List ℕ) → a ++ (b ++ 10 ∷ c) ≡ (a ++ (b ++ 10 ∷ [])) ++ c
regroup a b c = simp append_assoc

-- one more line is that of an act
pub begun-more : (acts next : List Act) (act : Act) (s line rest text : List ℕ) → IsBegun acts s text → IsFirstLine line rest s → IsAct act line
    → next ≡ acts ++ act ∷ [] → IsBegun next rest text
begun-more acts next act s line rest text begun first is more =
    let P : List Act → Type 0 = λ xs. IsBegun xs rest text in
    subst P (sym more) (record { lines = lines-more acts act begun.lines is.0; begins = λ some. at some first.is })
  where
    at : 0 < length rest → (s ≡ line ++ 10 ∷ rest) ⊎ ((s ≡ line) × (rest ≡ [])) → text ≡ flat_map act_text (acts ++ act ∷ []) ++ rest
    at some (inl split) =
        let long : 0 < length s = let same : length s ≡ length (line ++ 10 ∷ rest) = ap length split in omega (arith, same, length-append line (10 ∷ rest)) in
        begun.begins long
        ∙ ap (λ (xs : List ℕ). flat_map act_text acts ++ xs) (split ∙ ap (λ (xs : List ℕ). xs ++ 10 ∷ rest) is.1)
        ∙ regroup (flat_map act_text acts) (act_line act) rest
        ∙ ap (λ (xs : List ℕ). xs ++ rest) (flat_map_more act_text [] acts act)
    at some (inr (all, none)) = absurd (let zero : length rest ≡ 0 = ap length none in omega arith)

-- the next line is none of an act
pub begun-wrong : (acts : List Act) (s line rest text : List ℕ) → 0 < length s → IsBegun acts s text → IsFirstLine line rest s → NothingHas IsAct line
    → IsWrongBehind acts text
begun-wrong acts s line rest text some begun first never =
    record { lines = begun.lines; behind = s; begins = begun.begins some; some = some; line = line; rest = rest; first = first; wrong = never }

-- the lines are refused as the next of them is
pub lines-refused : (acts : List Act) (number : ℕ) (s line rest text : List ℕ) (refused : ActsRefusal) → 0 < length s → IsBegun acts s text
    → IsFirstLine line rest s → number ≡ length acts + 2 → (NothingHas IsAct line → NothingHas AreActs text) → RefusesLine number line refused
    → RefusesLines text refused
lines-refused acts number s line rest text refused some begun first is none h = ⊎_elim
    (λ (memory : refused ≡ out_of_memory). inl memory)
    (λ (wrong : (refused ≡ refusal faults.ActsLine (places.Line number)) × NothingHas IsAct line). inr (record {
      none = none wrong.1;
      acts = acts;
      wrong = begun-wrong acts s line rest text some begun first wrong.1;
      is = wrong.0 ∙ ap (λ (n : ℕ). refusal faults.ActsLine (places.Line n)) is;
    }))
    h

-- ---- the whole text

-- no line is there
pub refuses-empty : (bytes : List ℕ) → length bytes ≡ 0 → RefusesTextAt bytes faults.ActsLine (places.Line 1)
refuses-empty [] none =
    let first : IsFirstLine [] [] [] = record { one = tt; is = inr (refl, refl) } in
    (no-shape [] [] [] first (shape-uncut [] tt), inl (refl, no-begin [] [] [] first (shape-uncut [] tt)))
refuses-empty (byte ∷ more) none = absurd (omega arith)

-- the first line is none of a shape
pub refuses-shape : (bytes line rest : List ℕ) → IsFirstLine line rest bytes → NothingHas IsShapeOf line
    → RefusesTextAt bytes faults.ActsLine (places.Line 1)
refuses-shape bytes line rest first never = (no-shape bytes line rest first never, inl (refl, no-begin bytes line rest first never))

-- the shape of the first line has a fault
pub refuses-fault : (bytes line rest : List ℕ) (z : Shape) (fault : ShapeFault) → IsFirstLine line rest bytes → IsShapeOf z line → IsFirstFault z fault
    → RefusesTextAt bytes (faults.Shape fault) (places.Line 1)
refuses-fault bytes line rest z fault first shape found = ((z, begins bytes line rest z first shape, found), refl)

-- a line behind that of the shape is none of an act
wrong-act : (bytes line rest : List ℕ) (z : Shape) (acts : List Act) → IsFirstLine line rest bytes → IsShapeOf z line → IsNarrow z
    → IsWrongBehind acts rest → IsWrongAct bytes (length acts + 2)
wrong-act bytes line rest z acts first shape checked wrong = record {
  shape = z;
  checked = checked;
  numbers = shape.0;
  first = line ++ 10 ∷ [];
  first_line = shape.1;
  rest = rest;
  text = at first.is;
  acts = acts;
  wrong = wrong;
  is = refl;
}
  where
    at : (bytes ≡ line ++ 10 ∷ rest) ⊎ ((bytes ≡ line) × (rest ≡ [])) → bytes ≡ (line ++ 10 ∷ []) ++ rest
    at (inl is) = is ∙ sym (append_assoc line (10 ∷ []) rest)
    at (inr (all, none)) =
        let zero : length rest ≡ 0 = ap length none in
        let long : length rest ≡ length (flat_map act_text acts ++ wrong.behind) = ap length wrong.begins in
        absurd (omega (arith, wrong.some, length-append (flat_map act_text acts) wrong.behind))

-- the acts' lines are refused
pub refuses-acts : (bytes line rest : List ℕ) (z : Shape) (refused : ActsRefusal) → IsFirstLine line rest bytes → IsShapeOf z line → IsNarrow z
    → RefusesLines rest refused → RefusesText bytes refused
refuses-acts bytes line rest z refused first shape checked h = ⊎_elim
    (λ (memory : refused ≡ out_of_memory). subst (RefusesText bytes) (sym memory) ((z, begins bytes line rest z first shape, checked), refl))
    (λ (wrong : HasWrongAct rest refused). subst (RefusesText bytes) (sym wrong.is)
    (no-acts bytes line rest z first shape checked wrong.none, inr (wrong-act bytes line rest z wrong.acts first shape checked wrong.wrong)))
    h

-- ---- laws

only_at : (bytes : List ℕ) (z : Shape) (acts : List Act) (fault : ActsFault) (place : ActsPlace) → StandsFor bytes z acts → RefusesTextAt bytes fault place
    → refusal fault place ≡ out_of_memory
only_at bytes z acts faults.ActsLine (places.Line number) there refused = absurd (refused.0.no_acts z acts there)
only_at bytes z acts faults.ActsLine places.Text there refused = absurd refused
only_at bytes z acts (faults.Shape fault) place there refused =
    absurd (refused-shape bytes z fault (stands-begins bytes z acts there) there.checked refused.0)
only_at bytes z acts faults.Memory place there refused = ap (refusal faults.Memory) refused.1

-- a text that stands for a shape and acts is refused for want of memory alone
pub only-memory : (bytes : List ℕ) (z : Shape) (acts : List Act) (refused : ActsRefusal) → StandsFor bytes z acts → RefusesText bytes refused
    → refused ≡ out_of_memory
only-memory bytes z acts refused there h = only_at bytes z acts refused.fault refused.place there h

fault_at : (bytes : List ℕ) (found : ShapeFault) (fault : ActsFault) (place : ActsPlace) → HasShapeFault bytes found → RefusesTextAt bytes fault place
    → refusal fault place ≡ refusal (faults.Shape found) (places.Line 1)
fault_at bytes found faults.ActsLine (places.Line number) has refused = absurd (refused.0.no_fault found has)
fault_at bytes found faults.ActsLine places.Text has refused = absurd refused
fault_at bytes found (faults.Shape other) place (z, begun, first) ((y, begun-too, second), at) =
    let same : y ≡ z = begins-same bytes y z begun-too begun in
    let P : Shape → Type 0 = λ x. IsFirstFault x other in
    ap (λ (f : ShapeFault). refusal (faults.Shape f) place) (one-fault z other found (subst P same second) first)
    ∙ ap (refusal (faults.Shape found)) at
fault_at bytes found faults.Memory place has refused = let (y, begun, checked) = refused.0 in absurd (refused-shape bytes y found begun checked has)

-- a text whose shape is refused is answered with its fault
pub shape-refused : {X : Type 0} (bytes : List ℕ) (r : Result X ActsRefusal) (z_of : X → Shape) (acts_in : X → List Act) (fault : ShapeFault)
    → MatchResult r (λ found. StandsFor bytes (z_of found) (acts_in found)) (RefusesText bytes) → HasShapeFault bytes fault
    → r ≡ Err (refusal (faults.Shape fault) (places.Line 1))
shape-refused bytes (Ok found) z_of acts_in fault answer has =
    absurd (refused-shape bytes (z_of found) fault (stands-begins bytes (z_of found) (acts_in found) answer) answer.checked has)
shape-refused {X} bytes (Err refused) z_of acts_in fault answer has =
    ap (λ (r : ActsRefusal). let e : Result X ActsRefusal = Err r in e) (fault_at bytes fault refused.fault refused.place has answer)
