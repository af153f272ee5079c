-- Acts as text: a line for the shape, and a line for each act. What the writer makes, and what a text stands for that is read.
use Rattle.std.specs.Prelude.{◌≡◌, ◌==◌, ℕ, ◌+◌, ◌/◌, ◌%◌, Bool, true, false, not, nat_lt, List, [], ◌∷◌, ◌++◌, Option, Some, None, IfSome, flat_map, decimal, codes, IsPermutation, IsSorted, if◌then◌else◌, ◌≢◌, ◌⊎◌, ◌<◌, ◌≤◌}
use Rattle.std.specs.List.{AllZip, AllByRecursion}
use Rattle.std.specs.Ordering.{nat_cmp}
use Rattle.keybits.specs.declared.shape.Shape.{Shape}
use Rattle.seqpool.specs.declared.act.Act.{Act}
use Rattle.seqpool.specs.declared.act.Act.TheVariants.{Publish, Get, Release, Clear, Reclaim, Home, Collect}
use Rattle.keybits.specs.declared.place.TheConstants.{GREATEST_PLACE}
use Rattle.keybits.specs.declared.shape.ShapeFault.{ShapeFault}
use Rattle.keybits.specs.Shapes.{IsNarrow}
use Rattle.keybits.specs.ShapeFaults.{IsFirstFault}

-- a hexadecimal digit, in lower case
abbrev pub hex_digit : ℕ → ℕ
hex_digit d = if nat_lt d 10 then 48 + d else 87 + d

-- a byte as two digits, the higher one first
abbrev pub hex_pair : ℕ → List ℕ
hex_pair byte = hex_digit (byte / 16) ∷ hex_digit (byte % 16) ∷ []

-- bytes as pairs of hexadecimal digits
abbrev pub hex : List ℕ → List ℕ
hex bytes = flat_map hex_pair bytes

-- a content: its bytes, or a dash for none
abbrev pub content_text : List ℕ → List ℕ
content_text [] = codes "-"
content_text (b ∷ more) = hex (b ∷ more)

-- places with commas between them
abbrev pub places_text : List ℕ → List ℕ
places_text [] = []
places_text (place ∷ []) = decimal place
places_text (place ∷ next ∷ more) = decimal place ++ codes "," ++ places_text (next ∷ more)

-- whether a reference was made with a publish
abbrev pub flag_text : Bool → List ℕ
flag_text with_ref = decimal (if with_ref then 1 else 0)

-- the reply of a get: a content, or none
abbrev pub reply_text : Option (List ℕ) → List ℕ
reply_text (Some content) = codes "some " ++ content_text content
reply_text None = codes "none"

-- the reply of a clear
abbrev pub truth_text : Bool → List ℕ
truth_text true = codes "true"
truth_text false = codes "false"

-- an act, without a line feed
abbrev pub act_line : Act → List ℕ
act_line (Publish lane key content with_ref) =
    decimal lane ++ codes " publish " ++ decimal key ++ codes " " ++ content_text content ++ codes " " ++ flag_text with_ref
act_line (Get lane key reply) = decimal lane ++ codes " get " ++ decimal key ++ codes " " ++ reply_text reply
act_line (Release lane key) = decimal lane ++ codes " release " ++ decimal key
act_line (Clear lane key reply) = decimal lane ++ codes " clear " ++ decimal key ++ codes " " ++ truth_text reply
act_line (Reclaim lane key) = decimal lane ++ codes " reclaim " ++ decimal key
act_line (Home lane place) = decimal lane ++ codes " home " ++ decimal place
act_line (Collect lane places) = decimal lane ++ codes " collect " ++ places_text places

-- the line of an act
abbrev pub act_text : Act → List ℕ
act_text act = act_line act ++ codes "\n"

-- the four numbers of a shape that are always written
abbrev pub numbers_text : Shape → List ℕ
numbers_text z = codes "shape " ++ decimal z.lanes ++ codes " " ++ decimal z.first_page ++ codes " " ++ decimal z.pages ++ codes " "
    ++ decimal z.last_generation

-- a shape, with its tag as a fifth number or without it, and without a line feed
abbrev pub shape_line : Shape → Bool → List ℕ
shape_line z true = numbers_text z ++ codes " " ++ decimal z.tag
shape_line z false = numbers_text z

-- the line of a shape
abbrev pub shape_text : Shape → Bool → List ℕ
shape_text z tagged = shape_line z tagged ++ codes "\n"

-- the act as it is written: the same, with the places of a Collect in rising order
abbrev pub IsWritten : Act → Act → Type 0
IsWritten (Collect lane places) written = (risen : List ℕ) × IsPermutation places risen × IsSorted nat_cmp risen
    × (written ≡ Collect lane risen)
IsWritten act written = written ≡ act

-- the text that the writer makes: the tag stands where it isn't 0
abbrev pub IsTextOf : Shape → List Act → List ℕ → Type 0
IsTextOf z acts text = (written : List Act) × AllZip IsWritten acts written
    × (text ≡ shape_text z (not (z.tag == 0)) ++ flat_map act_text written)

-- a number of a lane or of a shape
abbrev pub IsU32 : ℕ → Type 0
IsU32 n = n ≤ 4294967295

-- the number of a key
abbrev pub IsKeyNumber : ℕ → Type 0
IsKeyNumber n = n ≤ 18446744073709551615

-- the number of a place
abbrev pub IsPlaceNumber : ℕ → Type 0
IsPlaceNumber n = n ≤ GREATEST_PLACE

-- bytes
abbrev pub AreBytes : List ℕ → Type 0
AreBytes bytes = AllByRecursion (λ b. b < 256) bytes

-- an act that has a line: its numbers are within their ranges, and a collect has one or more places
abbrev pub HasLine : Act → Type 0
HasLine (Publish lane key content with_ref) = IsU32 lane × IsKeyNumber key × AreBytes content
HasLine (Get lane key reply) = IsU32 lane × IsKeyNumber key × IfSome reply AreBytes
HasLine (Release lane key) = IsU32 lane × IsKeyNumber key
HasLine (Clear lane key reply) = IsU32 lane × IsKeyNumber key
HasLine (Reclaim lane key) = IsU32 lane × IsKeyNumber key
HasLine (Home lane place) = IsU32 lane × IsPlaceNumber place
HasLine (Collect lane places) = IsU32 lane × (places ≢ []) × AllByRecursion IsPlaceNumber places

-- the numbers of a shape, whether it is checked or not
pub record AreNumbers (z : Shape) : Type 0 where
  pub lanes : IsU32 z.lanes
  pub first_page : IsU32 z.first_page
  pub pages : IsU32 z.pages
  pub last_generation : IsU32 z.last_generation
  pub tag : IsU32 z.tag
  pub alone : z.guests ≡ 0

-- the line of a shape: with its tag, or without it where the tag is 0
abbrev pub IsShapeText : Shape → List ℕ → Type 0
IsShapeText z text = (text ≡ shape_text z true) ⊎ ((z.tag ≡ 0) × (text ≡ shape_text z false))

-- the bytes are the text, or all of it but the line feed at its end
abbrev pub IsUpToLineFeed : List ℕ → List ℕ → Type 0
IsUpToLineFeed bytes text = (bytes ≡ text) ⊎ (bytes ++ codes "\n" ≡ text)

-- the first line of the bytes is that of a shape, whatever follows it
pub record BeginsWith (bytes : List ℕ) (z : Shape) : Type 0 where
  pub numbers : AreNumbers z
  pub first : List ℕ
  pub first_line : IsShapeText z first
  pub rest : List ℕ
  pub text : IsUpToLineFeed bytes (first ++ rest)

-- the bytes stand for a shape within the narrow limits and some acts
pub record StandsFor (bytes : List ℕ) (z : Shape) (acts : List Act) : Type 0 where
  pub checked : IsNarrow z
  pub numbers : AreNumbers z
  pub lines : AllByRecursion HasLine acts
  pub first : List ℕ
  pub first_line : IsShapeText z first
  pub text : IsUpToLineFeed bytes (first ++ flat_map act_text acts)

-- the first line is that of a shape which is refused with this fault
abbrev pub HasShapeFault : List ℕ → ShapeFault → Type 0
HasShapeFault bytes fault = (z : Shape) × BeginsWith bytes z × IsFirstFault z fault

-- the first line is that of a shape within the narrow limits
abbrev pub HasShape : List ℕ → Type 0
HasShape bytes = (z : Shape) × BeginsWith bytes z × IsNarrow z

-- neither a shape with acts, nor a shape that is refused
pub record StandsForNothing (bytes : List ℕ) : Type 0 where
  pub no_acts : (z : Shape) (acts : List Act) → StandsFor bytes z acts → ⊥
  pub no_fault : (fault : ShapeFault) → HasShapeFault bytes fault → ⊥
