-- Where bytes stop being a JSON text, and why, in words.
use Rattle.std.specs.Prelude.{◌≡◌, ◌≤◌, ℕ, ◌==◌, ◌&&◌, ◌||◌, Bool, true, false, not, List, [], ◌∷◌, ◌++◌, length, take, drop, count_by, Option, Some, None, if◌then◌else◌, nat_eq, nat_le, nat_lt, fold, decimal, codes}
use Rattle.std.specs.List.{starts_with, list_all}
use Rattle.std.specs.Str.{IsUtf8, IsValidUpTo}
use Rattle.streams.specs.Shown.{cut_text, line_text}
use Rattle.explanations.specs.JsonFlaws.{first_is, is_digit, escape_length, IsFlaw}
use Rattle.explanations.specs.Places.{line_number, column_number}
use Rattle.explanations.specs.declared.json_flaw.Flaw.{Flaw}
use Rattle.explanations.specs.declared.json_flaw.Flaw.TheVariants.{Control, Escape, Half, Zero, Digit}
use Rattle.explanations.specs.declared.json_fault.Opened.{Opened}
use Rattle.explanations.specs.declared.json_fault.Opened.TheVariants.{Nothing, Array, Object}
use Rattle.explanations.specs.declared.json_fault.Halt.{Halt}
use Rattle.explanations.specs.declared.json_fault.Halt.TheVariants.{Token, Large, Deep, NoText, Open, Flawed}

-- a byte that JSON passes over
abbrev pub is_space : ℕ → Bool
is_space byte = (byte == 32) || ((byte == 9) || ((byte == 10) || (byte == 13)))

-- the last byte that isn't passed over, behind one byte more
abbrev pub last_with : Option ℕ → ℕ → Option ℕ
last_with last byte = if is_space byte then last else Some byte

-- the last of some bytes that isn't passed over
abbrev pub last_of : List ℕ → Option ℕ
last_of bytes = fold last_with None bytes

-- it is a comma
abbrev pub is_comma : Option ℕ → Bool
is_comma None = false
is_comma (Some last) = last == 44

-- what may stand behind a value, by what is open: within a list a comma or its end
abbrev pub wanted_behind : Opened → List ℕ
wanted_behind Nothing = codes "the end of the file"
wanted_behind Array = codes "a comma or ]"
wanted_behind Object = codes "a comma or }"

-- what may stand behind a comma
abbrev pub wanted_next : Opened → List ℕ
wanted_next Nothing = codes "the end of the file"
wanted_next Array = codes "a value"
wanted_next Object = codes "a name in quotes with a colon behind it"

-- what may stand behind this byte, the last that isn't passed over, by what is open there
unfoldable pub wanted_by : Opened → Option ℕ → List ℕ
wanted_by opened None = codes "a value"
wanted_by opened (Some last) =
    if last == 44 then wanted_next opened else
    (if last == 58 then codes "a value" else
    (if last == 91 then codes "a value or ]" else
    (if last == 123 then codes "a name in quotes with a colon behind it, or }" else wanted_behind opened)))

-- a byte order mark stands in front
abbrev pub has_mark : List ℕ → Bool
has_mark rest = starts_with nat_eq rest (239 ∷ 187 ∷ 191 ∷ [])

-- a comment stands in front, as other formats have it
abbrev pub has_comment : List ℕ → Bool
has_comment rest = starts_with nat_eq rest (codes "//") || (starts_with nat_eq rest (codes "/*") || starts_with nat_eq rest (codes "#"))

-- a list or an object ends in front
abbrev pub has_end : List ℕ → Bool
has_end rest = first_is 93 rest || first_is 125 rest

-- what stands in front, where this is wanted: nothing but what is passed over, or some bytes
unfoldable pub found_told : List ℕ → List ℕ → List ℕ
found_told rest wanted =
    if list_all is_space rest then codes "the text ends where " ++ wanted ++ codes " is wanted"
    else codes "\"" ++ cut_text rest ++ codes "\" stands where " ++ wanted ++ codes " is wanted"

-- what is wrong by its name: a mark, a comment, or a comma in front of an end
unfoldable pub named_told : Option ℕ → List ℕ → Option (List ℕ)
named_told last rest =
    if has_mark rest then Some (codes "a byte order mark stands here, and JSON has none") else
    (if has_comment rest then Some (codes "a comment stands here, and JSON has none") else
    (if is_comma last && has_end rest then Some (codes "a comma stands before the end of a list or an object") else None))

-- what is wrong, if it has no name: what stands there and what is wanted
abbrev pub token_by : Option (List ℕ) → Opened → Option ℕ → List ℕ → List ℕ
token_by (Some named) opened last rest = named
token_by None opened last rest = found_told rest (wanted_by opened last)

-- why a token is wrong
abbrev pub token_told : Opened → Option ℕ → List ℕ → List ℕ
token_told opened last rest = token_by (named_told last rest) opened last rest

-- what is wrong with a control character within a string
abbrev pub control_told : ℕ → List ℕ
control_told byte =
    if byte == 9 then codes "a tab stands in a string, where \\t has to stand for it" else
    (if (byte == 10) || (byte == 13) then codes "the line ends within a string" else
    codes "byte " ++ decimal byte ++ codes " stands in a string, where an escape has to stand for it")

-- what is wrong within a string or a number, by what stands there
abbrev pub flaw_told : Flaw → List ℕ → List ℕ
flaw_told (Control byte) rest = control_told byte
flaw_told Escape rest =
    codes "\"" ++ cut_text (take (escape_length rest) rest)
    ++ codes "\" is no escape: behind a backslash stands \", \\, /, b, f, n, r, t, or u and four hexadecimal digits"
flaw_told Half rest = codes "\"" ++ cut_text (take 6 rest) ++ codes "\" is half of a character, and its other half isn't there"
flaw_told Zero rest = codes "a number of several digits begins with 0"
flaw_told Digit rest = found_told rest (codes "a digit")

-- that the text ends within the string that begins at this place
abbrev pub open_told : ℕ → List ℕ → List ℕ
open_told begin file = codes "the text ends within the string that begins in line " ++ decimal (line_number begin file)
    ++ codes ", column " ++ decimal (column_number begin file)

-- why a text ends being JSON at this place
abbrev pub halt_told : Halt → ℕ → List ℕ → List ℕ
halt_told (Token opened) at file = token_told opened (last_of (take at file)) (drop at file)
halt_told Large at file = codes "the number is too large"
halt_told Deep at file = codes "more than 127 lists and objects are in one another"
halt_told NoText at file = codes "the bytes are no text in UTF-8"
halt_told (Open begin) at file = open_told begin file
halt_told (Flawed flaw) at file = flaw_told flaw (drop at file)

-- where bytes stop being a JSON text, and why
abbrev pub json_told : Halt → ℕ → List ℕ → List ℕ
json_told halt at file =
    codes "the file, line " ++ decimal (line_number at file) ++ codes ", column " ++ decimal (column_number at file) ++ codes ": "
    ++ halt_told halt at file

-- a text stops being JSON for this
abbrev pub IsOfText : Halt → Type 0
IsOfText NoText = ⊥
IsOfText (Token opened) = Unit {0}
IsOfText Large = Unit {0}
IsOfText Deep = Unit {0}
IsOfText (Open begin) = ⊥
IsOfText (Flawed flaw) = ⊥

-- bytes stop being a JSON text at this place: where they are no text it is the first at which they aren't; of a text it is some place of its, where the flaw stands that is told, or else its end, behind the quote that is told
abbrev pub HaltsAt : Halt → ℕ → List ℕ → Type 0
HaltsAt NoText at file = (IsUtf8 file → ⊥) × IsValidUpTo file at
HaltsAt (Token opened) at file = IsUtf8 file × (at ≤ length file)
HaltsAt Large at file = IsUtf8 file × (at ≤ length file)
HaltsAt Deep at file = IsUtf8 file × (at ≤ length file)
HaltsAt (Open begin) at file = IsUtf8 file × (at ≡ length file) × (first_is 34 (drop begin file) ≡ true)
HaltsAt (Flawed flaw) at file = IsUtf8 file × (at ≤ length file) × IsFlaw flaw (drop at file)

-- ---- what stands at the place where a text stops being JSON

-- the first of some bytes that isn't passed over
abbrev pub first_of : List ℕ → Option ℕ
first_of [] = None
first_of (byte ∷ more) = if is_space byte then first_of more else Some byte

-- a list or an object begins with this byte
abbrev pub is_opening : ℕ → Bool
is_opening byte = (byte == 91) || (byte == 123)

-- it does with this, if it is one
abbrev pub opens : Option ℕ → Bool
opens None = false
opens (Some byte) = is_opening byte

-- a number begins with this byte
abbrev pub begins_number : Option ℕ → Bool
begins_number None = false
begins_number (Some byte) = (byte == 45) || is_digit byte

-- behind this byte, the last that isn't passed over, a digit is wanted
abbrev pub wants_digit : Option ℕ → Bool
wants_digit None = false
wants_digit (Some last) = (last == 45) || ((last == 46) || ((last == 101) || ((last == 69) || (last == 43))))

abbrev pub is_array : Opened → Bool
is_array Nothing = false
is_array Array = true
is_array Object = false

-- behind this byte a value is wanted, by what is open there
abbrev pub wants_value : Opened → Option ℕ → Bool
wants_value opened None = true
wants_value opened (Some last) = (last == 58) || ((last == 91) || ((last == 44) && is_array opened))

-- how many lists and objects have begun
abbrev pub openings_in : List ℕ → ℕ
openings_in text = count_by is_opening text

-- how many quotes there are
abbrev pub quotes_in : List ℕ → ℕ
quotes_in text = count_by (λ byte. byte == 34) text

-- a flaw may stand behind this text: where a digit is wanted; and within a string
abbrev pub may_flaw : Flaw → List ℕ → Bool
may_flaw Digit text = wants_digit (last_of text)
may_flaw Zero text = true
may_flaw flaw text = nat_lt 0 (quotes_in text)

-- what stands around the place bears out what is told: no list and no object where a value is wanted; a number that is too large; so many lists and objects in front; the flaw of a number, or a string
unfoldable pub bears_out : Halt → ℕ → List ℕ → Bool
bears_out (Token opened) at file = not (wants_value opened (last_of (take at file)) && opens (first_of (drop at file)))
bears_out Large at file = begins_number (first_of (drop at file))
bears_out Deep at file = nat_le 127 (openings_in (take at file))
bears_out NoText at file = true
bears_out (Open begin) at file = true
bears_out (Flawed flaw) at file = may_flaw flaw (take at file)

-- what is told of bytes that stop being a JSON text at this place: that place, and why, where it is borne out; or else that they are none
abbrev pub told_if : Bool → Halt → ℕ → List ℕ → List ℕ
told_if true halt at file = json_told halt at file
told_if false halt at file = codes "the file: it is no JSON text"

-- the text explains why bytes are no JSON text: if it names a place where they stop being one, and why they do there, that is borne out
pub record ExplainsJson (file text : List ℕ) : Type 0 where
  pub at : ℕ
  pub halt : Halt
  pub halts : HaltsAt halt at file
  pub is : text ≡ line_text (told_if (bears_out halt at file) halt at file)
