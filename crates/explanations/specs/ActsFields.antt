-- The fields of a line of a text of acts: what each is to be, and which is the first that isn't.
use Rattle.std.specs.Prelude.{ℕ, ◌+◌, ◌%◌, ◌==◌, ◌&&◌, ◌||◌, Bool, false, not, nat_lt, nat_le, List, [], ◌∷◌, ◌++◌, length, Option, Some, None, is_some, if◌then◌else◌, decimal, codes}
use Rattle.std.specs.List.{list_all}
use Rattle.std.specs.Str.{bytes_eq}
use Rattle.keybits.specs.declared.place.TheConstants.{GREATEST_PLACE}
use Rattle.schedules.specs.Numbers.{number_of}
use Rattle.schedules.specs.Parts.{parts_of}
use Rattle.streams.specs.Shown.{cut_text}
use Rattle.explanations.specs.declared.acts_fields.Want.{Want}
use Rattle.explanations.specs.declared.acts_fields.WrongField.{WrongField}
use Rattle.explanations.specs.declared.acts_fields.WrongField.TheVariants as wrongs
use Rattle.explanations.specs.declared.acts_fields.Want.TheVariants.{Word, Number, Lane, Name, Key, Content, Flag, Reply, Truth, Place, Places}

-- a zero stands in front of other digits
abbrev pub has_leading_zero : List ℕ → Bool
has_leading_zero [] = false
has_leading_zero (digit ∷ []) = false
has_leading_zero (digit ∷ next ∷ more) = digit == 48

-- a decimal number without leading zeros, at most the limit
abbrev pub is_number : ℕ → List ℕ → Bool
is_number limit text = is_some (number_of 20 limit text) && not (has_leading_zero text)

-- the number of a place
abbrev pub is_place_number : List ℕ → Bool
is_place_number text = is_number GREATEST_PLACE text

-- a hexadecimal digit, in lower case
abbrev pub is_hex_digit : ℕ → Bool
is_hex_digit byte = (nat_le 48 byte && nat_le byte 57) || (nat_le 97 byte && nat_le byte 102)

-- one or more pairs of hexadecimal digits
abbrev pub are_pairs : List ℕ → Bool
are_pairs text = not (length text == 0) && (length text % 2 == 0) && list_all is_hex_digit text

-- the name of an act
abbrev pub is_name : List ℕ → Bool
is_name text =
    bytes_eq text (codes "publish")
    || (bytes_eq text (codes "get")
    || (bytes_eq text (codes "release") || (bytes_eq text (codes "clear") || (bytes_eq text (codes "reclaim")
    || (bytes_eq text (codes "home") || bytes_eq text (codes "collect"))))))

-- the field is what it is to be
abbrev pub fits : Want → List ℕ → Bool
fits Word text = bytes_eq text (codes "shape")
fits Number text = is_number 4294967295 text
fits Lane text = is_number 4294967295 text
fits Name text = is_name text
fits Key text = is_number 18446744073709551615 text
fits Content text = bytes_eq text (codes "-") || are_pairs text
fits Flag text = bytes_eq text (codes "0") || bytes_eq text (codes "1")
fits Reply text = bytes_eq text (codes "none") || bytes_eq text (codes "some")
fits Truth text = bytes_eq text (codes "true") || bytes_eq text (codes "false")
fits Place text = is_place_number text
fits Places text = list_all is_place_number (parts_of 44 text)

-- ---- which fields a line has

-- the fields of a line
abbrev pub fields_of : List ℕ → List (List ℕ)
fields_of line = parts_of 32 line

-- the first of some fields, and those behind it; empty where there is none
abbrev pub first_of : List (List ℕ) → List ℕ
first_of [] = []
first_of (field ∷ more) = field

abbrev pub behind : List (List ℕ) → List (List ℕ)
behind [] = []
behind (field ∷ more) = more

-- what the fields of a shape's line are to be, which are so many: one more where it has a tag
abbrev pub shape_wants : ℕ → List Want
shape_wants count =
    if nat_lt 5 count then Word ∷ Number ∷ Number ∷ Number ∷ Number ∷ Number ∷ [] else Word ∷ Number ∷ Number ∷ Number ∷ Number ∷ []

-- what the fields of an act's line are to be, by the name and the fourth field
unfoldable pub wants_by : List ℕ → List ℕ → List Want
wants_by name fourth =
    if bytes_eq name (codes "publish") then Lane ∷ Name ∷ Key ∷ Content ∷ Flag ∷ [] else
    (if bytes_eq name (codes "get") then (if bytes_eq fourth (codes "some") then Lane ∷ Name ∷ Key ∷ Reply ∷ Content ∷ []
    else Lane ∷ Name ∷ Key ∷ Reply ∷ []) else
    (if bytes_eq name (codes "clear") then Lane ∷ Name ∷ Key ∷ Truth ∷ [] else
    (if bytes_eq name (codes "home") then Lane ∷ Name ∷ Place ∷ [] else
    (if bytes_eq name (codes "collect") then Lane ∷ Name ∷ Places ∷ [] else Lane ∷ Name ∷ Key ∷ []))))

-- the same, of these fields
abbrev pub act_wants : List (List ℕ) → List Want
act_wants fields = wants_by (first_of (behind fields)) (first_of (behind (behind (behind fields))))

-- ---- the first that is wrong

-- a field that is wrong, with its number, counted from 0: one that is missing, one that isn't what it is to be, or one too much
pub data Wrong : Type 0 where
  Missing : ℕ → Want → Wrong
  Unfit : ℕ → Want → List ℕ → Wrong
  Extra : ℕ → List ℕ → Wrong

-- a field that is wrong, as it is seen
abbrev pub seen_wrong : WrongField → Wrong
seen_wrong (wrongs.Missing number want) = Missing number want
seen_wrong (wrongs.Unfit number want field) = Unfit number want field.now
seen_wrong (wrongs.Extra number field) = Extra number field.now

-- the first of these fields that is wrong, where so many stand before them
abbrev pub first_wrong : ℕ → List Want → List (List ℕ) → Option Wrong
first_wrong number [] [] = None
first_wrong number [] (field ∷ more) = Some (Extra number field)
first_wrong number (want ∷ wants) [] = Some (Missing number want)
first_wrong number (want ∷ wants) (field ∷ more) = if fits want field then first_wrong (number + 1) wants more
    else Some (Unfit number want field)

-- ---- in words

-- what a field is to be
abbrev pub want_text : Want → List ℕ
want_text Word = codes "the word shape"
want_text Number = codes "a decimal number of at most 4294967295 without leading zeros"
want_text Lane = codes "a lane: a decimal number of at most 4294967295 without leading zeros"
want_text Name = codes "the name of an act: publish, get, release, clear, reclaim, home or collect"
want_text Key = codes "a key: a decimal number of at most 18446744073709551615 without leading zeros"
want_text Content = codes "bytes: pairs of lower-case hexadecimal digits, or - for none"
want_text Flag = codes "0, or 1 where a reference is kept"
want_text Reply = codes "some and bytes, or none"
want_text Truth = codes "true or false"
want_text Place = codes "a place: a decimal number of at most 16777215 without leading zeros"
want_text Places = codes "places with single commas between them, each a decimal number of at most 16777215 without leading zeros"

-- what is wrong with a field; fields are counted from 1 in words
abbrev pub missing_told : ℕ → Want → List ℕ
missing_told number want = codes "field " ++ decimal (number + 1) ++ codes " is missing: " ++ want_text want

abbrev pub unfit_told : ℕ → Want → List ℕ → List ℕ
unfit_told number want field = codes "field " ++ decimal (number + 1) ++ codes ", \"" ++ cut_text field ++ codes "\", isn't "
    ++ want_text want

abbrev pub extra_told : ℕ → List ℕ → List ℕ
extra_told number field = codes "field " ++ decimal (number + 1) ++ codes ", \"" ++ cut_text field ++ codes "\", is too much"

abbrev pub wrong_told : Option Wrong → List ℕ
wrong_told None = codes "it can't be read"
wrong_told (Some (Missing number want)) = missing_told number want
wrong_told (Some (Unfit number want field)) = unfit_told number want field
wrong_told (Some (Extra number field)) = extra_told number field

-- what is wrong with a line that is no shape's; and with one that is no act's
abbrev pub shape_line_told : List ℕ → List ℕ
shape_line_told line = wrong_told (first_wrong 0 (shape_wants (length (fields_of line))) (fields_of line))

abbrev pub act_line_told : List ℕ → List ℕ
act_line_told line = wrong_told (first_wrong 0 (act_wants (fields_of line)) (fields_of line))
