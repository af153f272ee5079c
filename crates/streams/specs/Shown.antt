-- How bytes are shown in a line that wasn't written by these programs: what a file, a word or a value has.
use Rattle.std.specs.Prelude.{◌≡◌, ℕ, ◌≤◌, ◌&&◌, ◌==◌, ◌⊎◌, List, [], ◌∷◌, ◌++◌, All, length, take, flat_map, nat_le, if◌then◌else◌, decimal, codes}

-- a byte: as it is where it is a character of ASCII that can be printed, and else its number
abbrev pub byte_text : ℕ → List ℕ
byte_text byte = if nat_le 32 byte && nat_le byte 126 then byte ∷ [] else codes "<" ++ decimal byte ++ codes ">"

-- some bytes, one after the other
abbrev pub bytes_text : List ℕ → List ℕ
bytes_text bytes = flat_map byte_text bytes

-- of more than 80 bytes the first 60, and two points
abbrev pub cut : List ℕ → List ℕ
cut bytes = if nat_le (length bytes) 80 then bytes else take 60 bytes ++ codes ".."

-- what is shown of a word or a line, however long it is
abbrev pub cut_text : List ℕ → List ℕ
cut_text bytes = bytes_text (cut bytes)

-- the same, in quotes
abbrev pub shown_bytes : List ℕ → List ℕ
shown_bytes bytes = codes "\"" ++ cut_text bytes ++ codes "\""

-- a byte of a text of several lines: the end of a line is as it is
abbrev pub in_lines : ℕ → List ℕ
in_lines byte = if byte == 10 then 10 ∷ [] else byte_text byte

-- what is shown of a text of several lines
abbrev pub lines_text : List ℕ → List ℕ
lines_text text = flat_map in_lines text

-- a line that can be printed: what is shown of a text, of which only the first 2000 bytes, and the line's end
abbrev pub line_text : List ℕ → List ℕ
line_text text = bytes_text (take 2000 text) ++ codes "\n"

-- a byte of ASCII that can be printed: neither a control character nor a part of a character of several bytes
abbrev pub IsPrintable : ℕ → Type 0
IsPrintable byte = (32 ≤ byte) × (byte ≤ 126)

-- one line of bytes that can be printed, in which at most 2000 bytes are shown
pub record IsSafeLine (text : List ℕ) : Type 0 where
  pub told : List ℕ
  pub short : length told ≤ 2000
  pub is : text ≡ bytes_text told ++ codes "\n"
  pub printable : All IsPrintable (bytes_text told)

-- a byte of a text of lines that can be printed
abbrev pub IsPrintableOrEnd : ℕ → Type 0
IsPrintableOrEnd byte = IsPrintable byte ⊎ (byte ≡ 10)
