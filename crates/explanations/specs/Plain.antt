-- Why a file wasn't read, why the output can't be written, and why a number is no key's, in words.
use Rattle.std.specs.Prelude.{ℕ, List, ◌++◌, decimal, codes}
use Rattle.streams.specs.Reasons.{reason_text, output_told}
use Rattle.streams.specs.Shown.{cut_text, line_text}
use Rattle.streams.specs.declared.reading.Unreadable.{Unreadable}
use Rattle.streams.specs.declared.write_failed.Unwritable.{Unwritable}

-- why the file at this path wasn't read, by the system's reason
abbrev pub file_told : List ℕ → Unreadable → List ℕ
file_told path why = codes "\"" ++ cut_text path ++ codes "\" can't be opened, or not read to its end: " ++ reason_text why

-- the line that explains it
abbrev pub file_line : List ℕ → Unreadable → List ℕ
file_line path why = line_text (file_told path why)

-- the line that explains why standard output can't be written, by the system's reason
abbrev pub output_line : Unwritable → List ℕ
output_line why = line_text (output_told why)

-- the line that explains why a number is no key's
abbrev pub no_key_line : ℕ → List ℕ
no_key_line number = line_text (decimal number ++ codes " is no key: its generation, which is its bits 24 to 55, is 0")
