-- Places of a text, and of a script file, in words.
use Rattle.std.specs.Prelude.{ℕ, ◌+◌, ◌==◌, List, [], ◌++◌, Option, Some, None, count_by, fold, take, if◌then◌else◌, decimal, codes}
use Rattle.scripts.specs.ScriptPlaces.{field_text}
use Rattle.scripts.specs.declared.script_place.ScriptPlace.{ScriptPlace}
use Rattle.scripts.specs.declared.script_place.ScriptPlace.TheVariants.{File, Field, Scripts, Script, Line, Item}

-- how many ends of lines there are
abbrev pub ends_in : List ℕ → ℕ
ends_in text = count_by (λ byte. byte == 10) text

-- the number of the line that a text's byte stands in, counted from 1
abbrev pub line_number : ℕ → List ℕ → ℕ
line_number at text = ends_in (take at text) + 1

-- the column behind one byte more; the first of a line has number 1
abbrev pub column_with : ℕ → ℕ → ℕ
column_with column byte = if byte == 10 then 1 else column + 1

-- the column of a text's byte
abbrev pub column_number : ℕ → List ℕ → ℕ
column_number at text = fold column_with 1 (take at text)

-- which operand of a line an item is; the first item is the command's name
abbrev pub operand_text : ℕ → List ℕ
operand_text item = if item == 0 then [] else codes ", operand " ++ decimal item

-- that a line of a script stands in this line of the file, where that is known
abbrev pub in_file : Option ℕ → List ℕ
in_file (Some number) = codes " (line " ++ decimal number ++ codes " of the file)"
in_file None = []

-- a line of a lane's script, which is counted from 1 in words, and stands in this line of the file; and an item of it
abbrev pub line_place : Option ℕ → ℕ → ℕ → ℕ → List ℕ
line_place number lane line item = codes "lane " ++ decimal lane ++ codes ", line " ++ decimal (line + 1) ++ in_file number ++ operand_text item

-- a place of a script file; if in a line of a script, then that stands in this line of the file, where that is known
abbrev pub place_text : Option ℕ → ScriptPlace → List ℕ
place_text number File = codes "the file"
place_text number (Field name) = codes "field " ++ field_text name
place_text number Scripts = codes "field scripts"
place_text number (Script lane) = codes "lane " ++ decimal lane
place_text number (Line lane line) = line_place number lane line 0
place_text number (Item lane line item) = line_place number lane line item
