-- What a contract sees of lines, and of the entries that hold them.
use Rattle.std.specs.Prelude.{◌≡◌, ℕ, List, [], ◌∷◌, length, Option, Some, None}
use Rattle.relaysample.specs.declared.lines.Line.{Line}
use Rattle.relaysample.specs.declared.lines.Entry.{Entry}

-- the content of a line: its thread, its number, and how long it took
abbrev pub numbers_of : Line → List ℕ
numbers_of line = line.thread ∷ line.number ∷ line.millis ∷ []

abbrev pub numbers_in : Option Line → List ℕ
numbers_in None = []
numbers_in (Some line) = numbers_of line

-- the content of an entry: that of its line, and none where it has none
abbrev pub content_of : Entry → List ℕ
content_of entry = numbers_in entry.line

-- the content is a line's: it has three numbers
abbrev pub IsLine : List ℕ → Type 0
IsLine content = length content ≡ 3
