-- What a contract sees of requests, of the entries that hold them, and of what is read of those.
use Rattle.std.specs.Prelude.{◌≡◌, ℕ, ◌==◌, List, [], ◌∷◌, length, if◌then◌else◌}
use Rattle.logsample.specs.declared.entries.Entry.{Entry}
use Rattle.logsample.specs.declared.entries.Request.{Request}
use Rattle.logsample.specs.declared.entries.Line.{Line}

-- the content of a request: its status, how many bytes were sent, and its path
abbrev pub numbers_of : Request → List ℕ
numbers_of request = request.status ∷ request.bytes ∷ request.path.now

-- the content of an entry: none where its status is 0, and else its request
abbrev pub content_of : Entry → List ℕ
content_of entry = if entry.status == 0 then [] else entry.status ∷ entry.bytes ∷ entry.path.bytes

-- what is read of a content
abbrev pub line_of : List ℕ → Line
line_of [] = record { status = 0; bytes = 0; length = 0 }
line_of (status ∷ []) = record { status = status; bytes = 0; length = 0 }
line_of (status ∷ bytes ∷ path) = record { status = status; bytes = bytes; length = length path }
