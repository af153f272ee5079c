-- What the page of a trace is.
use Rattle.std.specs.Prelude.{◌≡◌, ℕ, ◌==◌, List, [], ◌∷◌, ◌++◌, codes, decimal, flat_map, length, if◌then◌else◌}
use Rattle.traceviews.specs.Json.{window_text}
use Rattle.traceviews.specs.Turns.{turns_of}
use Rattle.traceviews.specs.declared.line.Line.{Line}

-- a byte of a text within an HTML element: no tag begins there, and no character's name
abbrev pub html_code : ℕ → List ℕ
html_code byte = if byte == 60 then codes "&lt;" else if byte == 38 then codes "&amp;" else byte ∷ []

-- the title of a page of a trace that has this name
abbrev pub title_text : List ℕ → List ℕ
title_text name = codes "<title>" ++ flat_map html_code name ++ codes "</title>"

-- the element with so many turns of a trace from this one on, and how many it has in all
abbrev pub data_text : ℕ → ℕ → List Line → List ℕ
data_text first count lines =
    (codes "<script type='application/json' id='trace' data-turns='" ++ decimal (length (turns_of lines))) ++ codes "'>\n"
    ++ window_text first count lines ++ codes "</script>\n"

-- an HTML text with the title and so many turns of the trace from this one on in it; of the rest no clause speaks
pub record IsHtmlPage (name : List ℕ) (first count : ℕ) (lines : List Line) (text : List ℕ) : Type 0 where
  pub head : List ℕ
  pub middle : List ℕ
  pub tail : List ℕ
  pub is : text ≡ codes "<!DOCTYPE html>\n" ++ head ++ title_text name ++ middle ++ data_text first count lines ++ tail ++ codes "</html>\n"

-- a byte of a JSON text within a script's element: of the sign that begins a tag, which stands only in the strings of such a text, its number
abbrev pub script_code : ℕ → List ℕ
script_code byte = if byte == 60 then codes "\\u003c" else byte ∷ []

-- the element with the states of a script, whose JSON this is
abbrev pub states_text : List ℕ → List ℕ
states_text json = codes "<script type='application/json' id='states'>\n" ++ flat_map script_code json ++ codes "\n</script>\n"

-- an HTML text with the title and the states of a script in it; of the rest no clause speaks
pub record IsWaysPage (name json text : List ℕ) : Type 0 where
  pub head : List ℕ
  pub middle : List ℕ
  pub tail : List ℕ
  pub is : text ≡ codes "<!DOCTYPE html>\n" ++ head ++ title_text name ++ middle ++ states_text json ++ tail ++ codes "</html>\n"
