-- The lines of a text.
use Rattle.std.specs.Prelude.{ℕ, ◌+◌, ◌==◌, List, [], take, drop, Option, Some, None, position, zero, suc}

-- what stands before the first end of a line, by the place of that
abbrev pub before_end : List ℕ → Option ℕ → List ℕ
before_end text None = text
before_end text (Some at) = take at text

-- what stands before the first end of a line
abbrev pub first_line : List ℕ → List ℕ
first_line text = before_end text (position (λ byte. byte == 10) text)

-- what stands behind the first end of a line, by the place of that
abbrev pub behind_end : List ℕ → Option ℕ → List ℕ
behind_end text None = []
behind_end text (Some at) = drop (at + 1) text

-- what stands behind the first end of a line
abbrev pub after_line : List ℕ → List ℕ
after_line text = behind_end text (position (λ byte. byte == 10) text)

-- a text without so many lines at its front
abbrev pub after_lines : ℕ → List ℕ → List ℕ
after_lines zero text = text
after_lines (suc more) text = after_lines more (after_line text)

-- the line with so many lines before it
abbrev pub line_at : ℕ → List ℕ → List ℕ
line_at before text = first_line (after_lines before text)
