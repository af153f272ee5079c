-- What is appended to a page.
use Rattle.std.specs.Prelude.{◌≡◌, ℕ, List, ◌++◌, false}
use Rattle.traceviews.specs.declared.page.Page.{Page}

-- a page has grown by a text, unless it was refused memory
abbrev pub Grows : Page → Page → List ℕ → Type 0
Grows old new text = new.refused ≡ false → (old.refused ≡ false) × (new.bytes.items ≡ old.bytes.items ++ text)
