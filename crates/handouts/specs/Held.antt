-- What objects that are handed out have.
use Rattle.std.specs.Prelude.{◌≡◌, ℕ, List, [], Option, Some, None}

module _ {U : Type 0} (content : U → List ℕ) where
  -- the content of what is held: none is empty
  abbrev pub content_in : Option U → List ℕ
  content_in None = []
  content_in (Some object) = content object

  -- what was taken out, an object of this content, whatever was taken before
  abbrev pub TookOut : Option U → List ℕ → Option U → Type 0
  TookOut before bytes after = content_in after ≡ bytes
