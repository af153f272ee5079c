-- What is written to a watched writer.
use Rattle.std.specs.Prelude.{◌≡◌, ℕ, List, Option, false}
use Rattle.std.specs.Io.KnownBytes.{Appends}
use Rattle.streams.specs.declared.writer.Watched.{Watched}

-- known bytes of a watched writer have grown by a text, unless a write of its failed
abbrev pub Says : {W : Type 0} → (W → Option (List ℕ)) → Watched W → Watched W → List ℕ → Type 0
Says contents old new text = new.failed ≡ false → (old.failed ≡ false) × Appends (contents old.inner) (contents new.inner) text
