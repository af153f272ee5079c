-- Texts that are written one behind another.
use Rattle.std.proofs.Common.{◌≡◌, ℕ, List, [], ◌++◌, Option, sym, subst}
use Rattle.std.specs.Io.KnownBytes.{Appends}
use Rattle.std.proofs.KnownBytes.{Appends-nil, Appends-trans}
use Rattle.streams.specs.Saying.{Says}
use Rattle.streams.specs.declared.writer.Watched.{Watched}

-- nothing was written
pub says_nothing : {W : Type 0} (contents : W → Option (List ℕ)) (out : Watched W) → Says contents out out []
says_nothing contents out = λ whole. (whole, Appends-nil (contents out.inner))

-- a text, and another behind it
pub says_more : {W : Type 0} (contents : W → Option (List ℕ)) (old mid new : Watched W) (first second text : List ℕ)
    → Says contents old mid first → Says contents mid new second → text ≡ first ++ second → Says contents old new text
says_more contents old mid new first second text one two is = λ whole.
    let last = two whole in
    let before = one last.0 in
    (before.0, subst (Appends (contents old.inner) (contents new.inner)) (sym is) (Appends-trans _ _ _ first second before.1 last.1))
