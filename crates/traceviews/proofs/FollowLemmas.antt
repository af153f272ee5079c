-- Lines that follow from one another.
use Rattle.std.proofs.Common.{◌≡◌, ◌∙◌, ◌+◌, ◌<◌, ℕ, List, [], ◌∷◌, ◌++◌, length, get_or, take, drop, refl, sym, ap, subst, arith}
use Rattle.std.proofs.lemmas.List.{take_more, drop_more, take-append-drop, length-take-le}
use Rattle.steplaws.specs.Facts.{Words}
use Rattle.traces.specs.Lawful.{first_words}
use Rattle.traceviews.specs.Values.{AreValues}
use Rattle.traceviews.specs.WordSteps.{Follows, FollowFrom, IsWrong, IsFirstStray, words_behind, words_from, last_told}
use Rattle.traceviews.specs.declared.following.Wrong.{Wrong}
use Rattle.traceviews.specs.declared.line.Line.{Line}
use Rattle.traceviews.specs.declared.values.Values.{Values}

-- the words behind some lines and one more
words_more : (words : Words) (front : List Line) (line : Line) → words_from words (front ++ line ∷ []) ≡ words_behind (words_from words front) line.entry
words_more words [] line = refl
words_more words (first ∷ front) line = words_more (words_behind words first.entry) front line

-- some lines follow, and one more behind them
follow_more : (last : ℕ) (words : Words) (front : List Line) (line : Line) → FollowFrom last words front → Follows last (words_from words front) line.entry
    → FollowFrom last words (front ++ line ∷ [])
follow_more last words [] line front follows = (follows, tt)
follow_more last words (first ∷ front) line rest follows = (rest.0, follow_more last (words_behind words first.entry) front line rest.1 follows)

-- the first lines of some follow, and so does the next
pub follow_next : (last : ℕ) (words : Words) (lines : List Line) (at : ℕ) (line : Line) → at < length lines → line ≡ get_or lines at line
    → FollowFrom last words (take at lines) → Follows last (words_from words (take at lines)) line.entry → FollowFrom last words (take (at + 1) lines)
follow_next last words lines at line within here front follows =
    subst (FollowFrom last words) (ap (λ (l : Line). take at lines ++ l ∷ []) here ∙ sym (take_more lines at line within))
    (follow_more last words (take at lines) line front follows)

-- the values behind the first lines of some, and behind the next
pub values_next : (new : Values) (words : Words) (lines : List Line) (at : ℕ) (line : Line) → at < length lines → line ≡ get_or lines at line
    → AreValues new (words_behind (words_from words (take at lines)) line.entry) → AreValues new (words_from words (take (at + 1) lines))
values_next new words lines at line within here are =
    subst (AreValues new) (sym (words_more words (take at lines) line) ∙ ap (words_from words)
    (ap (λ (l : Line). take at lines ++ l ∷ []) here ∙ sym (take_more lines at line within))) are

-- the first lines of some follow, and the next doesn't
pub stray_next : (lines : List Line) (at : ℕ) (line : Line) (wrong : Wrong) → at < length lines → line ≡ get_or lines at line
    → FollowFrom (last_told lines) first_words (take at lines) → IsWrong (last_told lines) (words_from first_words (take at lines)) line.entry wrong
    → IsFirstStray (at + 1) wrong lines
stray_next lines at line wrong within here front stray = record {
  front = take at lines;
  line = line;
  behind = drop (at + 1) lines;
  parts = sym (take-append-drop at lines) ∙ ap (λ (xs : List Line). take at lines ++ xs)
      (drop_more lines at line within ∙ ap (λ (l : Line). l ∷ drop (at + 1) lines) (sym here));
  counted = ap (λ n. n + 1) (sym (length-take-le at lines (omega arith)));
  follow = front;
  stray = stray;
}
