-- Words that are written as lines are read.
use Rattle.std.proofs.Common.{◌≡◌, ◌≢◌, ◌<◌, ◌+◌, ◌⊎◌, inl, inr, ℕ, List, [], ◌∷◌, ◌++◌, Bool, false, Option, length, refl, sym, ap, subst, arith, flat_map}
use Rattle.std.proofs.KnownBytes.{Appends-nil, Appends-trans}
use Rattle.std.proofs.lemmas.List.Concat.{flat_map-append}
use Rattle.std.specs.Io.KnownBytes.{Appends}
use Rattle.commandline.specs.declared.views.View.{View}
use Rattle.commandline.specs.declared.views.View.TheVariants as views
use Rattle.streams.specs.declared.writer.Watched.{Watched}
use Rattle.traceviews.proofs.TraceTexts.{more-lines, read-all, wrong-behind, never-wrong}
use Rattle.traceviews.specs.Lines.{AreLines, BeginWith, IsFirstWrong}
use Rattle.traceviews.specs.Styles.{styled_words, lines_words}
use Rattle.traceviews.specs.declared.line.Line.{Line}
use Rattle.poolview.specs.Shows.{ShowsText, WritesFront, RefusesLine, RefusesText, Leaves}
use Rattle.poolview.specs.declared.fault.Fault.{Fault}
use Rattle.poolview.specs.declared.fault.Fault.TheVariants as faults

-- the words of the first lines of the bytes were written, and the rest is left
pub record IsWritten {O : Type 0} (contents : O
    → Option (List ℕ)) (keys : Bool) (rest bytes : List ℕ) (old new : Watched O) : Type 0 where
  pub whole : new.failed ≡ false
  pub front : List Line
  pub begins : BeginWith front rest bytes
  pub appended : Appends (contents old.inner) (contents new.inner) (lines_words keys false front)

some_left : (rest : List ℕ) → 0 < length rest → rest ≢ []
some_left rest some none = let nothing : length rest ≡ 0 = ap length none in omega (arith, nothing, some)

empty_left : (rest : List ℕ) → length rest ≡ 0 → rest ≡ []
empty_left [] is = refl
empty_left (x ∷ xs) is = absurd (omega (arith, is))

pub none_written : {O : Type 0} (contents : O → Option (List ℕ)) (keys : Bool) (bytes : List ℕ) (old : Watched O) → old.failed ≡ false
    → IsWritten contents keys bytes bytes old old
none_written contents keys bytes old whole =
    record { whole = whole; front = []; begins = record { all = tt; parts = inl refl }; appended = Appends-nil (contents old.inner) }

pub more_written : {O : Type 0} (contents : O → Option (List ℕ)) (keys : Bool) (rest after bytes text : List ℕ) (more : List Line)
    (old mid new : Watched O) → IsWritten contents keys rest bytes old mid → BeginWith more after rest → 0 < length rest
    → text ≡ lines_words keys false more → Appends (contents mid.inner) (contents new.inner) text → new.failed ≡ false
    → IsWritten contents keys after bytes old new
more_written contents keys rest after bytes text more old mid new so_far goes some is appends whole = record {
  whole = whole;
  front = so_far.front ++ more;
  begins = more-lines so_far.front more rest after bytes so_far.begins goes (some_left rest some);
  appended = subst (λ (xs : List ℕ). Appends (contents old.inner) (contents new.inner) xs) (sym (flat_map-append (styled_words keys) so_far.front more))
      (Appends-trans (contents old.inner) (contents mid.inner) (contents new.inner) (lines_words keys false so_far.front) (lines_words keys false more)
      so_far.appended (subst (λ (xs : List ℕ). Appends (contents mid.inner) (contents new.inner) xs) is appends));
}

pub all_written : {O : Type 0} (contents : O → Option (List ℕ)) (keys : Bool) (rest bytes : List ℕ) (old new : Watched O)
    → IsWritten contents keys rest bytes old new → length rest ≡ 0
    → (lines : List Line) × AreLines lines bytes × Appends (contents old.inner) (contents new.inner) (lines_words keys false lines)
all_written contents keys rest bytes old new so_far none =
    (so_far.front, read-all so_far.front rest bytes so_far.begins (empty_left rest none), so_far.appended)

-- memory was refused behind the first lines
pub front_refused : {O : Type 0} (contents : O → Option (List ℕ)) (keys : Bool) (rest bytes : List ℕ) (old new : Watched O) (fault : Fault)
    → IsWritten contents keys rest bytes old new → fault ≡ faults.Memory
    → RefusesLine bytes fault × ((new ≡ old) ⊎ ((fault ≡ faults.Memory) × WritesFront contents keys bytes old new))
front_refused contents keys rest bytes old new fault so_far is = (
  subst (RefusesLine bytes) (sym is) tt,
  inr (is, record { front = so_far.front; rest = rest; begins = so_far.begins; appended = so_far.appended }),
)

-- no line of the rest of a text that is lines is wrong
pub rest_is_lines : {O : Type 0} (contents : O → Option (List ℕ)) (keys : Bool) (rest bytes : List ℕ) (old new : Watched O) (lines : List Line) (number : ℕ)
    → IsWritten contents keys rest bytes old new → AreLines lines bytes → 0 < length rest → IsFirstWrong number rest → ⊥
rest_is_lines contents keys rest bytes old new lines number so_far are some wrong =
    never-wrong lines (length so_far.front + number) bytes are
    (wrong-behind so_far.front rest bytes (length so_far.front) number so_far.begins refl (some_left rest some) wrong)

-- a line's fault isn't that of the output
pub line_not_output : (bytes : List ℕ) (fault : Fault) → RefusesLine bytes fault → fault ≡ faults.Output → ⊥
line_not_output bytes fault refused is = subst (RefusesLine bytes) is refused

-- words are shown
pub words_shown : (path : List ℕ) (view : View) (keys : Bool) (bytes : List ℕ) (lines : List Line) → view ≡ views.Words keys false → AreLines lines bytes
    → ShowsText path view bytes (lines_words keys false lines)
words_shown path view keys bytes lines is are =
    subst (λ (v : View). ShowsText path v bytes (lines_words keys false lines)) (sym is) (inl (record { lines = lines; are = are; shown = refl }))

refuses_words : (keys : Bool) (bytes : List ℕ) (fault : Fault) → RefusesLine bytes fault → RefusesText (views.Words keys false) bytes fault
refuses_words keys bytes (faults.Line number wanted) refused = refused
refuses_words keys bytes faults.Memory refused = tt
refuses_words keys bytes (faults.File why) refused = absurd refused
refuses_words keys bytes (faults.Stray stray) refused = absurd refused
refuses_words keys bytes faults.Output refused = absurd refused
refuses_words keys bytes faults.Large refused = absurd refused
refuses_words keys bytes faults.Graph refused = absurd refused

-- what words leave
pub leaves_words : {O : Type 0} (contents : O → Option (List ℕ)) (view : View) (keys : Bool) (bytes : List ℕ) (fault : Fault) (old new : Watched O)
    → view ≡ views.Words keys false
    → RefusesLine bytes fault × ((new ≡ old) ⊎ ((fault ≡ faults.Memory) × WritesFront contents keys bytes old new))
    → Leaves contents view bytes fault old new × RefusesText view bytes fault
leaves_words contents view keys bytes fault old new is (refused, left) =
    (at left, subst (λ (v : View). RefusesText v bytes fault) (sym is) (refuses_words keys bytes fault refused))
  where
    at : (new ≡ old) ⊎ ((fault ≡ faults.Memory) × WritesFront contents keys bytes old new) → Leaves contents view bytes fault old new
    at (inl kept) = inl kept
    at (inr (memory, front)) = inr (keys, is, memory, front)
