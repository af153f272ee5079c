use Rattle.std.proofs.Common.{rules, ◌≡◌, ◌≢◌, ◌+◌, ◌<◌, ◌≤◌, ◌⊎◌, inl, inr, ◌++◌, ◌∷◌, [], ℕ, List, Result, Err, length, refl, ap, arith, length-append}
use Rattle.seqpool.specs.ActsText.{IsUpToLineFeed}
use Rattle.traceviews.specs.declared.fault.ReadFault.{ReadFault}
use Rattle.traceviews.specs.declared.fault.ReadFault.TheVariants as read_faults
use Rattle.traceviews.specs.declared.fault.Wanted.{Wanted}
use Rattle.seqpool.specs.ReadTexts.{NothingHas}
use Rattle.traceviews.specs.ReadLines.{IsLineText}
use Rattle.traceviews.specs.Lines.{trace_lines, line_text, HasLine, AreLines, IsFirstWrong}
use Rattle.traceviews.specs.declared.line.Line.{Line}
use Rattle.traceviews.proofs.TraceTexts.{IsReadUpTo, read-wrong, no-line, never-wrong, turns-lines, read-line, nothing_left}
use Rattle.traceviews.proofs.reader.read_lines.Goals as goal
use Rattle.traceviews.proofs.reader.read_lines.Goals.{then-loop-lines-test+else-len-most, else-loop-lines-test}

-- the answer names the line that is read
same_number : {T : Type 0} (n m : ℕ) (v w : Wanted) → ◌≡◌ {A = Result T ReadFault} (Err (read_faults.Line n v)) (Err (read_faults.Line m w)) → n ≡ m
same_number n m v w is = cc

-- the line of this number is the first that is none
wrong_here : {T : Type 0} (lines : List Line) (rest text : List ℕ) (count number : ℕ) (v w : Wanted) → IsReadUpTo lines rest text → length rest ≢ 0
    → ((line : Line) (more : List ℕ) → HasLine line → IsUpToLineFeed rest (line_text line ++ more) → ⊥) → count ≡ length lines
    → ◌≡◌ {A = Result T ReadFault} (Err (read_faults.Line (count + 1) v)) (Err (read_faults.Line number w))
    → IsFirstWrong number text × (number ≤ length text)
wrong_here lines rest text count number v w so_far some wrong counted is =
    let same : count + 1 ≡ number = same_number (count + 1) number v w is in
    let here : number ≡ length lines + 1 = omega arith in
    let room = so_far.room in
    (read-wrong lines rest text number so_far.begins here (λ none. some (ap length none)) wrong, omega (arith, room, here, some))

-- what is written of turns has no wrong line
written_here : (lines : List Line) (rest text : List ℕ) (all : List Line) → IsReadUpTo lines rest text → length rest ≢ 0
    → ((line : Line) (more : List ℕ) → HasLine line → IsUpToLineFeed rest (line_text line ++ more) → ⊥) → AreLines all text → ⊥
written_here lines rest text all so_far some wrong are =
    never-wrong all (length lines + 1) text are (read-wrong lines rest text (length lines + 1) so_far.begins refl (λ none. some (ap length none)) wrong)

pub returns-in-Err-Lacks-clause-wrong : goal.returns-in-Err-Lacks-clause-wrong
returns-in-Err-Lacks-clause-wrong c = λ number wanted is.
    let never : NothingHas IsLineText c.first_line.result.0.now = rw c.in-Err-Lacks.field-0-is at (c.in-Err-Lacks.ensures {u = tt}) in
    let some : length c.loop-lines.rest.now ≢ 0 = search rules in
    let counted : c.len-number.result ≡ length c.loop-lines.lines.items = search rules in
    wrong_here c.loop-lines.lines.items c.loop-lines.rest.now c.args.text.now c.len-number.result number _ wanted c.loop-lines.invariant.0 some
    (no-line c.loop-lines.rest.now c.first_line.result.0.now c.first_line.result.1.now c.first_line.ensures.line never) counted is

pub returns-in-Err-Lacks-clause-written : goal.returns-in-Err-Lacks-clause-written
returns-in-Err-Lacks-clause-written c = λ turns are is.
    let never : NothingHas IsLineText c.first_line.result.0.now = rw c.in-Err-Lacks.field-0-is at (c.in-Err-Lacks.ensures {u = tt}) in
    let some : length c.loop-lines.rest.now ≢ 0 = search rules in
    absurd (written_here c.loop-lines.lines.items c.loop-lines.rest.now c.args.text.now (trace_lines turns) c.loop-lines.invariant.0 some
    (no-line c.loop-lines.rest.now c.first_line.result.0.now c.first_line.result.1.now c.first_line.ensures.line never) (turns-lines turns c.args.text.now are is))

-- one more is no more than the most
one_more : {T : Type 0} (old new : List T) (x : T) (most : ℕ) → new ≡ old ++ x ∷ [] → length old < most → length new ≤ most
one_more old new x most is below = let grown : length new ≡ length (old ++ x ∷ []) = ap length is in omega (arith, length-append old (x ∷ []), grown, below)

-- as many as there may be, or nothing is left
all_held : {T : Type 0} (held : List T) (rest : List ℕ) (most : ℕ) → length held ≤ most → most ≤ length held → (length held ≡ most) ⊎ (rest ≡ [])
all_held held rest most few many = inl (omega (arith, few, many))

pub returns-clause-whole : goal.returns-clause-whole
returns-clause-whole c = elim c.loop-lines-test.branch [
  | then-loop-lines-test+else-len-most w ↦
      let many : c.args.most ≤ length c.loop-lines.lines.items = search rules in
      all_held c.loop-lines.lines.items c.loop-lines.rest.now c.args.most c.loop-lines.invariant.1 many
  | else-loop-lines-test w ↦
      let none : length c.loop-lines.rest.now ≡ 0 = search rules in
      inr (nothing_left c.loop-lines.rest.now none)
]

pub loop-lines-preserved : goal.loop-lines-preserved
loop-lines-preserved c =
    let some : 0 < length c.loop-lines.rest.now = search rules in
    let below : length c.loop-lines.lines.items < c.args.most = search rules in (
      read-line c.loop-lines.lines.items c.push.new.self.items c.in-Ok.line c.loop-lines.rest.now c.first_line.result.0.now c.first_line.result.1.now
          c.args.text.now c.loop-lines.invariant.0 some c.first_line.ensures.line c.first_line.ensures.shorter c.in-Ok.ensures c.in_ok-push-in-Ok.ensures.items,
      one_more c.loop-lines.lines.items c.push.new.self.items c.in-Ok.line c.args.most c.in_ok-push-in-Ok.ensures.items below,
    )
