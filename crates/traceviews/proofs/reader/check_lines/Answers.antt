use Rattle.std.proofs.Common.{rules, ◌≡◌, ◌<◌, ◌≤◌, ◌+◌, ◌^◌, ℕ, List, Result, Err, length, ap, subst, arith}
use Rattle.traceviews.specs.declared.fault.ReadFault.{ReadFault}
use Rattle.traceviews.specs.declared.fault.ReadFault.TheVariants as read_faults
use Rattle.traceviews.specs.declared.fault.Wanted.{Wanted}
use Rattle.traceviews.specs.Lines.{IsFirstWrong}
use Rattle.traceviews.proofs.TraceTexts.{AreReadUpTo, wrong_read}
use Rattle.traceviews.proofs.reader.check_lines.Goals as goal

-- the answer names the line that is read
same_number : {T : Type 0} (n m : ℕ) (v w : Wanted) → ◌≡◌ {A = Result T ReadFault} (Err (read_faults.Line n v)) (Err (read_faults.Line m w)) → n ≡ m
same_number n m v w is = cc

-- it is the first that is none, of all lines
wrong_there : {T : Type 0} (before n number : ℕ) (v w : Wanted) (rest text : List ℕ) → AreReadUpTo before rest text → 0 < length rest → IsFirstWrong n rest
    → ◌≡◌ {A = Result T ReadFault} (Err (read_faults.Line (before + n) v)) (Err (read_faults.Line number w)) → IsFirstWrong number text
wrong_there before n number v w rest text so_far some wrong is =
    subst (λ (at : ℕ). IsFirstWrong at text) (same_number (before + n) number v w is) (wrong_read before n rest text so_far some wrong)

pub overflow_add-result : goal.overflow_add-result
overflow_add-result c =
    let found = c.in-Err-Line.ensures.wrong c.in-Err-Line.number c.in-Err-Line.wanted (ap Err c.in-Err-Line.field-0-is) in
    let within : c.in-Err-Line.number ≤ length c.loop-rest.rest.now = found.1 in
    let room = c.loop-rest.invariant.room in
    let bound : length c.args.text.now < 2 ^ 64 = search rules in
    rw c.in-Err-Line.field-0-is (omega (arith, within, room, bound))

pub returns-in-Err-Line-clause-wrong : goal.returns-in-Err-Line-clause-wrong
returns-in-Err-Line-clause-wrong c =
    let found = c.in-Err-Line.ensures.wrong c.in-Err-Line.number c.in-Err-Line.wanted (ap Err c.in-Err-Line.field-0-is) in
    let some : 0 < length c.loop-rest.rest.now = search rules in
    rw c.in-Err-Line.field-0-is (λ number wanted is.
    wrong_there c.loop-rest.before c.in-Err-Line.number number c.in-Err-Line.wanted wanted c.loop-rest.rest.now c.args.text.now c.loop-rest.invariant some
    found.0 is)
