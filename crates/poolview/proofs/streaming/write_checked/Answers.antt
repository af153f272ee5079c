use Rattle.std.proofs.Common.{rules, ◌≡◌, ◌<◌, ◌∙◌, ℕ, List, Err, false, length, sym, ap, subst}
use Rattle.std.specs.Io.KnownBytes.{Appends}
use Rattle.traceviews.specs.Lines.{BeginWith}
use Rattle.traceviews.specs.Styles.{lines_words}
use Rattle.traceviews.specs.declared.line.Line.{Line}
use Rattle.poolview.proofs.WordLemmas.{more_written, rest_is_lines}
use Rattle.poolview.proofs.streaming.write_checked.Goals as goal

pub loop-rest-preserved : goal.loop-rest-preserved
loop-rest-preserved g c =
    let contents = g.O.Write.contents in
    let mid = c.loop-rest.out in
    let new = c.write_and_flush.new.out in
    let lines = c.in-Ok.read.0.items in
    let text = c.in_ok-text.text.items in
    let some : 0 < length c.loop-rest.rest.now = search rules in
    let goes : BeginWith lines c.in-Ok.read.1.now c.loop-rest.rest.now = search rules in
    let told : text ≡ lines_words c.args.keys false lines =
    c.in_ok-text.ensures ∙ ap (λ (held : List Line). lines_words c.args.keys false held) c.as_slice.ensures.value in
    let appends : Appends (contents mid.inner) (contents new.inner) text =
    subst (λ (xs : List ℕ). Appends (contents mid.inner) (contents new.inner) xs) c.as_slice-in-loop-rest.ensures.value c.in_ok-write_and_flush.ensures.ok in
    let whole : new.failed ≡ false = sym c.in_ok-write_and_flush.ensures.watched in
    more_written contents c.args.keys c.loop-rest.rest.now c.in-Ok.read.1.now c.args.bytes.now text lines c.args.out.now mid new c.loop-rest.invariant
    goes some told appends whole

pub unreachable-requires : goal.unreachable-requires
unreachable-requires g c =
    let found = c.in-Err-Line.ensures.wrong c.in-Err-Line.field-0-0 c.in-Err-Line.field-0-1 (ap Err c.in-Err-Line.field-0-is) in
    let some : 0 < length c.loop-rest.rest.now = search rules in
    let are = c.in_ok-check_text.ensures.ok in
    rest_is_lines g.O.Write.contents c.args.keys c.loop-rest.rest.now c.args.bytes.now c.args.out.now c.loop-rest.out are.0 c.in-Err-Line.field-0-0
    c.loop-rest.invariant are.1 some found.0
