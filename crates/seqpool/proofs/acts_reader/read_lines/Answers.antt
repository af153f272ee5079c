use Rattle.std.proofs.Common.{◌≢◌, length, sym, arith}
use Rattle.std.proofs.lemmas.Bool.{eqb-true, eqb-false}
use Rattle.std.proofs.lemmas.Result.{err_from_is_err_and}
use Rattle.seqpool.specs.ReadTexts.{AreActs}
use Rattle.seqpool.proofs.Parts.{read-none, read-next, read-stop, read-end}
use Rattle.seqpool.proofs.TextLaws.{acts-first, acts-never, acts-end}
use Rattle.seqpool.proofs.WrongLines.{begun-none, begun-more, lines-refused}
use Rattle.seqpool.proofs.acts_reader.read_lines.Goals as goal

pub loop-rest-init : goal.loop-rest-init
loop-rest-init c = record {
  read = read-none AreActs c.new-acts.result.items c.args.text.now c.new-acts.ensures.items;
  begun = begun-none c.new-acts.result.items c.args.text.now c.new-acts.ensures.items;
}

pub returns-in_err-act : goal.returns-in_err-act
returns-in_err-act c =
    let s = c.loop-rest.rest.now in
    let line = c.first_line.result.0.now in
    let rest = c.first_line.result.1.now in
    let some : length s ≢ 0 = eqb-false (length s) 0 (sym (c.loop-rest-test.ensures {u = tt})) in
    let p = err_from_is_err_and c.from_residual.result c.from_residual.ensures.1 in
    rw (p.1, p.2) (lines-refused c.loop-rest.acts.items _ s line rest c.args.text.now c.in_err-act.field-0.0 (omega (arith, some))
    c.loop-rest.invariant.begun c.first_line.ensures.line (omega arith)
    (λ never. read-stop AreActs c.loop-rest.acts.items s c.args.text.now c.loop-rest.invariant.read
    (acts-never line rest s (omega (arith, some)) c.first_line.ensures.line never))
    (c.in_err-act.ensures {u = tt}))

pub loop-rest-preserved : goal.loop-rest-preserved
loop-rest-preserved c =
    let s = c.loop-rest.rest.now in
    let line = c.first_line.result.0.now in
    let rest = c.first_line.result.1.now in
    let some : length s ≢ 0 = eqb-false (length s) 0 (sym (c.loop-rest-test.ensures {u = tt})) in
    record {
      read = read-next AreActs c.loop-rest.acts.items c.push.new.self.items c.in_ok-act.act s rest c.args.text.now c.loop-rest.invariant.read
          (acts-first c.in_ok-act.act line rest s (omega (arith, some)) c.first_line.ensures.line (c.in_ok-act.ensures {u = tt}))
          (c.in_ok-push.ensures {u = tt}).items;
      begun = begun-more c.loop-rest.acts.items c.push.new.self.items c.in_ok-act.act s line rest c.args.text.now c.loop-rest.invariant.begun
          c.first_line.ensures.line (c.in_ok-act.ensures {u = tt}) (c.in_ok-push.ensures {u = tt}).items;
    }

pub returns : goal.returns
returns c =
    let s = c.loop-rest.rest.now in
    read-end AreActs c.loop-rest.acts.items s c.args.text.now c.loop-rest.invariant.read
    (acts-end s (eqb-true (length s) 0 (sym (c.loop-rest-test.ensures {u = tt}))))
