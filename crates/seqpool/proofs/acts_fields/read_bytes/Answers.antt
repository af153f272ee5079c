use Rattle.std.proofs.Common.{rules, length, sym, subst, List, ℕ, arith}
use Rattle.std.proofs.lemmas.Bool.{eqb-true, eqb-false}
use Rattle.std.proofs.lemmas.List.{take_all, length-drop}
use Rattle.seqpool.specs.ReadTexts.{ArePairs}
use Rattle.seqpool.proofs.Parts.{read-next, read-stop, read-end}
use Rattle.seqpool.proofs.HexTexts.{pairs-next, pairs-never, pairs-odd, pairs-end}
use Rattle.seqpool.proofs.acts_fields.read_bytes.Goals as goal

pub returns-in_default : goal.returns-in_default
returns-in_default c =
    read-stop ArePairs c.loop-rest.bytes.items c.loop-rest.rest.now c.args.text.now c.loop-rest.invariant
    (pairs-never c.loop-rest.rest.now (omega arith) c.in_default.ensures)

pub loop-rest-preserved : goal.loop-rest-preserved
loop-rest-preserved c =
    let s = c.loop-rest.rest.now in
    read-next ArePairs c.loop-rest.bytes.items _ c.in-Some.byte s _ c.args.text.now c.loop-rest.invariant
    (pairs-next c.in-Some.byte s _ (omega arith) c.in-Some.ensures (take_all _ _ (omega (arith, length-drop 2 s)))) c.in_ok-push.ensures.items

pub returns-then-not-is_empty : goal.returns-then-not-is_empty
returns-then-not-is_empty c =
    let s = c.loop-rest.rest.now in
    read-stop ArePairs c.loop-rest.bytes.items s c.args.text.now c.loop-rest.invariant
    (pairs-odd s (eqb-false (length s) 0 (search rules)) (omega arith))

pub returns : goal.returns
returns c =
    let s = c.loop-rest.rest.now in
    subst (λ (xs : List ℕ). ArePairs xs c.args.text.now) (sym c.from_vec.ensures)
    (read-end ArePairs c.loop-rest.bytes.items s c.args.text.now c.loop-rest.invariant (pairs-end s (eqb-true (length s) 0 (search rules))))
