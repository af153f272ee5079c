use Rattle.std.proofs.Common.{◌≡◌, ◌∙◌, ◌≤◌, length, get_or, sym, arith}
use Rattle.std.proofs.lemmas.Bool.{eqb-true}
use Rattle.seqpool.proofs.Numbers.{number-empty, number-plus, number-zeros, number-no_text, number-unparsed, number-large, number-parsed}
use Rattle.seqpool.proofs.acts_fields.read_number.Goals as goal
use Rattle.seqpool.proofs.acts_fields.read_number.Goals.{else-text-eq48-via-then-text-eq48+else-text-gt1, else-text-eq48-via-else-text-eq48}

pub returns-then-is_empty : goal.returns-then-is_empty
returns-then-is_empty c =
    number-empty c.args.limit c.args.text.now (omega arith) (eqb-true (length c.args.text.now) 0 (sym c.is_empty.ensures ∙ c.if-is_empty.true))

pub returns-then-text-eq43 : goal.returns-then-text-eq43
returns-then-text-eq43 c = number-plus c.args.limit c.args.text.now (omega arith) (omega arith)

pub returns-then-text-gt1 : goal.returns-then-text-gt1
returns-then-text-gt1 c = number-zeros c.args.limit c.args.text.now (omega arith) (omega arith) (omega arith)

pub returns-in_default : goal.returns-in_default
returns-in_default c = number-no_text c.args.limit c.args.text.now (omega arith) (c.in_default.ensures {u = tt}).cases.0

pub returns-in_default-parse : goal.returns-in_default-parse
returns-in_default-parse c =
    number-unparsed c.args.limit c.args.text.now c.in-Ok.digits.now c.parse.result c.in_default-parse.field-0 (omega arith)
    (c.in-Ok.ensures {u = tt}).cases.0 c.in_default-parse.is c.parse.ensures.value.0

pub returns-then-number-limit : goal.returns-then-number-limit
returns-then-number-limit c =
    number-large c.args.limit c.args.text.now c.in-Ok.digits.now c.parse.result c.in-Ok-parse.number (omega arith)
    (c.in-Ok.ensures {u = tt}).cases.0 c.in-Ok-parse.is c.parse.ensures.value.0 (omega arith)

pub returns : goal.returns
returns c =
    let alone : get_or c.args.text.now 0 0 ≡ 48 → length c.args.text.now ≤ 1 = elim c.else-text-eq48.branch [
      | else-text-eq48-via-then-text-eq48+else-text-gt1 w ↦ (λ zero. omega (arith, w.if-text-gt1.false))
      | else-text-eq48-via-else-text-eq48 w ↦ (λ zero. absurd (w.if-text-eq48.false zero))
    ] in (
      omega arith,
      number-parsed c.args.text.now c.in-Ok.digits.now c.parse.result c.in-Ok-parse.number (c.in-Ok.ensures {u = tt}).cases.0 c.in-Ok-parse.is
          c.parse.ensures.value.0 c.if-text-eq43.false alone,
    )
