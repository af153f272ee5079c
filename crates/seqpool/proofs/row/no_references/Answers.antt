use Rattle.std.proofs.Common.{arith, rules, inl, inr}
use Rattle.std.proofs.lemmas.Bool.{cases_lt}
use Rattle.std.proofs.lemmas.List.{get_or_past}
use Rattle.seqpool.proofs.row.no_references.Goals as goal

pub returns-clause-none : goal.returns-clause-none
returns-clause-none c = λ lane. elim (cases_lt lane 16) [
  | inl below ↦ let t = c.from_fn.ensures.items.at lane 0 below in search (rules, t.2)
  | inr above ↦ get_or_past c.from_fn.result lane 0 (omega (arith, c.from_fn.ensures.items.long))
]
