-- A lane without a reference lends nothing.
use Rattle.std.proofs.Common.{List, sym, ap, ◌∙◌, subst}
use Rattle.shardpool.specs.Lanes.{refs}
use Rattle.lendings.specs.declared.out.Out.{Out}
use Rattle.lendings.specs.Lenders.{AreOut}
use Rattle.lendings.specs.Outs.{loans_of}
use Rattle.lendings.proofs.Keeping.{out-none}
use Rattle.lendings.proofs.lender.Lender.of.Goals as goal

pub invariant_of-result : goal.invariant_of-result
invariant_of-result g c =
    let lane = c.in_ok-lane.lane in let is = c.in_ok-lane.ensures.ok in
    subst (λ (rows : List (Out g.row.T.Denot)). AreOut g.T.Clear.content g.T.Clear.room lane (loans_of rows)) (sym c.new.ensures.items)
    (out-none g.T.Clear.content g.T.Clear.room lane (ap refs is.0 ∙ is.1) c.held_law.ensures)
