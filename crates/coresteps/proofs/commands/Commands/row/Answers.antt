-- The row of the register is one of the rows.
use Rattle.std.proofs.Common.{ap, ◌∙◌}
use Rattle.coresteps.specs.Writes.{write_indices}
use Rattle.coresteps.proofs.WriteLemmas.{row_is}
use Rattle.coresteps.proofs.commands.Commands.row.Goals as goal

pub returns : goal.returns
returns c =
    let n = c.args.register.number in
    c.as_slice.ensures.value
    ∙ (row_is c.self.inside.script c.self.inside.writes.items n c.index.result.now c.self.invariant c.args.register.small c.index.ensures
    ∙ ap (write_indices n 0) c.self.view_is)
