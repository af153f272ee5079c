use Rattle.keybits.proofs.FaultLemmas.{narrow_each}
use Rattle.keybits.proofs.shape.Shape.check.Goals as goal

pub returns-clause-ok : goal.returns-clause-ok
returns-clause-ok c =
    let each = narrow_each c.args.self.now c.requires in
    (λ is. each.0 (c.check_within.ensures.ok.0 is), λ shape. c.check_within.ensures.ok.1 (each.1 shape))
