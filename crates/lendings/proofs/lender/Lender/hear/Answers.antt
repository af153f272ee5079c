-- A look keeps what is lent.
use Rattle.poollaws.proofs.Clearing.{looked-none}
use Rattle.lendings.specs.Outs.{loans_of}
use Rattle.lendings.proofs.Keeping.{out-kept}
use Rattle.lendings.proofs.lender.Lender.hear.Goals as goal

pub invariant_of-self : goal.invariant_of-self
invariant_of-self g c =
    out-kept g.T.Clear.content g.T.Clear.room c.self.inside.lane c.hear.new.self (loans_of c.self.inside.out.items) c.hear.ensures.refs c.hear.ensures.held
    c.hear.ensures.kept c.self.invariant

pub returns-clause-kept : goal.returns-clause-kept
returns-clause-kept g c = rw (← c.self.view_is) c.hear.ensures.kept

pub returns-clause-quiet : goal.returns-clause-quiet
returns-clause-quiet g c =
    rw (← c.self.view_is) (record { seen = c.hear.ensures.heard.1; cleared = looked-none c.self.inside.lane c.hear.new.self c.hear.ensures.goes })
