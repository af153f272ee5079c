-- A look keeps what is lent.
use Rattle.std.proofs.Common.{refl, sym, ap, subst}
use Rattle.poolsteps.proofs.ViewLemmas.{prefix-self}
use Rattle.shardpool.specs.Tokens.{LaneOf}
use Rattle.shardpool.specs.Lanes.{holds, refs}
use Rattle.lendings.specs.Lenders.{GoesOnQuietly}
use Rattle.lendings.specs.Outs.{loans_of}
use Rattle.lendings.proofs.Keeping.{out-kept}
use Rattle.lendings.proofs.lender.Lender.tell.Goals as goal

pub invariant_of-self : goal.invariant_of-self
invariant_of-self g c =
    out-kept g.T.Clear.content g.T.Clear.room c.self.inside.lane c.tell.new.self (loans_of c.self.inside.out.items) (ap refs c.tell.ensures.lane)
    (λ key. ap (λ (lane : LaneOf). holds lane key) c.tell.ensures.lane) c.tell.ensures.kept c.self.invariant

pub returns-clause-kept : goal.returns-clause-kept
returns-clause-kept g c = rw (← c.self.view_is) c.tell.ensures.kept

pub returns-clause-quiet : goal.returns-clause-quiet
returns-clause-quiet g c =
    rw (← c.self.view_is) (subst (λ (lane : LaneOf). GoesOnQuietly c.self.inside.lane lane) (sym c.tell.ensures.lane)
    (record { seen = prefix-self c.self.inside.lane.book.seen; cleared = refl }))
