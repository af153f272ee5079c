-- What the lane lends it lends still; it clears nothing; and what an owner shows was published under the key.
use Rattle.lendings.specs.Outs.{lender_of}
use Rattle.lendings.proofs.Quiet.{quiet-own, owned-shows}
use Rattle.lendings.proofs.lender.Lender.own.Goals as goal

pub returns-clause-kept : goal.returns-clause-kept
returns-clause-kept g c = rw (← c.self.view_is) c.own-owned.ensures.kept

pub returns-clause-quiet : goal.returns-clause-quiet
returns-clause-quiet g c =
    rw (← c.self.view_is) (quiet-own c.args.pool.now c.args.key g.T.Clear.content g.T.Clear.room (lender_of c.self.inside.lane c.self.inside.out.items)
    (lender_of c.own-owned.new.lane c.own-owned.new.out.items) c.own-owned.result c.own-owned.ensures.owned)

pub returns-clause-shows : goal.returns-clause-shows
returns-clause-shows g c =
    owned-shows c.args.pool.now c.args.key g.T.Clear.content g.T.Clear.room (lender_of c.self.inside.lane c.self.inside.out.items)
    (lender_of c.own-owned.new.lane c.own-owned.new.out.items) c.once_law.ensures.content c.seen_law.ensures.legal c.own-owned.result c.own-owned.ensures.owned
