-- The fillings that the lane keeps are its own still.
use Rattle.std.specs.Fn.{FnOnceReturnsAt}
use Rattle.lanestore.proofs.Making.{made-on, looks-keep}
use Rattle.lanestore.proofs.visit.Visit.look.Goals as goal

pub invariant_of-deref_mut : goal.invariant_of-deref_mut
invariant_of-deref_mut g c = let now = c.deref_mut.result.now in record {
  made = made-on now.lane c.look.new.self now.fillings.list.items
      (looks-keep g.T.Clear.content c.args.pool.now c.args.key now.lane c.look.new.self (λ answer object. FnOnceReturnsAt g.F.FnOnce c.args.look object answer) c.look.result c.look.ensures)
      now.made;
}
