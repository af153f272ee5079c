-- One more stands behind the others.
use Rattle.std.proofs.Common.{refl, sym, subst}
use Rattle.lanestore.specs.Fillings.{AreDistinct}
use Rattle.lanestore.proofs.Counting.{distinct-push}
use Rattle.lanestore.proofs.Making.{made-more}
use Rattle.lanestore.proofs.kept.Fillings.keep.Goals as goal

pub invariant_of-self-clause-distinct : goal.invariant_of-self-clause-distinct
invariant_of-self-clause-distinct g c =
    subst AreDistinct (sym c.push_reserved.ensures.items)
    (distinct-push c.args.self.now.list.items (record { filling = c.args.filling }) c.args.self.now.distinct c.requires.apart)

pub returns-clause-made : goal.returns-clause-made
returns-clause-made g c = λ lane own made.
    made-more lane c.args.filling c.args.self.now.list.items c.push_reserved.new.self.items
    (record { filling = c.args.filling }, refl, c.push_reserved.ensures.items) own made
