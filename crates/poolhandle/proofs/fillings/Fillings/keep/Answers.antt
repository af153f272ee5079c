use Rattle.std.proofs.Common.{sym, subst}
use Rattle.poolhandle.specs.Filled.{AreDistinct}
use Rattle.poolhandle.proofs.Counting.{distinct-push}
use Rattle.poolhandle.proofs.fillings.Fillings.keep.Goals as goal

pub invariant_of-self-clause-distinct : goal.invariant_of-self-clause-distinct
invariant_of-self-clause-distinct c =
    subst AreDistinct (sym c.push_reserved.ensures.items) (distinct-push c.args.self.now.list.items c.args.kept c.args.self.now.distinct c.requires.apart)
