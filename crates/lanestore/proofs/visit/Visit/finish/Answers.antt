-- The fillings that the lane keeps are of other keys.
use Rattle.lanestore.proofs.Making.{made-others}
use Rattle.lanestore.proofs.visit.Visit.finish.Goals as goal

pub invariant_of-deref_mut : goal.invariant_of-deref_mut
invariant_of-deref_mut g c =
    let now = c.deref_mut.result.now in record {
      made = made-others c.args.filling.key now.lane c.publish.new.self now.fillings.list.items c.publish.ensures.publishing.fillings
          (rw c.deref_mut.ensures.value c.requires.apart) now.made;
    }
