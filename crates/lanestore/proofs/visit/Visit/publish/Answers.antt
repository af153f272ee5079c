-- The filling is taken out, and the others are of other keys.
use Rattle.std.proofs.Common.{rules, ◌≡◌, ◌∙◌}
use Rattle.lanestore.proofs.Making.{made-others}
use Rattle.lanestore.proofs.visit.Visit.publish.Goals as goal

pub invariant_of-deref_mut : goal.invariant_of-deref_mut
invariant_of-deref_mut g c = record { made = c.take.ensures.made c.deref_mut.result.now.lane c.deref_mut.result.now.made }

pub publish-requires-clause-made : goal.publish-requires-clause-made
publish-requires-clause-made g c =
    rw c.deref_mut-2.ensures.value (c.in-Some.ensures.own c.deref_mut.result.now.lane c.deref_mut.result.now.made)

pub invariant_of-deref_mut-2 : goal.invariant_of-deref_mut-2
invariant_of-deref_mut-2 g c = let now = c.deref_mut-2.result.now in record {
  made = made-others c.in-Some.filling.key now.lane c.publish.new.self now.fillings.list.items c.publish.ensures.publishing.fillings
      (rw c.deref_mut-2.ensures.value c.in-Some.ensures.taken.1.3) now.made;
}

pub returns : goal.returns
returns g c =
    let lane : c.deref_mut-2.result.now.lane ≡ c.args.self.now.keeper.value.lane = search rules in (
      c.in-Some.filling,
      rw (← c.deref_mut.ensures.value) (c.in-Some.ensures.own c.deref_mut.result.now.lane c.deref_mut.result.now.made),
      rw (← c.deref_mut.ensures.value) (rw c.deref_mut-2.ensures.value c.in-Some.ensures.taken.1),
      rw (← (c.publish.ensures.key ∙ c.in-Some.ensures.taken.0)) (rw (← lane) c.publish.ensures),
    )
