-- The filling is taken out, and the others are of other keys.
use Rattle.std.proofs.Common.{rules, ◌≡◌, ◌∙◌, refl}
use Rattle.lanestore.proofs.Making.{made-others}
use Rattle.lanestore.proofs.visit.Visit.downgrade.Goals as goal

pub invariant_of-deref_mut : goal.invariant_of-deref_mut
invariant_of-deref_mut g c = record { made = c.take.ensures.made c.deref_mut.result.now.lane c.deref_mut.result.now.made }

pub downgrade-reference-requires-clause-made : goal.downgrade-reference-requires-clause-made
downgrade-reference-requires-clause-made g c =
    rw c.deref_mut-2.ensures.value (c.in_ok-filling.ensures.own c.deref_mut.result.now.lane c.deref_mut.result.now.made)

pub invariant_of-deref_mut-2 : goal.invariant_of-deref_mut-2
invariant_of-deref_mut-2 g c = let now = c.deref_mut-2.result.now in record {
  made = made-others c.in_ok-filling.filling.key now.lane c.downgrade-reference.new.self now.fillings.list.items
      c.downgrade-reference.ensures.publishing.fillings (rw c.deref_mut-2.ensures.value c.in_ok-filling.ensures.taken.1.3) now.made;
}

pub returns : goal.returns
returns g c =
    let lane : c.deref_mut-2.result.now.lane ≡ c.args.self.now.keeper.value.lane = search rules in (
      c.in_ok-filling.filling,
      rw (← c.deref_mut.ensures.value) (c.in_ok-filling.ensures.own c.deref_mut.result.now.lane c.deref_mut.result.now.made),
      rw (← c.deref_mut.ensures.value) (rw c.deref_mut-2.ensures.value c.in_ok-filling.ensures.taken.1),
      rw (← (c.downgrade-reference.ensures.key.0 ∙ c.in_ok-filling.ensures.taken.0)) (rw (← lane) c.downgrade-reference.ensures),
      refl,
      c.number-lane.ensures,
    )
