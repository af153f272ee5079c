-- The filling is kept behind the others.
use Rattle.std.proofs.Common.{rules, ◌≡◌, List, sym, subst}
use Rattle.lanestore.specs.declared.kept.Kept.{Kept}
use Rattle.lanestore.specs.Fillings.{Gain}
use Rattle.lanestore.proofs.visit.Visit.create.Goals as goal

pub invariant_of-deref_mut-2 : goal.invariant_of-deref_mut-2
invariant_of-deref_mut-2 g c = record {
  made = c.keep.ensures.made c.deref_mut-2.result.now.lane (rw c.deref_mut-2.ensures.value c.in_ok-filling.ensures.gives.made) c.deref_mut-2.result.now.made;
}

pub returns : goal.returns
returns g c =
    let kept : c.deref_mut-2.result.now.fillings.list.items ≡ c.args.self.now.keeper.value.fillings.list.items = search rules in (
      c.in_ok-filling.filling,
      sym c.key-key.ensures,
      rw (← c.deref_mut.ensures.value) (rw c.deref_mut-2.ensures.value c.in_ok-filling.ensures),
      subst (λ (old : List (Kept g.row.T.Denot)). Gain c.in_ok-filling.filling old c.keep.new.self.list.items) kept c.keep.ensures.gains,
    )
