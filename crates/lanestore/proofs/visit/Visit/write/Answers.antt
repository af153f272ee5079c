-- The filling is another of its key, behind the others.
use Rattle.std.proofs.Common.{refl}
use Rattle.std.specs.Fn.{FnOnceReturnsAtMut}
use Rattle.lanestore.proofs.Making.{made-with}
use Rattle.lanestore.proofs.visit.Visit.write.Goals as goal

pub invariant_of-deref_mut : goal.invariant_of-deref_mut
invariant_of-deref_mut g c = record { made = c.take.ensures.made c.deref_mut.result.now.lane c.deref_mut.result.now.made }

pub invariant_of-deref_mut-2 : goal.invariant_of-deref_mut-2
invariant_of-deref_mut-2 g c = let was = c.deref_mut.result.now in record {
  made = c.keep.ensures.made c.deref_mut-2.result.now.lane
      (rw c.deref_mut-2.ensures.value (made-with was.lane c.in_ok-filling.filling _ (c.in_ok-filling.ensures.own was.lane was.made)))
      c.deref_mut-2.result.now.made;
}

pub returns-clause-writes : goal.returns-clause-writes
returns-clause-writes g c =
    let ran : FnOnceReturnsAtMut g.F.FnOnce c.args.change c.in_ok-filling.filling.object c.change-answer.result c.change-answer.new.arg2 = record {
      shown = c.value_mut.result;
      shows = c.value_mut.ensures.object;
      left = _;
      met = c.change-answer.ensures;
      leaves = refl;
    } in (
      c.in_ok-filling.filling,
      c.change-answer.new.arg2,
      c.in_ok-filling.ensures.taken.0,
      ran,
      (
        c.deref_mut-2.result.now.fillings.list.items,
        rw (← c.deref_mut.ensures.value) (rw c.deref_mut-2.ensures.value c.in_ok-filling.ensures.taken.1),
        c.keep.ensures.gains,
      ),
    )
