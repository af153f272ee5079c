-- The fillings stay the lane's.
use Rattle.std.proofs.Common.{rules, ◌∙◌}
use Rattle.poolhandle.proofs.Turning.{made-on}
use Rattle.poolhandle.proofs.handle.Handle.get.Goals as goal

pub invariant_of-self-2 : goal.invariant_of-self-2
invariant_of-self-2 c =
    let before = c.args.self.now in let did = c.get_at.ensures.got in record {
      owned = (did.owns.0 ∙ search rules, did.owns.1 ∙ search rules, did.owns.2 ∙ search rules);
      made = made-on c.deref_mut.result.now before.lane.value c.get_at.new.self before.fillings.list.items c.deref_mut.ensures.value did.fillings before.made;
      empty = before.empty;
    }
