-- The fillings stay the lane's.
use Rattle.std.proofs.Common.{rules, ◌≡◌, ◌∙◌, true, false, refl, sym}
use Rattle.poolhandle.specs.Calls.{as_many}
use Rattle.poolhandle.proofs.Turning.{made-on}
use Rattle.poolhandle.proofs.Carrying.{same-lane, held, lane-clears, lane-clears-none}
use Rattle.poolhandle.proofs.handle.Handle.clear.Goals as goal

pub invariant_of-self : goal.invariant_of-self
invariant_of-self c =
    let before = c.args.self.now in let did = c.clear.ensures in record {
      owned = (did.owns.0 ∙ search rules, did.owns.1 ∙ search rules, did.owns.2 ∙ search rules);
      made = made-on c.deref_mut.result.now before.lane.value c.clear.new.self before.fillings.list.items c.deref_mut.ensures.value did.fillings before.made;
      empty = before.empty;
    }

pub returns-then-clear : goal.returns-then-clear
returns-then-clear c =
    let before = c.args.self.now in let given = c.deref_mut.result.now in let new = c.clear.new.self in let did = c.clear.ensures in let is = c.deref_mut.ensures.value in
    let yes : c.clear.result ≡ true = search rules in (
      lane-clears given before.lane.value new is _ c.args.key c.clear.result (sym did.same.1 ∙ did.owns.1) did.outside did.called did.clears did.cleared yes,
      record { fillings_so = refl; references_so = held given before.lane.value new is as_many did.held; lane = same-lane given before.lane.value new is did.same; share = refl; joined = refl; row = refl },
    )

pub returns-else-clear : goal.returns-else-clear
returns-else-clear c =
    let before = c.args.self.now in let given = c.deref_mut.result.now in let new = c.clear.new.self in let did = c.clear.ensures in let is = c.deref_mut.ensures.value in
    let no : c.clear.result ≡ false = search rules in (
      refl,
      lane-clears-none given before.lane.value new is _ c.args.key c.clear.result (sym did.same.1 ∙ did.owns.1) did.outside did.called did.clears did.missed no,
      record { fillings_so = refl; references_so = held given before.lane.value new is as_many did.held; lane = same-lane given before.lane.value new is did.same; share = refl; joined = refl; row = refl },
    )
