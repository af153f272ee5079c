-- The fillings stay the lane's.
use Rattle.std.proofs.Common.{rules, ◌≡◌, ◌∙◌, ◌≤◌, true, refl, sym, subst}
use Rattle.seqpool.specs.declared.act.Act.TheVariants as acts
use Rattle.steplaws.specs.Calls.Call.{Releasing}
use Rattle.shardpool.specs.Tokens.{LaneOf}
use Rattle.shardpool.specs.Lanes.{holds}
use Rattle.poolhandle.specs.Calls.{one_less}
use Rattle.poolhandle.proofs.Turning.{made-on}
use Rattle.poolhandle.proofs.Carrying.{same-lane, held, makes}
use Rattle.poolhandle.proofs.handle.Handle.release.Goals as goal

pub invariant_of-self : goal.invariant_of-self
invariant_of-self c =
    let before = c.args.self.now in let did = c.release_key.ensures in record {
      owned = (did.owns.0 ∙ search rules, did.owns.1 ∙ search rules, did.owns.2 ∙ search rules);
      made = made-on c.deref_mut.result.now before.lane.value c.release_key.new.self before.fillings.list.items c.deref_mut.ensures.value did.fillings before.made;
      empty = before.empty;
    }

pub returns-then-release_key : goal.returns-then-release_key
returns-then-release_key c =
    let before = c.args.self.now in let given = c.deref_mut.result.now in let new = c.release_key.new.self in let did = c.release_key.ensures in let is = c.deref_mut.ensures.value in
    let key = c.args.key in let yes : c.release_key.result ≡ true = search rules in (
      subst (λ (lane : LaneOf). 1 ≤ holds lane key) is (did.held.0 yes),
      makes given before.lane.value new is _ (Releasing key) (λ n. acts.Release n key) (sym did.same.1 ∙ did.owns.1) (did.released yes).called (did.released yes).releases,
      record {
        fillings_so = refl;
        references_so = held given before.lane.value new is (one_less key) (did.released yes).one_less;
        lane = same-lane given before.lane.value new is did.same;
        share = refl;
        joined = refl;
        row = refl;
      },
    )
