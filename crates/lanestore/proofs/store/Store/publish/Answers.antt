-- The lane of the key's shard made the call, or looked and did nothing.
use Rattle.std.proofs.Common.{Bool, refl, inr, ap, subst, ◌∙◌}
use Rattle.lanestore.specs.Visits.{KeeperOf, keeper_of, Publishes}
use Rattle.lanestore.proofs.store.Store.publish.Goals as goal

pub returns-then-publish-clause-ok : goal.returns-then-publish-clause-ok
returns-then-publish-clause-ok g c =
    let before = keeper_of c.in_ok-visit.visit in let after = keeper_of c.publish.new.self in record {
      before = before;
      after = after;
      owns = c.in_ok-visit.ensures.lane.0;
      heard = c.in_ok-visit.ensures.heard;
      calls = (
        c.in_ok-visit.ensures.lane.1,
        subst (λ (kept : Bool). Publishes g.T.Clear.content g.T.Clear.room c.args.self.now.pool c.args.key before after kept) c.if-publish.true c.publish.ensures,
      );
      issued = c.leave.ensures.note;
      tells = c.leave.ensures.seen;
    }

pub returns-else-publish-clause-err : goal.returns-else-publish-clause-err
returns-else-publish-clause-err g c =
    let before = keeper_of c.in_ok-visit.visit in let after = keeper_of c.publish.new.self in
    let none = subst (λ (kept : Bool). Publishes g.T.Clear.content g.T.Clear.room c.args.self.now.pool c.args.key before after kept) c.if-publish.false c.publish.ensures in inr record {
      before = before;
      after = before;
      owns = c.in_ok-visit.ensures.lane.0;
      heard = c.in_ok-visit.ensures.heard;
      calls = (refl, (refl, c.in_ok-visit.ensures.lane.1, none.0));
      issued = c.leave-else-publish.ensures.note;
      tells = c.leave-else-publish.ensures.seen ∙ ap (λ (keeper : KeeperOf g.row.T.Denot). keeper.lane.book.seen) none.1;
    }
