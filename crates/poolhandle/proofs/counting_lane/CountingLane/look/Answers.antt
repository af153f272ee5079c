-- The reference that came goes again, so that the counts stay.
use Rattle.std.proofs.Common.{◌≡◌, Some, None, refl, ◌∙◌, subst}
use Rattle.shardpool.specs.Tokens.{LaneOf}
use Rattle.shardpool.specs.AfterCalls.{AfterGet}
use Rattle.poolhandle.proofs.References.{counts-stay, given-back}
use Rattle.poolhandle.proofs.counting_lane.CountingLane.look.Goals as goal

pub returns-in_err-at : goal.returns-in_err-at
returns-in_err-at g c = rw c.from_residual.ensures
    (subst (λ (lane : LaneOf). AfterGet g.row.T.Denot c.args.pool.now c.args.key lane c.get_at.new.lane None) c.self.view_is c.in_err-at.ensures.got)

pub invariant_of-self-2 : goal.invariant_of-self-2
invariant_of-self-2 g c =
    let old = c.self.inside.lane in let between = c.get_at.new.lane in let new = c.release_at.new.lane in
    counts-stay old new c.self.inside.counts.items (c.release_at.ensures.same.1 ∙ c.in_ok-at.ensures.got.same.1)
    (given-back c.args.key old between new (c.in_ok-at.ensures.got.one_more refl) c.release_at.ensures.one_less) c.self.invariant

pub returns : goal.returns
returns g c = let read = c.read_at.ensures in record {
  between = c.get_at.new.lane;
  gets = subst (λ (lane : LaneOf). AfterGet g.row.T.Denot c.args.pool.now c.args.key lane c.get_at.new.lane (Some (record { key = c.args.key }))) c.self.view_is
      c.in_ok-at.ensures.got;
  object = c.read_at.result.now;
  at = read.0;
  published = read.1;
  looks = (c.read_at.result, c.look-answer.ensures, refl);
  releases = c.release_at.ensures;
}
