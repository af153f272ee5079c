-- The row of the key's place counts the references to it.
use Rattle.std.proofs.Common.{refl, ap, ◌∙◌, ◌≡◌, ◌==◌, ℕ, subst, if◌then◌else◌}
use Rattle.shardpool.specs.Tokens.{LaneOf}
use Rattle.shardpool.specs.Lanes.{holds}
use Rattle.poolhandle.proofs.References.{row-low, row-counts}
use Rattle.poolhandle.proofs.counting_lane.CountingLane.holds.Goals as goal

pub count_to-requires : goal.count_to-requires
count_to-requires g c = row-low c.args.key c.in-Some.start c.self.invariant (c.in-Some.ensures.some.0 refl) c.in-Some.ensures.at

pub returns-in-Some : goal.returns-in-Some
returns-in-Some g c =
    row-counts c.args.key c.in-Some.start c.count_to.result c.self.invariant (c.in-Some.ensures.some.0 refl) c.in-Some.ensures.at
    (λ row stands. subst (λ (g : ℕ). c.count_to.result ≡ (if g == row.generation then row.count else 0)) c.generation_of.ensures (c.count_to.ensures row stands))
    ∙ ap (λ (lane : LaneOf). holds lane c.args.key) c.self.view_is
