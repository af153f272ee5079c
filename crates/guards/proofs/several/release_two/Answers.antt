-- Each release gives one reference back.
use Rattle.std.proofs.Common.{◌∷◌, []}
use Rattle.shardpool.specs.Lanes.{holds}
use Rattle.guards.proofs.Lending.{returns-one, returns-more, first-held, second-held}
use Rattle.guards.proofs.Seating.{goes-on}
use Rattle.guards.proofs.several.release_two.Goals as goal

pub returns-clause-returns : goal.returns-clause-returns
returns-clause-returns g c =
    let one = c.args.one.key in
    let other = c.args.other.key in
    let first = c.release.ensures in
    let then = c.release-2.ensures in
    let low = c.requires.held in
    let gave = returns-one {pool = c.args.pool.now} {new = c.release.new.lane} other (first-held (one ∷ []) other (holds c.args.lane.now other) (low other))
    first.owns first.releases.1.same (goes-on first.releases.1.goes) first.refs first.one_less first.fillings in
    let still = second-held one other (holds c.args.lane.now one) (holds c.release.new.lane one) (low one) (gave.held one) in
    returns-more gave (returns-one one still then.owns then.releases.1.same (goes-on then.releases.1.goes) then.refs then.one_less then.fillings)
