use Rattle.std.proofs.Common.{ap}
use Rattle.poolsteps.specs.Spot.{Spot}
use Rattle.seatcalls.proofs.references.GuestRef.read.Goals as goal

pub read-requires : goal.read-requires
read-requires g c =
    let inside = c.self.invariant in
    let at = inside.3.spot in
    (inside.1, inside.2, (ap (λ (s : Spot). s.directory) at, ap (λ (s : Spot). s.index) at))
