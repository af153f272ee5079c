use Rattle.std.proofs.Common.{◌∷◌, [], ℕ, subst, arith}
use Rattle.seqpool.specs.declared.act.Act.TheVariants as acts
use Rattle.seatcalls.specs.Endings.{Settles}
use Rattle.seatcalls.proofs.parts.Sighting.{settles-behind}
use Rattle.seatcalls.proofs.references.GuestRef.release.Goals as goal

pub returns : goal.returns
returns g c =
    subst (λ (p : ℕ). Settles p (acts.Release c.args.self.guest.number c.args.self.key ∷ []) 3 6 c.args.self.guest c.settle_end.result) c.leave.ensures.place
    (settles-behind c.leave.result.spot.place 2 4 c.leave.ensures.made c.settle_end.ensures (omega arith) (omega arith))
