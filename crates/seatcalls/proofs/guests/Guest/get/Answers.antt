use Rattle.std.proofs.Common.{◌∷◌, [], ℕ, None, subst, arith}
use Rattle.keybits.specs.Keys.{place_of}
use Rattle.seqpool.specs.declared.act.Act.TheVariants as acts
use Rattle.seatcalls.specs.Endings.{Settles}
use Rattle.seatcalls.proofs.parts.Sighting.{found-by, missed-by, settles-behind}
use Rattle.seatcalls.proofs.guests.Guest.get.Goals as goal

pub returns-in-Ok-clause-found : goal.returns-in-Ok-clause-found
returns-in-Ok-clause-found g c = let gets = c.in-Ok.ensures.gets in found-by c.seen_law.ensures c.args.key gets.0 gets.1

pub returns-in-Err-clause-misses : goal.returns-in-Err-clause-misses
returns-in-Err-clause-misses g c = λ inside.
    subst (λ (p : ℕ). Settles p (acts.Get c.args.self.number c.args.key None ∷ []) 4 4 c.args.self c.settle_end.result) c.in-Err.ensures.place
    (settles-behind c.in-Err.parted.spot.place 2 4 c.in-Err.ensures.made c.settle_end.ensures (omega arith) (omega arith))

pub returns-in-Err-clause-missed : goal.returns-in-Err-clause-missed
returns-in-Err-clause-missed g c = λ inside.
    let settles = settles-behind {most_steps = 4} {most_looks = 4} c.in-Err.parted.spot.place 2 4 c.in-Err.ensures.made c.settle_end.ensures (omega arith) (omega arith) in
    missed-by c.seen_law.ensures c.args.self.number c.args.key settles.1
