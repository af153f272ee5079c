use Rattle.std.proofs.Common.{None, refl, arith}
use Rattle.seatcalls.proofs.parts.Going.{none-acted}
use Rattle.seatcalls.proofs.ended.settle_end.Goals as goal

pub returns : goal.returns
returns g c =
    let seat = c.requires.fits.seat in (
      None,
      record {
        same = (refl, c.requires.shape, refl);
        acted = none-acted seat.one seat.seen;
        stepped = omega arith;
        looked = omega arith;
      },
    )
