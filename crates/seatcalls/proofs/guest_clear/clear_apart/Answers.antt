use Rattle.std.proofs.Common.{◌∷◌, [], arith}
use Rattle.keybits.specs.Keys.{place_of}
use Rattle.seqpool.specs.declared.act.Act.TheVariants as acts
use Rattle.seatcalls.proofs.parts.Sighting.{ends-settled}
use Rattle.seatcalls.proofs.guest_clear.clear_apart.Goals as goal

pub returns : goal.returns
returns g c =
    let call = c.clear_by_steps-marked in
    ends-settled g.T.Clear.content g.T.Clear.room c.args.grid.now.objects.ptr (place_of c.args.key) (acts.Clear c.args.guest.number c.args.key call.result.0 ∷ []) 4 2 5 4 c.args.guest c.settle.result call.result.1
    call.ensures c.settle.ensures.free c.settle.ensures.kept (omega arith) (omega arith)
