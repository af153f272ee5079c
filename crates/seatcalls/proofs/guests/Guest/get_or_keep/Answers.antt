use Rattle.std.proofs.Common.{◌∷◌, [], ℕ, None, subst, arith}
use Rattle.keybits.specs.Keys.{place_of}
use Rattle.seqpool.specs.declared.act.Act.TheVariants as acts
use Rattle.seatcalls.specs.Endings.{Ends}
use Rattle.seatcalls.proofs.parts.Referring.{ends-behind}
use Rattle.seatcalls.proofs.guests.Guest.get_or_keep.Goals as goal

pub returns-in-Err-clause-misses : goal.returns-in-Err-clause-misses
returns-in-Err-clause-misses g c = λ inside.
    subst (λ (p : ℕ). Ends g.T.Clear.content g.T.Clear.room c.args.grid.now.objects.ptr p (acts.Get c.args.self.number c.args.key None ∷ []) 3 2 c.args.self c.end.result) c.in-Err.ensures.place
    (ends-behind g.T.Clear.content g.T.Clear.room c.args.grid.now.objects.ptr c.in-Err.field-0.spot.place 1 2 c.end.result c.in-Err.ensures.made c.end.ensures (omega arith) (omega arith))
