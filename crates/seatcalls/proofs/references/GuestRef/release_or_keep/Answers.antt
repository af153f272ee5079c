use Rattle.std.proofs.Common.{◌∷◌, [], ℕ, subst, arith}
use Rattle.seqpool.specs.declared.act.Act.TheVariants as acts
use Rattle.seatcalls.specs.Endings.{Ends}
use Rattle.seatcalls.proofs.parts.Referring.{ends-behind}
use Rattle.seatcalls.proofs.references.GuestRef.release_or_keep.Goals as goal

pub returns : goal.returns
returns g c =
    subst (λ (p : ℕ). Ends g.T.Clear.content g.T.Clear.room c.args.grid.now.objects.ptr p (acts.Release c.args.self.guest.number c.args.self.key ∷ []) 2 4 c.args.self.guest c.end.result) c.leave-found.ensures.place
    (ends-behind g.T.Clear.content g.T.Clear.room c.args.grid.now.objects.ptr c.leave-found.result.spot.place 1 2 c.end.result c.leave-found.ensures.made c.end.ensures (omega arith) (omega arith))
