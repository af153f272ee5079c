use Rattle.std.proofs.Common.{◌∷◌, [], ℕ, subst, arith}
use Rattle.keybits.specs.Keys.{place_of}
use Rattle.seqpool.specs.declared.act.Act.TheVariants as acts
use Rattle.seatcalls.specs.Endings.{Ends}
use Rattle.seatcalls.proofs.parts.Referring.{ends-looked}
use Rattle.seatcalls.proofs.guests.Guest.clear_or_keep.Goals as goal

pub returns-in-Err-clause-clears : goal.returns-in-Err-clause-clears
returns-in-Err-clause-clears g c = λ inside.
    let late = c.in-Err.ensures.late in
    subst (λ (n : ℕ). Ends g.T.Clear.content g.T.Clear.room c.args.grid.now.objects.ptr (place_of c.args.key) (acts.Clear n c.args.key c.clear_by_steps.result.0 ∷ []) 4 4 c.args.self c.clear_by_steps.result.1) late.same.2
    (ends-looked g.T.Clear.content g.T.Clear.room c.args.grid.now.objects.ptr (place_of c.args.key) (acts.Clear c.in-Err.guest.number c.args.key c.clear_by_steps.result.0 ∷ []) 2 4 2 4 c.clear_by_steps.result.1 late c.clear_by_steps.ensures (omega arith))
