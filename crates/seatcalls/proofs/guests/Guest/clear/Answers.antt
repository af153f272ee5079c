use Rattle.std.proofs.Common.{◌∷◌, [], ℕ, subst, arith}
use Rattle.keybits.specs.Keys.{place_of}
use Rattle.seqpool.specs.declared.act.Act.TheVariants as acts
use Rattle.seatcalls.specs.Endings.{Settles}
use Rattle.seatcalls.proofs.parts.Sighting.{unmarked-by, cleared-by, ends-settled, settles-looked}
use Rattle.seatcalls.proofs.guests.Guest.clear.Goals as goal

pub returns-in-Ok-clause-clears : goal.returns-in-Ok-clause-clears
returns-in-Ok-clause-clears g c = λ inside.
    ends-settled g.T.Clear.content g.T.Clear.room c.args.grid.now.objects.ptr (place_of c.args.key) (acts.Clear c.args.self.number c.args.key c.in-Ok.marked ∷ []) 4 4 5 6 c.args.self c.settle.result c.in-Ok.ended
    c.in-Ok.ensures.clears c.settle.ensures.free c.settle.ensures.kept (omega arith) (omega arith)

pub returns-in-Ok-clause-cleared : goal.returns-in-Ok-clause-cleared
returns-in-Ok-clause-cleared g c = λ marked.
    let settles = ends-settled g.T.Clear.content g.T.Clear.room c.args.grid.now.objects.ptr (place_of c.args.key) (acts.Clear c.args.self.number c.args.key c.in-Ok.marked ∷ []) 4 4 5 6 c.args.self c.settle.result c.in-Ok.ended
    c.in-Ok.ensures.clears c.settle.ensures.free c.settle.ensures.kept (omega arith) (omega arith) in
    cleared-by c.seen_law.ensures c.args.key c.in-Ok.marked marked settles.1

pub returns-in-Ok-clause-missed : goal.returns-in-Ok-clause-missed
returns-in-Ok-clause-missed g c = λ unmarked inside.
    let settles = ends-settled g.T.Clear.content g.T.Clear.room c.args.grid.now.objects.ptr (place_of c.args.key) (acts.Clear c.args.self.number c.args.key c.in-Ok.marked ∷ []) 4 4 5 6 c.args.self c.settle.result c.in-Ok.ended
    c.in-Ok.ensures.clears c.settle.ensures.free c.settle.ensures.kept (omega arith) (omega arith) in
    unmarked-by c.seen_law.ensures c.args.self.number c.args.key c.in-Ok.marked unmarked settles.1

-- ---- step by step

pub returns-in-Err-clause-clears : goal.returns-in-Err-clause-clears
returns-in-Err-clause-clears g c = λ inside.
    let late = c.in-Err.ensures.late in
    let settles : Settles (place_of c.args.key) (acts.Clear c.args.self.number c.args.key c.clear_apart.result.0 ∷ []) 5 6 c.args.self c.clear_apart.result.1
    = subst (λ (n : ℕ). Settles (place_of c.args.key) (acts.Clear n c.args.key c.clear_apart.result.0 ∷ []) 5 6 c.args.self c.clear_apart.result.1) late.same.2
    (settles-looked (place_of c.args.key) (acts.Clear c.in-Err.guest.number c.args.key c.clear_apart.result.0 ∷ []) 2 5 4 6 late c.clear_apart.ensures (omega arith)) in
    settles

pub returns-in-Err-clause-cleared : goal.returns-in-Err-clause-cleared
returns-in-Err-clause-cleared g c = λ marked.
    let late = c.in-Err.ensures.late in
    let settles : Settles (place_of c.args.key) (acts.Clear c.args.self.number c.args.key c.clear_apart.result.0 ∷ []) 5 6 c.args.self c.clear_apart.result.1
    = subst (λ (n : ℕ). Settles (place_of c.args.key) (acts.Clear n c.args.key c.clear_apart.result.0 ∷ []) 5 6 c.args.self c.clear_apart.result.1) late.same.2
    (settles-looked (place_of c.args.key) (acts.Clear c.in-Err.guest.number c.args.key c.clear_apart.result.0 ∷ []) 2 5 4 6 late c.clear_apart.ensures (omega arith)) in
    cleared-by c.seen_law.ensures c.args.key c.clear_apart.result.0 marked settles.1

pub returns-in-Err-clause-missed : goal.returns-in-Err-clause-missed
returns-in-Err-clause-missed g c = λ unmarked inside.
    let late = c.in-Err.ensures.late in
    let settles : Settles (place_of c.args.key) (acts.Clear c.args.self.number c.args.key c.clear_apart.result.0 ∷ []) 5 6 c.args.self c.clear_apart.result.1
    = subst (λ (n : ℕ). Settles (place_of c.args.key) (acts.Clear n c.args.key c.clear_apart.result.0 ∷ []) 5 6 c.args.self c.clear_apart.result.1) late.same.2
    (settles-looked (place_of c.args.key) (acts.Clear c.in-Err.guest.number c.args.key c.clear_apart.result.0 ∷ []) 2 5 4 6 late c.clear_apart.ensures (omega arith)) in
    unmarked-by c.seen_law.ensures c.args.self.number c.args.key c.clear_apart.result.0 unmarked settles.1
