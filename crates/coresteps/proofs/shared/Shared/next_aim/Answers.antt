-- The next step is that of the call under way, after its last or as its first.
use Rattle.std.proofs.Common.{◌≡◌, ◌<◌, ltb, false, ℕ, sym, subst, List, length, get_or, option_copied, slice_get, Some, None}
use Rattle.traces.specs.declared.script.Command.{Command}
use Rattle.traces.specs.Books.{Book, call_of}
use Rattle.coresteps.specs.Lanes.{IsCall}
use Rattle.coresteps.proofs.AimLemmas.{no_command, no_call, the_call, is_call, the_place, the_take, by_last, by_first, read_at}
use Rattle.coresteps.proofs.shared.Shared.next_aim.Goals as goal

-- the command that the code reads
abbrev Reads : List Command → ℕ → Command → Type 0
Reads script done command = (done < length script) × (command ≡ get_or script done command)

pub returns-in_default : goal.returns-in_default
returns-in_default c = λ w draft at.
    no_command c.args.self.now.shape c.args.number (w.books c.args.number) c.args.lane.now.script c.args.progress.now.done at.left
    (subst (λ (xs : List Command). ltb c.args.progress.now.done (length xs) ≡ false) c.as_slice.ensures (sym c.in_default.ensures.lookup.0))

pub returns-in_default-call_of : goal.returns-in_default-call_of
returns-in_default-call_of c = λ w draft at.
    let script = c.args.lane.now.script in let done = c.args.progress.now.done in let command = c.in-Some.command.now in
    let b : Book = w.books c.args.number in
    let r : Reads script done command
    = subst (λ (xs : List Command). Reads xs done command) c.as_slice.ensures (c.in-Some.ensures.lookup.3.0, c.in-Some.ensures.lookup.1) in
    let called : call_of b command ≡ None = c.in_default-call_of.ensures script b at.slots in
    no_call c.args.self.now.shape c.args.number b script done command at.left (read_at script done command r.0 r.1) called

pub next_step-requires-clause-place : goal.next_step-requires-clause-place
next_step-requires-clause-place c =
    let script = c.args.lane.now.script in let done = c.args.progress.now.done in let command = c.in-Some.command.now in
    let own = c.in-Some-call_of.call in
    let q = c.requires.draft in
    let b : Book = q.0.books c.args.number in
    let r : Reads script done command
    = subst (λ (xs : List Command). Reads xs done command) c.as_slice.ensures (c.in-Some.ensures.lookup.3.0, c.in-Some.ensures.lookup.1) in
    let there : slice_get script done ≡ Some command = read_at script done command r.0 r.1 in
    let called : IsCall script done b (Some own) (call_of b command)
    = c.in-Some-call_of.ensures script b q.2.slots in
    let made = option_copied c.args.made in (
      script,
      done,
      b,
      the_call c.args.self.now q.0 made c.args.number c.args.lane.now c.args.progress.now command own q.1 q.2 c.requires.lane there called,
      is_call c.args.self.now q.0 made c.args.number c.args.lane.now c.args.progress.now command own q.1 q.2 c.requires.lane there called,
      the_place c.args.self.now q.0 made c.args.number c.args.lane.now c.args.progress.now command own q.1 q.2 c.requires.lane there called
          c.in-Some-last.step c.in-Some-last.is,
    )

pub next_step-requires-clause-take : goal.next_step-requires-clause-take
next_step-requires-clause-take c =
    let script = c.args.lane.now.script in let done = c.args.progress.now.done in let command = c.in-Some.command.now in
    let own = c.in-Some-call_of.call in
    let q = c.requires.draft in
    let b : Book = q.0.books c.args.number in
    let r : Reads script done command
    = subst (λ (xs : List Command). Reads xs done command) c.as_slice.ensures (c.in-Some.ensures.lookup.3.0, c.in-Some.ensures.lookup.1) in
    let there : slice_get script done ≡ Some command = read_at script done command r.0 r.1 in
    let called : IsCall script done b (Some own) (call_of b command)
    = c.in-Some-call_of.ensures script b q.2.slots in
    the_take c.args.self.now q.0 (option_copied c.args.made) c.args.number c.args.lane.now c.args.progress.now command own q.1 q.2 c.requires.lane
    there called c.in-Some-last.step c.in-Some-last.is

pub returns-in-Some-last : goal.returns-in-Some-last
returns-in-Some-last c = λ w draft at.
    let script = c.args.lane.now.script in let done = c.args.progress.now.done in let command = c.in-Some.command.now in
    let own = c.in-Some-call_of.call in
    let b : Book = w.books c.args.number in
    let r : Reads script done command
    = subst (λ (xs : List Command). Reads xs done command) c.as_slice.ensures (c.in-Some.ensures.lookup.3.0, c.in-Some.ensures.lookup.1) in
    let there : slice_get script done ≡ Some command = read_at script done command r.0 r.1 in
    let called : IsCall script done b (Some own) (call_of b command)
    = c.in-Some-call_of.ensures script b at.slots in
    by_last c.args.self.now w (option_copied c.args.made) c.args.number c.args.lane.now c.args.progress.now command own draft at c.requires.lane
    there called c.in-Some-last.step c.in-Some-last.is c.args.progress.now.pushed c.next_step.result (λ i. c.args.progress.now.pushed) c.next_step.ensures

pub returns-in-None : goal.returns-in-None
returns-in-None c = λ w draft at.
    let script = c.args.lane.now.script in let done = c.args.progress.now.done in let command = c.in-Some.command.now in
    let own = c.in-Some-call_of.call in
    let b : Book = w.books c.args.number in
    let r : Reads script done command
    = subst (λ (xs : List Command). Reads xs done command) c.as_slice.ensures (c.in-Some.ensures.lookup.3.0, c.in-Some.ensures.lookup.1) in
    let there : slice_get script done ≡ Some command = read_at script done command r.0 r.1 in
    let called : IsCall script done b (Some own) (call_of b command)
    = c.in-Some-call_of.ensures script b at.slots in
    by_first c.args.self.now w (option_copied c.args.made) c.args.number c.args.lane.now c.args.progress.now command own draft at c.requires.lane
    there called c.first_step.result c.in-None.is c.first_step.ensures
