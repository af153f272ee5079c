-- The call under way is that of the next command; where it makes none, there is no step.
use Rattle.std.proofs.Common.{◌≡◌, ltb, false, List, length, Some, ap, sym, subst, ◌∙◌}
use Rattle.std.proofs.lemmas.Bool.{ltb-false}
use Rattle.std.proofs.lemmas.List.{drop_all}
use Rattle.std.proofs.lemmas.Result.{IfOk-weaker}
use Rattle.traces.specs.declared.script.Command.{Command}
use Rattle.traces.specs.Books.{call_of_first}
use Rattle.coresteps.specs.Lanes.{IsCall}
use Rattle.coresteps.proofs.StepLemmas.{no_step, next_called}
use Rattle.coresteps.proofs.shared.Shared.act_of.Goals as goal

pub returns-in_default-call_of : goal.returns-in_default-call_of
returns-in_default-call_of c = λ w act draft lane step legal.
    let b = w.books c.args.number in
    let script = c.args.lane.now.script in
    let found = c.in-Some.ensures.lookup.3 in
    let called = next_called script c.as_slice.result.now c.args.progress.now.done c.in-Some.command.now b c.as_slice.ensures found.0 found.1 lane.left in
    absurd (no_step c.args.self.now.shape w c.args.number c.args.step act (called ∙ c.in_default-call_of.ensures script b lane.slots) step)

pub act_of_call-requires-clause-done : goal.act_of_call-requires-clause-done
act_of_call-requires-clause-done c = c.requires.draft.3.within

pub act_of_call-requires-clause-draft : goal.act_of_call-requires-clause-draft
act_of_call-requires-clause-draft c =
    let d = c.requires.draft in
    let lane = d.3 in
    let b = d.0.books c.args.number in
    let script = c.args.lane.now.script in
    let done = c.args.progress.now.done in
    let found = c.in-Some.ensures.lookup.3 in
    let called = next_called script c.as_slice.result.now done c.in-Some.command.now b c.as_slice.ensures found.0 found.1 lane.left in
    (d.0, d.1, d.2, subst (IsCall script done b (Some c.in-Some-call_of.call)) (sym called) (c.in-Some-call_of.ensures script b lane.slots), d.4, d.5)

pub returns : goal.returns
returns c = IfOk-weaker c.act_of_call.result _ _ (λ made told w act draft lane step legal.
    let b = w.books c.args.number in
    let script = c.args.lane.now.script in
    let done = c.args.progress.now.done in
    let found = c.in-Some.ensures.lookup.3 in
    let called = next_called script c.as_slice.result.now done c.in-Some.command.now b c.as_slice.ensures found.0 found.1 lane.left in
    told w act draft (subst (IsCall script done b (Some c.in-Some-call_of.call)) (sym called) (c.in-Some-call_of.ensures script b lane.slots)) step legal)
    c.act_of_call.ensures

pub returns-in_default : goal.returns-in_default
returns-in_default c = λ w act draft lane step legal.
    let b = w.books c.args.number in
    let script = c.args.lane.now.script in
    let done = c.args.progress.now.done in
    let beyond = ltb-false done (length script)
    (subst (λ (xs : List Command). ltb done (length xs) ≡ false) c.as_slice.ensures (sym c.in_default.ensures.lookup.0)) in
    absurd (no_step c.args.self.now.shape w c.args.number c.args.step act
    (ap (call_of_first b) (sym lane.left ∙ drop_all done script beyond)) step)
