use Rattle.std.proofs.Common.{◌≡◌, ◌+◌, ℕ, suc, ltb, true, false, inl, inr, List, length, drop, refl, Option, Some, None, ap, sym, ◌∙◌, subst, arith}
use Rattle.std.specs.Prelude.{is_some}
use Rattle.std.proofs.lemmas.Bool.{ltb-false}
use Rattle.std.proofs.lemmas.List.{drop_all}
use Rattle.std.proofs.lemmas.Result.{IfOk-from_err}
use Rattle.seqpool.specs.Pool.{pool_after}
use Rattle.steplaws.specs.Calls as steps
use Rattle.traces.specs.declared.script.Command.{Command}
use Rattle.traces.specs.Lawful.{at_end}
use Rattle.coresteps.specs.declared.aims.Aim.{Aim}
use Rattle.coresteps.specs.Lanes.{IsAim}
use Rattle.traces.specs.Books.{next_aim, answered}
use Rattle.coresteps.specs.declared.progress.Progress.{Progress}
use Rattle.coresteps.specs.Kept.{IsLaneAt}
use Rattle.coresteps.proofs.CreateLemmas.{next_left, no_aim, answered_at, answered_reply}
use Rattle.coresteps.proofs.shared.Shared.answer.Goals as goal

pub finish-requires : goal.finish-requires
finish-requires c =
    let d = c.requires.draft in
    let script = c.args.lane.now.script in
    let slice = c.as_slice.result.now in
    let done = c.args.progress.now.done in
    let found = c.in-Some.ensures.lookup.3 in
    let left = next_left script slice done c.in-Some.command.now (d.0.books c.args.number).left c.as_slice.ensures found.0 found.1 d.2.left in
    let over = no_aim c.next_aim.result (next_aim c.args.self.now.shape c.args.number (d.0.books c.args.number)) c.if-is_some.ensures
    (c.next_aim.ensures d.0 d.1 d.2) in
    let same = (c.in_ok-reply.ensures d.0 (drop (suc done) slice) d.1 d.2 over left).1.done in
    let inside = found.0 in
    omega arith

pub returns : goal.returns
returns c = λ w draft at.
    let z = c.args.self.now.shape in
    let number = c.args.number in
    let lane = c.args.lane.now in
    let old = c.args.progress.now in
    let new = c.reply.new.progress in
    let b = w.books number in
    let command = c.in-Some.command.now in
    let reply = c.in_ok-reply.reply in
    let slice = c.as_slice.result.now in
    let more = drop (suc old.done) slice in
    let found = c.in-Some.ensures.lookup.3 in
    let left = next_left lane.script slice old.done command b.left c.as_slice.ensures found.0 found.1 at.left in
    let over = no_aim c.next_aim.result (next_aim z number b) c.if-is_some.ensures (c.next_aim.ensures w draft at) in
    let replied = c.in_ok-reply.ensures w more draft at over left in
    let shape = draft.kept.holds.rule.limits in
    let end = c.finish.ensures in (
      answered_reply z shape w.history number lane old new b command more reply (pool_after z w.history) over left replied.0,
      subst (λ (p : Progress). IsLaneAt z w.history number lane p (answered z number b reply)) (sym end)
          (answered_at z shape w.history number lane old new b command more reply at left replied.1),
      ap (λ (p : Progress). p.most) end ∙ replied.1.most,
      ap (λ (p : Progress). p.done) end ∙ ap (λ (n : ℕ). n + 1) replied.1.done,
      λ e. ap (λ (p : Progress). p.own.added) end ∙ replied.1.settled e,
    )

-- the script's end
at_its_end : (script slice left : List Command) (done : ℕ) → slice ≡ script → false ≡ ltb done (length slice) → drop done script ≡ left → at_end left ≡ true
at_its_end script slice left done same over is =
    let beyond = ltb-false done (length script) (subst (λ (xs : List Command). ltb done (length xs) ≡ false) same (sym over)) in
    ap at_end (sym is ∙ drop_all done script beyond)

pub returns-in_default : goal.returns-in_default
returns-in_default c = λ w draft at. (
  inl (at_its_end c.args.lane.now.script c.as_slice.result.now (w.books c.args.number).left c.args.progress.now.done
      c.as_slice.ensures c.in_default.ensures.lookup.0 at.left),
  refl,
)

-- a step
some_aim : (a : Option Aim) (next : Option steps.Aim) → true ≡ is_some a → IsAim a next → is_some next ≡ true
some_aim None next some is = absurd (cc some)
some_aim (Some a) next some is = ap is_some is

pub returns-then-is_some : goal.returns-then-is_some
returns-then-is_some c = λ w draft at.
    (inr (some_aim c.next_aim.result (next_aim c.args.self.now.shape c.args.number (w.books c.args.number)) c.if-is_some.ensures (c.next_aim.ensures w draft at)), refl)

pub returns-in_err-reply : goal.returns-in_err-reply
returns-in_err-reply c = IfOk-from_err c.from_residual.result _ c.from_residual.ensures.0

pub next_aim-requires-clause-draft : goal.next_aim-requires-clause-draft
next_aim-requires-clause-draft c = c.requires.draft

pub reply-requires-clause-draft : goal.reply-requires-clause-draft
reply-requires-clause-draft c =
    let d = c.requires.draft in
    let slice = c.as_slice.result.now in
    let done = c.args.progress.now.done in
    let found = c.in-Some.ensures.lookup.3 in
    let left = next_left c.args.lane.now.script slice done c.in-Some.command.now (d.0.books c.args.number).left c.as_slice.ensures found.0 found.1 d.2.left in
    let over = no_aim c.next_aim.result (next_aim c.args.self.now.shape c.args.number (d.0.books c.args.number)) c.if-is_some.ensures
    (c.next_aim.ensures d.0 d.1 d.2) in
    (d.0, drop (suc done) slice, d.1, d.2, over, left)
