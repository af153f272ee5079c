-- The turn is the next of its lane, and what all lanes share and the lane itself tell of the world after it.
use Rattle.std.proofs.Common.{◌≡◌, ◌++◌, ◌∙◌, List, length, Option, sym, subst, refl, None, []}
use Rattle.std.specs.Prelude.{Result, Ok, Err, OnErr}
use Rattle.std.proofs.lemmas.Result.{IfOk-from_err}
use Rattle.steplaws.specs.Calls.{aim}
use Rattle.seqpool.specs.declared.act.Act.{Act}
use Rattle.traces.specs.declared.reply.Reply.{Reply}
use Rattle.traces.specs.Lawful.{World, world_after, book_after, IsStep, IsNextTurn}
use Rattle.coresteps.specs.Kept.{IsDraft, IsLaneAt}
use Rattle.coresteps.proofs.CoreLemmas.{before_step, turn_of, after_made, history_length, replied_at, commanded_at, in_script, end_turn, made_draft, made_at, step_next, step_world, step_at, step_most}
use Rattle.coresteps.proofs.StepLemmas.{word_inside, published_inside}
use Rattle.coresteps.proofs.replay.advance.Goals as goal

-- after a refusal what all lanes share is as before
in_err : {T E : Type 0} (r : Result T E) (P : Type 0) → P → OnErr r P
in_err (Ok x) P p = tt
in_err (Err e) P p = p

pub returns-in_default-clause-ok : goal.returns-in_default-clause-ok
returns-in_default-clause-ok c = λ w draft at unfinished.
    let shared = c.args.shared.now in
    let z = shared.shape in
    let n = c.args.lane in
    let of = c.args.of.now in
    let p0 = c.args.progress.now in
    let p1 = c.work.new.progress in
    let before = c.in_ok-before.before in
    let worked = c.in_ok-before.ensures w draft at in
    let w1 = before_step z w n before in
    let at_step = replied_at shared w n of p0 p1 before worked in
    let turn = end_turn shared w n of p0 p1 before worked unfinished (c.in_default.ensures w1 worked.draft at_step) in
    subst (λ (after : List Reply). (n ≡ n) × IsNextTurn z w (turn_of n before None None after) × IsDraft shared (world_after z w (turn_of n before None None after)) None
    × IsLaneAt z (w.history ++ []) n of p1 (book_after z w (turn_of n before None None after)) × (p1.most ≡ p0.most))
    (sym c.empty.ensures) (refl, turn.0, turn.1, turn.2, worked.most)

pub make-requires-clause-draft : goal.make-requires-clause-draft
make-requires-clause-draft c =
    let w = c.requires.draft.0 in
    let draft = c.requires.draft.1 in
    let at = c.requires.draft.2 in
    let shared = c.args.shared.now in
    let z = shared.shape in
    let n = c.args.lane in
    let of = c.args.of.now in
    let p0 = c.args.progress.now in
    let p1 = c.work.new.progress in
    let before = c.in_ok-before.before in
    let worked = c.in_ok-before.ensures w draft at in
    let w1 = before_step z w n before in
    let at_step = replied_at shared w n of p0 p1 before worked in
    (w1, worked.draft, at_step, c.in-Some.ensures w1 worked.draft at_step)

pub bounds-as_slice-progress : goal.bounds-as_slice-progress
bounds-as_slice-progress c =
    let w = c.requires.draft.0 in
    let draft = c.requires.draft.1 in
    let at = c.requires.draft.2 in
    let shared = c.args.shared.now in
    let z = shared.shape in
    let n = c.args.lane in
    let of = c.args.of.now in
    let p0 = c.args.progress.now in
    let p1 = c.work.new.progress in
    let before = c.in_ok-before.before in
    let worked = c.in_ok-before.ensures w draft at in
    let w1 = before_step z w n before in
    let at_step = replied_at shared w n of p0 p1 before worked in
    in_script shared w n of p0 p1 before worked _ c.as_slice.result.now (c.in-Some.ensures w1 worked.draft at_step) c.as_slice.ensures

pub note-requires-clause-draft : goal.note-requires-clause-draft
note-requires-clause-draft c =
    let w = c.requires.draft.0 in
    let draft = c.requires.draft.1 in
    let at = c.requires.draft.2 in
    let shared = c.args.shared.now in
    let z = shared.shape in
    let n = c.args.lane in
    let of = c.args.of.now in
    let p0 = c.args.progress.now in
    let p1 = c.work.new.progress in
    let before = c.in_ok-before.before in
    let worked = c.in_ok-before.ensures w draft at in
    let w1 = before_step z w n before in
    let at_step = replied_at shared w n of p0 p1 before worked in
    let next = c.in-Some.ensures w1 worked.draft at_step in
    let is = c.in_ok-made.ensures w1 worked.draft at_step next in
    (shared, w1, of, refl, worked.draft, at_step, is.0)

pub finish_step-requires-clause-draft : goal.finish_step-requires-clause-draft
finish_step-requires-clause-draft c =
    let w = c.requires.draft.0 in
    let draft = c.requires.draft.1 in
    let at = c.requires.draft.2 in
    let shared = c.args.shared.now in
    let z = shared.shape in
    let n = c.args.lane in
    let of = c.args.of.now in
    let p0 = c.args.progress.now in
    let p1 = c.work.new.progress in
    let before = c.in_ok-before.before in
    let worked = c.in_ok-before.ensures w draft at in
    let w1 = before_step z w n before in
    let at_step = replied_at shared w n of p0 p1 before worked in
    let next = c.in-Some.ensures w1 worked.draft at_step in
    let made = c.in_ok-made.made in
    let is = c.in_ok-made.ensures w1 worked.draft at_step next in
    let left = commanded_at shared w n of p0 p1 before worked _ c.as_slice.result.now c.index-as_slice-progress.result next c.as_slice.ensures c.index-as_slice-progress.is in
    let index : c.len-index.result ≡ length w1.history = c.len-index.ensures ∙ (shared.acts.ok.0 ∙ history_length shared w1 worked.draft) in
    let noted = c.note.ensures.lane shared w1 of left.0 refl worked.draft at_step is.0 is.1 index left.1 (worked.settled c.requires.added) in
    let w2 = after_made z w n before made in
    let draft_made = made_draft shared w n of p0 p1 before worked made is.0 c.requires.lane is.1 in
    let at_made = made_at shared w n of p0 p1 before worked made is.0 c.note.new.self noted.0 in
    (w2, draft_made, at_made)

pub finish_step-requires-clause-word : goal.finish_step-requires-clause-word
finish_step-requires-clause-word c =
    let w = c.requires.draft.0 in
    let draft = c.requires.draft.1 in
    let at = c.requires.draft.2 in
    let shared = c.args.shared.now in
    let z = shared.shape in
    let n = c.args.lane in
    let of = c.args.of.now in
    let p0 = c.args.progress.now in
    let p1 = c.work.new.progress in
    let before = c.in_ok-before.before in
    let worked = c.in_ok-before.ensures w draft at in
    let w1 = before_step z w n before in
    let at_step = replied_at shared w n of p0 p1 before worked in
    let next = c.in-Some.ensures w1 worked.draft at_step in
    let made = c.in_ok-made.made in
    let is = c.in_ok-made.ensures w1 worked.draft at_step next in
    word_inside z w1 n (aim made.step.kind made.step.word) worked.draft.kept c.requires.lane is.0.next

pub finish_step-requires-clause-place : goal.finish_step-requires-clause-place
finish_step-requires-clause-place c = λ lane key content with_ref publish.
    let w = c.requires.draft.0 in
    let draft = c.requires.draft.1 in
    let at = c.requires.draft.2 in
    let shared = c.args.shared.now in
    let z = shared.shape in
    let n = c.args.lane in
    let of = c.args.of.now in
    let p0 = c.args.progress.now in
    let p1 = c.work.new.progress in
    let before = c.in_ok-before.before in
    let worked = c.in_ok-before.ensures w draft at in
    let w1 = before_step z w n before in
    let at_step = replied_at shared w n of p0 p1 before worked in
    let next = c.in-Some.ensures w1 worked.draft at_step in
    let made = c.in_ok-made.made in
    let is = c.in_ok-made.ensures w1 worked.draft at_step next in
    published_inside z w1 n made.step lane key content with_ref worked.draft.kept c.requires.lane
    (subst (λ (act : Option Act). IsStep z n w1.words (w1.books n) made.step act) publish is.0)

pub returns-clause-ok : goal.returns-clause-ok
returns-clause-ok c = λ w draft at unfinished.
    let shared = c.args.shared.now in
    let z = shared.shape in
    let n = c.args.lane in
    let of = c.args.of.now in
    let p0 = c.args.progress.now in
    let p1 = c.work.new.progress in
    let before = c.in_ok-before.before in
    let worked = c.in_ok-before.ensures w draft at in
    let w1 = before_step z w n before in
    let at_step = replied_at shared w n of p0 p1 before worked in
    let next = c.in-Some.ensures w1 worked.draft at_step in
    let made = c.in_ok-made.made in
    let is = c.in_ok-made.ensures w1 worked.draft at_step next in
    let left = commanded_at shared w n of p0 p1 before worked _ c.as_slice.result.now c.index-as_slice-progress.result next c.as_slice.ensures c.index-as_slice-progress.is in
    let index : c.len-index.result ≡ length w1.history = c.len-index.ensures ∙ (shared.acts.ok.0 ∙ history_length shared w1 worked.draft) in
    let noted = c.note.ensures.lane shared w1 of left.0 refl worked.draft at_step is.0 is.1 index left.1 (worked.settled c.requires.added) in
    let w2 = after_made z w n before made in
    let draft_made = made_draft shared w n of p0 p1 before worked made is.0 c.requires.lane is.1 in
    let at_made = made_at shared w n of p0 p1 before worked made is.0 c.note.new.self noted.0 in
    let after = c.in_ok-after.after in
    let finished = c.in_ok-after.ensures.ok w2 draft_made at_made in
    let worked_after = finished.0 in
    let p2 = c.note.new.self in
    let p3 = c.finish_step.new.progress in
    let new = c.finish_step.new.shared in
    let turn = step_next shared w n of p0 p1 before worked made is.0 p2 p3 after worked_after unfinished in
    let world = step_world shared w n of p0 p1 before worked made is.0 p2 p3 after worked_after in
    let draft_new = subst (λ (v : World). IsDraft new v None) world (finished.1 _ worked_after.draft) in
    let at_new = step_at shared w n of p0 p1 before worked made is.0 p2 p3 after worked_after in
    let most = step_most shared w n of p0 p1 before worked made is.0 p2 p3 after worked_after _ left.1 noted.1 in
    (refl, turn, draft_new, at_new, most)

pub next_aim-requires-clause-draft : goal.next_aim-requires-clause-draft
next_aim-requires-clause-draft c =
    let w = c.requires.draft.0 in
    let shared = c.args.shared.now in
    let n = c.args.lane in
    let before = c.in_ok-before.before in
    let worked = c.in_ok-before.ensures w c.requires.draft.1 c.requires.draft.2 in
    (before_step shared.shape w n before, worked.draft, replied_at shared w n c.args.of.now c.args.progress.now c.work.new.progress before worked)

pub work-requires-clause-draft : goal.work-requires-clause-draft
work-requires-clause-draft c = c.requires.draft

pub returns-in_default-clause-same : goal.returns-in_default-clause-same
returns-in_default-clause-same c = tt

pub returns-in_default-clause-shape : goal.returns-in_default-clause-shape
returns-in_default-clause-shape c = refl

pub returns-in_err-before : goal.returns-in_err-before
returns-in_err-before c = record {
  ok = IfOk-from_err c.from_residual.result _ c.from_residual.ensures.0;
  same = in_err c.from_residual.result _ (refl, refl, refl, refl);
  shape = refl;
}

pub returns-in_err-made : goal.returns-in_err-made
returns-in_err-made c = record {
  ok = IfOk-from_err c.from_residual-in_err-made.result _ c.from_residual-in_err-made.ensures.0;
  same = in_err c.from_residual-in_err-made.result _ (refl, refl, refl, refl);
  shape = refl;
}

pub returns-in_err-after : goal.returns-in_err-after
returns-in_err-after c = record {
  ok = IfOk-from_err c.from_residual-in_err-after.result _ c.from_residual-in_err-after.ensures.0;
  same = in_err c.from_residual-in_err-after.result _ c.in_err-after.ensures.same;
  shape = c.finish_step.ensures.shape;
}

pub returns-clause-same : goal.returns-clause-same
returns-clause-same c = tt

pub returns-clause-shape : goal.returns-clause-shape
returns-clause-shape c = c.finish_step.ensures.shape

pub work-requires-clause-lane : goal.work-requires-clause-lane
work-requires-clause-lane c = c.requires.lane

pub next_aim-requires-clause-lane : goal.next_aim-requires-clause-lane
next_aim-requires-clause-lane c = c.requires.lane

pub make-requires-clause-lane : goal.make-requires-clause-lane
make-requires-clause-lane c = c.requires.lane

pub note-requires-clause-lane : goal.note-requires-clause-lane
note-requires-clause-lane c = c.requires.lane

pub finish_step-requires-clause-lane : goal.finish_step-requires-clause-lane
finish_step-requires-clause-lane c = c.requires.lane
