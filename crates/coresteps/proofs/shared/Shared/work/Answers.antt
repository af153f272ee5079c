use Rattle.std.proofs.Common.{List, sym, subst, arith}
use Rattle.std.specs.Prelude.{option_copied}
use Rattle.traces.specs.declared.reply.Reply.{Reply}
use Rattle.coresteps.specs.declared.progress.Progress.{Progress}
use Rattle.coresteps.proofs.CreateLemmas.{replied_world, Answered, HasReplied, replied_none, replied_more, replied_all}
use Rattle.coresteps.proofs.shared.Shared.work.Goals as goal

pub loop-replies-init : goal.loop-replies-init
loop-replies-init c = λ w draft at.
    let old = c.args.progress.now in
    subst (λ (rs : List Reply). HasReplied c.args.self.now w (option_copied c.args.made) c.args.number c.args.lane.now old rs old)
    (sym c.empty-replies.ensures)
    (replied_none c.args.self.now w (option_copied c.args.made) c.args.number c.args.lane.now old c.requires.lane draft at)

pub answer-requires-clause-draft : goal.answer-requires-clause-draft
answer-requires-clause-draft c =
    let d = c.requires.draft in
    let h = c.loop-replies.invariant d.0 d.1 d.2 in
    (replied_world c.args.self.now.shape d.0 c.args.number c.loop-replies.replies, h.draft, h.lane_at)

pub loop-replies-smaller : goal.loop-replies-smaller
loop-replies-smaller c =
    let d = c.requires.draft in
    let h = c.loop-replies.invariant d.0 d.1 d.2 in
    let v = replied_world c.args.self.now.shape d.0 c.args.number c.loop-replies.replies in
    let a = subst (Answered c.args.self.now v c.args.number c.args.lane.now c.loop-replies.progress c.answer.new.progress) c.in-Some.is
    (c.in_ok-reply.ensures v h.draft h.lane_at) in
    let within = a.1.within in let more = a.3 in
    omega arith

pub loop-replies-preserved : goal.loop-replies-preserved
loop-replies-preserved c = λ w draft at.
    let shared = c.args.self.now in
    let made = option_copied c.args.made in
    let old = c.args.progress.now in
    let replies = c.loop-replies.replies in
    let h = c.loop-replies.invariant w draft at in
    let v = replied_world shared.shape w c.args.number replies in
    let a = subst (Answered shared v c.args.number c.args.lane.now c.loop-replies.progress c.answer.new.progress) c.in-Some.is
    (c.in_ok-reply.ensures v h.draft h.lane_at) in
    subst (λ (rs : List Reply). HasReplied shared w made c.args.number c.args.lane.now old rs c.answer.new.progress) (sym c.in_ok-push.ensures.ok)
    (replied_more shared w made c.args.number c.args.lane.now old c.requires.lane replies c.in-Some.reply c.loop-replies.progress
    c.answer.new.progress h a.0 a.1 a.2 a.4)

pub returns : goal.returns
returns c = λ w draft at.
    let shared = c.args.self.now in
    let made = option_copied c.args.made in
    let old = c.args.progress.now in
    let replies = c.loop-replies.replies in
    let h = c.loop-replies.invariant w draft at in
    let v = replied_world shared.shape w c.args.number replies in
    let a = subst (Answered shared v c.args.number c.args.lane.now c.loop-replies.progress c.answer.new.progress) c.in_default.is
    (c.in_ok-reply.ensures v h.draft h.lane_at) in
    replied_all shared w made c.args.number c.args.lane.now old c.requires.lane replies c.answer.new.progress
    (subst (λ (p : Progress). HasReplied shared w made c.args.number c.args.lane.now old replies p) (sym a.1) h) a.0
