use Rattle.std.proofs.Common.{◌≡◌, ◌∷◌, ℕ, List, Option, None, sym, subst}
use Rattle.std.specs.Option.{option_copied}
use Rattle.std.specs.Result.{IfOk}
use Rattle.seqpool.specs.Pool.{pool_after}
use Rattle.traces.specs.declared.script.Command.{Command}
use Rattle.traces.specs.declared.reply.Reply.{Reply}
use Rattle.traces.specs.Books.{next_aim}
use Rattle.traces.specs.Following.{CommandReplies}
use Rattle.traces.specs.Lawful.{World}
use Rattle.coresteps.specs.declared.lane.Lane.{Lane}
use Rattle.coresteps.specs.declared.progress.Progress.{Progress}
use Rattle.coresteps.specs.declared.shared.Made.{Made}
use Rattle.coresteps.specs.declared.shared.Shared.{Shared}
use Rattle.coresteps.specs.Kept.{IsDraft, IsLaneAt, IsReplied}
use Rattle.coresteps.proofs.shared.Shared.reply.Goals as goal

-- the command that is next has this reply
abbrev Says : Shared → Option Made → ℕ → Lane → Progress → Progress → Command → Reply → Type 0
Says shared made number lane old new command reply = (w : World) (more : List Command) → IsDraft shared w made
    → IsLaneAt shared.shape w.history number lane old (w.books number)
    → next_aim shared.shape number (w.books number) ≡ None → (w.books number).left ≡ command ∷ more
    → CommandReplies shared.shape (pool_after shared.shape w.history) number (w.books number) command reply
    × IsReplied shared.shape w.history number lane (w.books number) command reply old new

pub returns-in-Create : goal.returns-in-Create
returns-in-Create c =
    subst (λ (command : Command). Says c.args.self.now (option_copied c.args.made) c.args.number c.args.lane.now c.args.progress.now c.create.new.progress command c.create.result) (sym c.in-Create.is)
    c.create.ensures

pub returns-in-Write : goal.returns-in-Write
returns-in-Write c =
    subst (λ (command : Command). Says c.args.self.now (option_copied c.args.made) c.args.number c.args.lane.now c.args.progress.now c.args.progress.now command c.write.result) (sym c.in-Write.is)
    (λ w more draft at over left. c.write.ensures c.args.self.now.shape w c.args.number c.args.lane.now c.in-Write.field-1 more draft.kept c.requires.lane at left)

pub returns-in-Publish : goal.returns-in-Publish
returns-in-Publish c =
    subst (λ (command : Command). Says c.args.self.now (option_copied c.args.made) c.args.number c.args.lane.now c.args.progress.now c.publish.new.self command c.publish.result) (sym c.in-Publish.is)
    (λ w more draft at over left. c.publish.ensures c.args.self.now.shape w c.args.number c.args.lane.now more draft.kept c.requires.lane at left)

pub returns-in-Downgrade : goal.returns-in-Downgrade
returns-in-Downgrade c =
    subst (λ (command : Command). Says c.args.self.now (option_copied c.args.made) c.args.number c.args.lane.now c.args.progress.now c.downgrade.new.self command c.downgrade.result) (sym c.in-Downgrade.is)
    (λ w more draft at over left. c.downgrade.ensures c.args.self.now.shape w c.args.number c.args.lane.now more draft.kept c.requires.lane at left)

pub returns-in-Get : goal.returns-in-Get
returns-in-Get c =
    subst (λ (command : Command). IfOk c.get.result (Says c.args.self.now (option_copied c.args.made) c.args.number c.args.lane.now c.args.progress.now c.get.new.progress command)) (sym c.in-Get.is)
    c.get.ensures

pub returns-in-Read : goal.returns-in-Read
returns-in-Read c =
    subst (λ (command : Command). IfOk c.read.result (Says c.args.self.now (option_copied c.args.made) c.args.number c.args.lane.now c.args.progress.now c.args.progress.now command)) (sym c.in-Read.is)
    c.read.ensures

pub returns-in-Release : goal.returns-in-Release
returns-in-Release c =
    subst (λ (command : Command). Says c.args.self.now (option_copied c.args.made) c.args.number c.args.lane.now c.args.progress.now c.release.new.self command c.release.result) (sym c.in-Release.is)
    (λ w more draft at over left. c.release.ensures c.args.self.now.shape w c.args.number c.args.lane.now more draft.kept c.requires.lane at left)

pub returns-in-Clear : goal.returns-in-Clear
returns-in-Clear c =
    subst (λ (command : Command). Says c.args.self.now (option_copied c.args.made) c.args.number c.args.lane.now c.args.progress.now c.args.progress.now command c.clear.result) (sym c.in-Clear.is)
    (λ w more draft at over left. c.clear.ensures c.args.self.now.shape w c.args.number c.args.lane.now more draft.kept c.requires.lane at left)
