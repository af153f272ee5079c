use Rattle.std.proofs.Common.{rules, ◌≡◌, ℕ, true, false, List, codes, sym, subst}
use Rattle.traces.specs.declared.reply.Reply.{Reply}
use Rattle.traces.specs.declared.reply.Reply.TheVariants as replies
use Rattle.traceviews.specs.Json.{content_object, reply_object}
use Rattle.traceviews.specs.Pages.{Grows}
use Rattle.traceviews.specs.declared.page.Page.{Page}
use Rattle.traceviews.proofs.json.push_reply.Goals as goal

shown : (old new : Page) (reply other : Reply) → reply ≡ other → Grows old new (reply_object other) → Grows old new (reply_object reply)
shown old new reply other is told = subst (λ (r : Reply). Grows old new (reply_object r)) (sym is) told

content : (old new : Page) (name seen bytes : List ℕ) → seen ≡ bytes → Grows old new (content_object name seen) → Grows old new (content_object name bytes)
content old new name seen bytes is told = subst (λ (xs : List ℕ). Grows old new (content_object name xs)) is told

pub returns-in-Found : goal.returns-in-Found
returns-in-Found c = shown c.args.out.now c.push_content.new.out c.args.reply.now _ c.in-Found.is
    (content c.args.out.now c.push_content.new.out (codes "some") _ _ c.as_slice.ensures c.push_content.ensures)

pub returns-in-Content : goal.returns-in-Content
returns-in-Content c = shown c.args.out.now c.push_content-in-Content.new.out c.args.reply.now _ c.in-Content.is
    (content c.args.out.now c.push_content-in-Content.new.out (codes "content") _ _ c.as_slice-in-Content.ensures c.push_content-in-Content.ensures)

pub returns-in-Full : goal.returns-in-Full
returns-in-Full c = shown c.args.out.now c.push_plain.new.out c.args.reply.now _ c.in-Full.is c.push_plain.ensures

pub returns-in-Memory : goal.returns-in-Memory
returns-in-Memory c = shown c.args.out.now c.push_plain-in-Memory.new.out c.args.reply.now _ c.in-Memory.is c.push_plain-in-Memory.ensures

pub returns-in-Done : goal.returns-in-Done
returns-in-Done c = shown c.args.out.now c.push_plain-in-Done.new.out c.args.reply.now _ c.in-Done.is c.push_plain-in-Done.ensures

pub returns-in-Missing : goal.returns-in-Missing
returns-in-Missing c = shown c.args.out.now c.push_plain-in-Missing.new.out c.args.reply.now _ c.in-Missing.is c.push_plain-in-Missing.ensures

pub returns-in-Cleared-true : goal.returns-in-Cleared-true
returns-in-Cleared-true c =
    let is : c.args.reply.now ≡ replies.Cleared true = first_of (cc, search rules) in
    shown c.args.out.now c.push_plain-in-Cleared-true.new.out c.args.reply.now _ is c.push_plain-in-Cleared-true.ensures

pub returns-in-Cleared-false : goal.returns-in-Cleared-false
returns-in-Cleared-false c =
    let is : c.args.reply.now ≡ replies.Cleared false = first_of (cc, search rules) in
    shown c.args.out.now c.push_plain-in-Cleared-false.new.out c.args.reply.now _ is c.push_plain-in-Cleared-false.ensures

pub returns-in-Skip : goal.returns-in-Skip
returns-in-Skip c = shown c.args.out.now c.push_plain-in-Skip.new.out c.args.reply.now _ c.in-Skip.is c.push_plain-in-Skip.ensures
