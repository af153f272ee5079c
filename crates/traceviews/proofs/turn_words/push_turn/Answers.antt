use Rattle.std.proofs.Common.{false, List, ◌++◌, map, refl, subst}
use Rattle.std.specs.List.{flat_map}
use Rattle.traces.specs.declared.reply.Reply.{Reply}
use Rattle.traceviews.specs.Lines.{reply_entry, step_entries}
use Rattle.traceviews.specs.Pages.{Grows}
use Rattle.traceviews.specs.Styles.{styled_words}
use Rattle.traceviews.proofs.PageLemmas.{grows_more}
use Rattle.traceviews.proofs.TurnWords.{turn_words, turn_told}
use Rattle.traceviews.proofs.turn_words.push_turn.Goals as goal

pub returns : goal.returns
returns c =
    let t = c.args.turn.now in
    let lines = λ (rs : List Reply). flat_map (styled_words false) (map (reply_entry t.lane) rs) in
    let old = c.args.out.now in
    let one = c.push_replies.new.out in
    let two = c.push_step_if.new.out in
    let new = c.push_replies-2.new.out in
    let step = flat_map (styled_words false) (step_entries t.lane t.step) in
    let first = subst (λ (rs : List Reply). Grows old one (lines rs)) c.as_slice.ensures c.push_replies.ensures in
    let last = subst (λ (rs : List Reply). Grows two new (lines rs)) c.as_slice-2.ensures c.push_replies-2.ensures in
    grows_more old two new (lines t.before ++ step) (lines t.after) (turn_words false t)
    (grows_more old one two (lines t.before) step (lines t.before ++ step) first c.push_step_if.ensures refl) last (turn_told false t)
