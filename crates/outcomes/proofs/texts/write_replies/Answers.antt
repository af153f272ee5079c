use Rattle.std.proofs.Common.{◌∙◌, ◌++◌, ◌∷◌, [], ℕ, List, take, sym, ap}
use Rattle.std.proofs.lemmas.List.{take_more, flat_map_more}
use Rattle.std.specs.List.{flat_map}
use Rattle.traces.specs.Text.{reply_line}
use Rattle.traces.specs.declared.reply.Reply.{Reply}
use Rattle.outcomes.proofs.texts.write_replies.Goals as goal

pub loop-reply-preserved : goal.loop-reply-preserved
loop-reply-preserved c =
    let at = c.loop-reply in
    let line = reply_line c.args.lane in
    let reply = c.reply-item.result in
    let before = take at.reply-index c.args.replies.now in
    c.in_ok-write_reply_line.ensures.ok
    ∙ ap (λ (text : List ℕ). text ++ line reply) at.invariant
    ∙ flat_map_more line c.args.text.now.items before reply
    ∙ ap (λ (replies : List Reply). c.args.text.now.items ++ flat_map line replies)
    (ap (λ (r : Reply). before ++ r ∷ []) c.reply-item.is ∙ sym (take_more c.args.replies.now at.reply-index reply c.loop-reply-test.true))
