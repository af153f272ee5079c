use Rattle.std.proofs.Common.{◌≡◌, ◌∙◌, false, take, sym, ap, subst, arith}
use Rattle.std.specs.List.{flat_map}
use Rattle.std.proofs.lemmas.List.{take_all}
use Rattle.traceviews.specs.Pages.{Grows}
use Rattle.traceviews.specs.Styles.{reply_words}
use Rattle.traceviews.proofs.TurnWords.{replies_told}
use Rattle.traceviews.proofs.turn_words.push_replies.Goals as goal

pub returns : goal.returns
returns c =
    let lane = c.args.lane in
    let replies = c.args.replies.now in
    let all : take c.loop-reply.reply-index replies ≡ replies = take_all c.loop-reply.reply-index replies (omega arith) in
    subst (Grows c.args.out.now c.loop-reply.out) (ap (flat_map (reply_words false lane)) all ∙ sym (replies_told false lane replies)) c.loop-reply.invariant
