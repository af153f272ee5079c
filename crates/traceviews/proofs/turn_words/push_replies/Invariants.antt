use Rattle.std.proofs.Common.{take, false}
use Rattle.std.specs.List.{flat_map}
use Rattle.traceviews.specs.Pages.{Grows}
use Rattle.traceviews.specs.Styles.{reply_words}
use Rattle.traceviews.proofs.turn_words.push_replies.Given as goal

abbrev pub invariant-loop-reply : goal.invariant-loop-reply
invariant-loop-reply l = Grows l.fn.out l.out (flat_map (reply_words false l.lane) (take l.reply-index l.replies))
