use Rattle.std.proofs.Common.{◌≡◌, ◌∙◌, ◌+◌, ◌++◌, ◌∷◌, ℕ, List, length, append_assoc, sym, ap, arith}
use Rattle.std.specs.List.{flat_map}
use Rattle.traces.specs.declared.reply.Reply.{Reply}
use Rattle.traces.specs.Text.{reply_line}
use Rattle.outcomes.specs.Texts.{replies_text}
use Rattle.outcomes.proofs.texts.write_lanes.Goals as goal

pub loop-replies-preserved : goal.loop-replies-preserved
loop-replies-preserved c =
    let at = c.loop-replies in
    let more = c.in-Some.more.now in
    let replies = c.in-Some.replies.now in
    let whole : at.rest.now ≡ replies ∷ more = c.in-Some.ensures.cases.0 in
    let lines = flat_map (reply_line at.lane) replies in
    let said = c.in_ok-write_replies.ensures
    ∙ ap (λ (rows : List Reply). at.text.items ++ flat_map (reply_line at.lane) rows) c.as_slice.ensures in
    record {
      text = ap (λ (t : List ℕ). t ++ replies_text (at.lane + 1) more) said
          ∙ append_assoc at.text.items lines (replies_text (at.lane + 1) more)
          ∙ ap (λ (rest : List (List Reply)). at.text.items ++ replies_text at.lane rest) (sym whole)
          ∙ at.invariant.text;
      lane = omega (arith, ap length whole, at.invariant.lane);
    }
