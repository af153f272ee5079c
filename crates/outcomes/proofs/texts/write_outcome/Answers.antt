use Rattle.std.proofs.Common.{◌∙◌, ◌<◌, ◌^◌, ◌++◌, ℕ, List, codes, length, ap₂, sym, subst}
use Rattle.traces.specs.declared.reply.Reply.{Reply}
use Rattle.outcomes.specs.Numbers.{number_text}
use Rattle.outcomes.specs.Texts.{replies_text}
use Rattle.schedules.specs.Schedules.{schedule_line}
use Rattle.outcomes.proofs.TextLemmas.{joined}
use Rattle.outcomes.proofs.texts.write_outcome.Goals as goal

pub write_lanes-requires : goal.write_lanes-requires
write_lanes-requires c = subst (λ (lanes : List (List Reply)). length lanes < 2 ^ 32) (sym c.as_slice-2.ensures.value) c.requires

pub returns : goal.returns
returns c =
    let old = c.args.text.now.items in
    let outcome = c.args.outcome.now in
    let schedule = c.as_slice.result.now in
    let lanes = c.as_slice-2.result.now in
    let t1 = codes "outcome schedules " in
    let t2 = t1 ++ number_text outcome.ways in
    let t3 = t2 ++ codes " first " in
    let t4 = t3 ++ schedule_line schedule in
    let s2 = joined old t1 (number_text outcome.ways) _ _ c.in_ok-write_word.ensures c.in_ok-write.ensures in
    let s3 = joined old t2 (codes " first ") _ _ s2 c.in_ok-write_word-2.ensures in
    let s4 = joined old t3 (schedule_line schedule) _ _ s3 c.in_ok-push_schedule.ensures in
    joined old t4 (replies_text 0 lanes) _ _ s4 c.in_ok-write_lanes.ensures
    ∙ ap₂ (λ (s : List ℕ) (ls : List (List Reply)). old ++ ((t3 ++ schedule_line s) ++ replies_text 0 ls)) c.as_slice.ensures.value
    c.as_slice-2.ensures.value
