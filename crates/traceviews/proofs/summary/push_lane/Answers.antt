use Rattle.std.proofs.Common.{◌++◌, ℕ, List, codes, count_by, decimal, refl, subst}
use Rattle.std.specs.List.{flat_map}
use Rattle.traceviews.specs.Counts.{is_failed_of, is_reply_of, is_unfinished, longest_call}
use Rattle.traceviews.specs.Pages.{Grows}
use Rattle.traceviews.specs.Summaries.{named_text, step_names, steps_text, unfinished_text}
use Rattle.traceviews.specs.declared.line.StepName.{StepName}
use Rattle.traceviews.proofs.PageLemmas.{grows_more}
use Rattle.traceviews.proofs.summary.push_lane.Goals as goal

pub returns : goal.returns
returns c =
    let lines = c.args.lines.now in
    let lane = c.args.lane in
    let p0 = c.args.out.now in
    let p1 = c.named.new.self in
    let p2 = c.named-2.new.self in
    let p3 = c.named-3.new.self in
    let p4 = c.named-4.new.self in
    let p5 = c.text.new.self in
    let p6 = c.push_step_counts.new.out in
    let name = named_text (codes "lane ") lane in
    let replies = named_text (codes " replies ") (count_by (is_reply_of lane) lines) in
    let failed = named_text (codes " failed ") (count_by (is_failed_of lane) lines) in
    let longest = named_text (codes " longest call ") (longest_call lane lines) in
    let unfinished = unfinished_text (is_unfinished lane lines) in
    let steps = flat_map (steps_text lines lane) step_names in
    let first : Grows p0 p1 name = subst (λ (n : ℕ). Grows p0 p1 (codes "lane " ++ decimal n)) c.from.ensures c.named.ensures in
    let second : Grows p1 p2 replies = subst (λ (n : ℕ). Grows p1 p2 (codes " replies " ++ decimal n)) c.replies_of.ensures c.named-2.ensures in
    let third : Grows p2 p3 failed = subst (λ (n : ℕ). Grows p2 p3 (codes " failed " ++ decimal n)) c.failed_steps.ensures c.named-3.ensures in
    let fourth : Grows p3 p4 longest = subst (λ (n : ℕ). Grows p3 p4 (codes " longest call " ++ decimal n)) c.longest_call.ensures c.named-4.ensures in
    let words : Grows p4 p5 (unfinished_text c.is_unfinished.result) = subst (λ (text : List ℕ). Grows p4 p5 text) c.unfinished_words.ensures c.text.ensures in
    let fifth : Grows p4 p5 unfinished = subst (λ b. Grows p4 p5 (unfinished_text b)) c.is_unfinished.ensures words in
    let sixth : Grows p5 p6 steps = subst (λ (names : List StepName). Grows p5 p6 (flat_map (steps_text lines lane) names)) c.names.ensures c.push_step_counts.ensures in
    let t2 = name ++ replies in
    let t3 = t2 ++ failed in
    let t4 = t3 ++ longest in
    let t5 = t4 ++ unfinished in
    let g2 = grows_more p0 p1 p2 name replies t2 first second refl in
    let g3 = grows_more p0 p2 p3 t2 failed t3 g2 third refl in
    let g4 = grows_more p0 p3 p4 t3 longest t4 g3 fourth refl in
    let g5 = grows_more p0 p4 p5 t4 unfinished t5 g4 fifth refl in
    let t6 = t5 ++ steps in
    let g6 = grows_more p0 p5 p6 t5 steps t6 g5 sixth refl in
    grows_more p0 p6 c.text-2.new.self t6 (codes "\n") (t6 ++ codes "\n") g6 c.text-2.ensures refl
