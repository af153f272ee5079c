use Rattle.std.proofs.Common.{◌≡◌, ◌∙◌, ◌++◌, ℕ, codes, decimal, length, ap, arith}
use Rattle.outcomes.specs.Numbers.{number_text}
use Rattle.outcomes.proofs.TextLemmas.{joined}
use Rattle.outcomes.proofs.texts.write_counts.Goals as goal

pub returns : goal.returns
returns c =
    let old = c.args.text.now.items in
    let found = c.args.found.now in
    let count = c.len.result in
    let t1 = codes "states " in
    let t2 = t1 ++ decimal found.states in
    let t3 = t2 ++ codes " schedules " in
    let t4 = t3 ++ number_text found.ways in
    let t5 = t4 ++ codes " outcomes " in
    let t6 = t5 ++ decimal count in
    let s2 = joined old t1 (decimal found.states) _ _ c.in_ok-write_word.ensures c.in_ok-write_number.ensures in
    let s3 = joined old t2 (codes " schedules ") _ _ s2 c.in_ok-write_word-2.ensures in
    let s4 = joined old t3 (number_text found.ways) _ _ s3 c.in_ok-write.ensures in
    let s5 = joined old t4 (codes " outcomes ") _ _ s4 c.in_ok-write_word-3.ensures in
    let s6 = joined old t5 (decimal count) _ _ s5 c.in_ok-write_number-2.ensures in
    let same : count ≡ length found.outcomes.items = omega (arith, c.len.ensures, found.outcomes.ok.0) in
    joined old t6 (codes "\n") _ _ s6 c.in_ok-write_word-4.ensures
    ∙ ap (λ (n : ℕ). old ++ ((t5 ++ decimal n) ++ codes "\n")) same
