use Rattle.std.proofs.Common.{rules, ◌≡◌, ◌++◌, ◌∙◌, ℕ, List, [], ap, get_or, take, decimal, codes, string_bytes}
use Rattle.seqpool.specs.ActsText.{places_text}
use Rattle.seqpool.proofs.WrittenLines.{first-place, next-place}
use Rattle.seqpool.proofs.acts_text.write_places.Goals as goal
use Rattle.seqpool.proofs.acts_text.write_places.Goals.{then-i-eq0, else-i-eq0}

pub loop-i-preserved : goal.loop-i-preserved
loop-i-preserved c =
    let wrote = (c.in_ok-write.ensures {u = tt}).bytes in
    let place : ℕ = get_or c.args.places.now c.loop-i.i 0 in
    wrote ∙ (ap (λ (xs : List ℕ). xs ++ (c.if-i-eq0.separator.now ++ decimal place)) c.loop-i.invariant ∙ elim c.if-i-eq0.branch [
      | then-i-eq0 w ↦
          let is : c.if-i-eq0.separator.now ≡ [] = search rules in
          ap (λ (xs : List ℕ). (string_bytes c.args.text.now ++ places_text (take c.loop-i.i c.args.places.now)) ++ (xs ++ decimal place)) is
          ∙ first-place c.args.places.now c.loop-i.i 0 (string_bytes c.args.text.now) c.loop-i-test.true w.if-i-eq0.true
      | else-i-eq0 w ↦
          let is : c.if-i-eq0.separator.now ≡ codes "," = search rules in
          ap (λ (xs : List ℕ). (string_bytes c.args.text.now ++ places_text (take c.loop-i.i c.args.places.now)) ++ (xs ++ decimal place)) is
          ∙ next-place c.args.places.now c.loop-i.i 0 (string_bytes c.args.text.now) c.loop-i-test.true w.if-i-eq0.false
    ])
