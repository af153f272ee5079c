use Rattle.std.proofs.Common.{◌≡◌, ◌∙◌, List, ℕ, [], ◌∷◌, ◌++◌, Bool, Bor, decimal, codes, string_bytes, sym, ap}
use Rattle.std.proofs.lemmas.Result.{on_ok_weaker}
use Rattle.seqpool.specs.ActsText.{truth_text}
use Rattle.seqpool.proofs.WrittenLines.{pushed, head-end}
use Rattle.seqpool.proofs.acts_text.write_clear.Goals as goal
use Rattle.seqpool.proofs.acts_text.write_clear.Goals.{then-reply, else-reply}

pub returns : goal.returns
returns c =
    let word : Bool → List ℕ = λ b. 32 ∷ (truth_text b ++ 10 ∷ []) in
    let is : c.if-reply.push_str.now ≡ 32 ∷ (truth_text c.args.reply ++ 10 ∷ []) = elim c.if-reply.branch [
      | then-reply w ↦ ap (λ (b : Bor (List ℕ)). b.now) w.push_str-is ∙ ap word (sym w.if-reply.true)
      | else-reply w ↦ ap (λ (b : Bor (List ℕ)). b.now) w.push_str-is ∙ ap word (sym w.if-reply.false)
    ] in
    on_ok_weaker c.push_str.result
    (λ wrote. head-end (string_bytes c.args.text.now) (string_bytes c.write_head.new.text) (string_bytes c.push_str.new.self) (decimal c.args.lane)
    (codes "clear") (decimal c.args.key) c.if-reply.push_str.now (truth_text c.args.reply) (c.in_ok-write_head.ensures {u = tt}) wrote is)
    (pushed c.push_str.result (string_bytes c.push_str.new.self) (string_bytes c.write_head.new.text ++ c.if-reply.push_str.now)
    (string_bytes c.write_head.new.text) c.push_str.ensures.bytes)
