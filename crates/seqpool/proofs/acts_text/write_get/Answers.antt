use Rattle.std.proofs.Common.{◌∙◌, List, ℕ, [], ◌∷◌, ◌++◌, Option, decimal, codes, string_bytes, refl, sym, ap}
use Rattle.std.proofs.lemmas.Result.{on_ok_weaker}
use Rattle.seqpool.specs.declared.act.Act.TheVariants.{Get}
use Rattle.seqpool.specs.ActsText.{content_text, act_text}
use Rattle.seqpool.proofs.WrittenLines.{pushed, head-end, head-content}
use Rattle.seqpool.proofs.acts_text.write_get.Goals as goal

pub returns-in_ok-write_content-in-Some : goal.returns-in_ok-write_content-in-Some
returns-in_ok-write_content-in-Some c =
    on_ok_weaker c.push_str-in-Some.result
    (λ wrote. head-content (string_bytes c.args.text.now) (string_bytes c.write_head.new.text) (string_bytes c.push_str.new.self)
    (string_bytes c.write_content.new.text) (string_bytes c.push_str-in-Some.new.self) (decimal c.args.lane) (codes "get") (decimal c.args.key)
    (codes "some ") (content_text c.as_slice.result.now) (content_text c.in-Some.content) (c.in_ok-write_head.ensures {u = tt})
    (c.in_ok-push_str-in-Some.ensures {u = tt}).bytes (c.in_ok-write_content-in-Some.ensures {u = tt}) (ap content_text c.as_slice.ensures) wrote
    ∙ ap (λ (r : Option (List ℕ)). string_bytes c.args.text.now ++ act_text (Get c.args.lane c.args.key r)) (sym c.in-Some.is))
    (pushed c.push_str-in-Some.result (string_bytes c.push_str-in-Some.new.self) (string_bytes c.write_content.new.text ++ 10 ∷ [])
    (string_bytes c.write_content.new.text) c.push_str-in-Some.ensures.bytes)

pub returns-in-None : goal.returns-in-None
returns-in-None c =
    on_ok_weaker c.push_str-in-None.result
    (λ wrote. head-end (string_bytes c.args.text.now) (string_bytes c.write_head.new.text) (string_bytes c.push_str-in-None.new.self)
    (decimal c.args.lane) (codes "get") (decimal c.args.key) (codes " none\n") (codes "none") (c.in_ok-write_head.ensures {u = tt}) wrote refl
    ∙ ap (λ (r : Option (List ℕ)). string_bytes c.args.text.now ++ act_text (Get c.args.lane c.args.key r)) (sym c.in-None.is))
    (pushed c.push_str-in-None.result (string_bytes c.push_str-in-None.new.self) (string_bytes c.write_head.new.text ++ codes " none\n")
    (string_bytes c.write_head.new.text) c.push_str-in-None.ensures.bytes)
