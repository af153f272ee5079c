use Rattle.std.proofs.Common.{◌≡◌, ◌∙◌, ℕ, List, ◌∷◌, ◌++◌, Bool, decimal, sym, ap, arith}
use Rattle.std.proofs.lemmas.Result.{err_from_is_err_and}
use Rattle.seqpool.specs.declared.act.Act.TheVariants.{Publish}
use Rattle.seqpool.specs.declared.act.ActName.TheVariants as names
use Rattle.seqpool.specs.ActsText.{content_text, flag_text, act_line}
use Rattle.seqpool.specs.ReadTexts.{spaced, name_text, IsContent, HasOperands}
use Rattle.seqpool.proofs.Parts.{refuses-as}
use Rattle.seqpool.proofs.ActTexts.{act_line-parts}
use Rattle.seqpool.proofs.ActRefusals.{publish-unkeyed, publish-uncut, publish-no_content, publish-no_flag}
use Rattle.seqpool.proofs.acts_reader.read_publish.Goals as goal

publish-line : (lane key : ℕ) (text rest a b content : List ℕ) (with_ref : Bool) → text ≡ spaced (decimal key) rest → rest ≡ a ++ 32 ∷ b
    → a ≡ content_text content → b ≡ flag_text with_ref
    → act_line (Publish lane key content with_ref) ≡ spaced (decimal lane) (spaced (name_text names.Publish) text)
publish-line lane key text rest a b content with_ref keyed cuts is flag =
    let P : List ℕ → List ℕ = λ xs. spaced (decimal lane) (spaced (name_text names.Publish) xs) in
    let Q : List ℕ → List ℕ = λ xs. spaced (decimal key) xs in
    act_line-parts (Publish lane key content with_ref)
    ∙ ap P (sym (keyed ∙ ap Q (cuts ∙ (ap (λ (xs : List ℕ). xs ++ 32 ∷ b) is ∙ ap (λ (xs : List ℕ). content_text content ++ 32 ∷ xs) flag))))

pub returns-in_default : goal.returns-in_default
returns-in_default c = publish-unkeyed c.args.lane c.args.operands.now (omega arith) c.in_default.ensures

pub returns-in_default-cut : goal.returns-in_default-cut
returns-in_default-cut c =
    publish-uncut c.args.lane c.in-Some.key c.args.operands.now c.in-Some.rest.now (omega arith) c.in-Some.ensures c.in_default-cut.ensures

pub returns-in_default-read_flag : goal.returns-in_default-read_flag
returns-in_default-read_flag c =
    publish-no_flag c.args.lane c.in-Some.key c.args.operands.now c.in-Some.rest.now c.in-Some-cut.content.now c.in-Some-cut.flag.now (omega arith)
    c.in-Some.ensures c.in-Some-cut.ensures c.in_default-read_flag.ensures

pub returns-in_err-content : goal.returns-in_err-content
returns-in_err-content c =
    let p = err_from_is_err_and c.from_residual.result c.from_residual.ensures.1 in
    rw (p.1, p.2)
    (refuses-as IsContent (HasOperands c.args.lane names.Publish) c.in-Some-cut.content.now c.args.operands.now
    (publish-no_content c.args.lane c.in-Some.key c.args.operands.now c.in-Some.rest.now c.in-Some-cut.content.now c.in-Some-cut.flag.now (omega arith)
    c.in-Some.ensures c.in-Some-cut.ensures)
    c.in_err-content.field-0.0 (c.in_err-content.ensures {u = tt}))

pub returns : goal.returns
returns c =
    let keyed = c.in-Some.ensures in
    let cuts = c.in-Some-cut.ensures in
    let is = c.in_ok-content.ensures {u = tt} in (
      (omega arith, keyed.0, is.0),
      publish-line c.args.lane c.in-Some.key c.args.operands.now c.in-Some.rest.now c.in-Some-cut.content.now c.in-Some-cut.flag.now
          c.in_ok-content.content c.in-Some-read_flag.with_ref keyed.1 cuts.0 is.1 c.in-Some-read_flag.ensures,
    )
