use Rattle.std.proofs.Common.{◌≡◌, ◌∙◌, ℕ, List, [], ◌∷◌, ◌++◌, Bool, true, false, Bor, decimal, codes, string_bytes, sym, ap, append_assoc, arith}
use Rattle.std.proofs.lemmas.Fmt.{decimal_digit}
use Rattle.std.proofs.lemmas.Result.{on_ok_weaker}
use Rattle.seqpool.specs.ActsText.{content_text, flag_text}
use Rattle.seqpool.specs.ReadTexts.{spaced}
use Rattle.seqpool.proofs.WrittenLines.{pushed}
use Rattle.seqpool.proofs.acts_text.write_publish.Goals as goal
use Rattle.seqpool.proofs.acts_text.write_publish.Goals.{then-with_ref, else-with_ref}

flag-one : (with_ref : Bool) → with_ref ≡ true → codes " 1\n" ≡ 32 ∷ (flag_text with_ref ++ 10 ∷ [])
flag-one true is = ap (λ (xs : List ℕ). 32 ∷ (xs ++ 10 ∷ [])) (sym (decimal_digit 1 (omega arith)))
flag-one false is = absurd (cc)

flag-zero : (with_ref : Bool) → with_ref ≡ false → codes " 0\n" ≡ 32 ∷ (flag_text with_ref ++ 10 ∷ [])
flag-zero true is = absurd (cc)
flag-zero false is = ap (λ (xs : List ℕ). 32 ∷ (xs ++ 10 ∷ [])) (sym (decimal_digit 0 (omega arith)))

regroup : (start lane word key content flag : List ℕ)
    → (((start ++ spaced lane (spaced word key)) ++ 32 ∷ []) ++ content) ++ (32 ∷ (flag ++ 10 ∷ []))
    ≡ start ++ (((((((lane ++ (32 ∷ (word ++ 32 ∷ []))) ++ key) ++ 32 ∷ []) ++ content) ++ 32 ∷ []) ++ flag) ++ 10 ∷ [])
regroup start lane word key content flag = simp append_assoc

-- five pieces, one after the other
pieces : (start one two three four lane word key piece content last flag : List ℕ) → one ≡ start ++ spaced lane (spaced word key)
    → two ≡ one ++ 32 ∷ [] → three ≡ two ++ piece → piece ≡ content → four ≡ three ++ last → last ≡ 32 ∷ (flag ++ 10 ∷ [])
    → four ≡ start ++ (((((((lane ++ (32 ∷ (word ++ 32 ∷ []))) ++ key) ++ 32 ∷ []) ++ content) ++ 32 ∷ []) ++ flag) ++ 10 ∷ [])
pieces start one two three four lane word key piece content last flag a b c d e f = let whole = regroup start lane word key content flag in cc

pub returns : goal.returns
returns c =
    let flag : c.if-with_ref.push_str.now ≡ 32 ∷ (flag_text c.args.with_ref ++ 10 ∷ []) = elim c.if-with_ref.branch [
      | then-with_ref w ↦ ap (λ (b : Bor (List ℕ)). b.now) w.push_str-is ∙ flag-one c.args.with_ref w.if-with_ref.true
      | else-with_ref w ↦ ap (λ (b : Bor (List ℕ)). b.now) w.push_str-is ∙ flag-zero c.args.with_ref w.if-with_ref.false
    ] in
    on_ok_weaker c.push_str-2.result
    (λ wrote. pieces (string_bytes c.args.text.now) (string_bytes c.write_head.new.text) (string_bytes c.push_str.new.self)
    (string_bytes c.write_content.new.text) (string_bytes c.push_str-2.new.self) (decimal c.args.lane) (codes "publish") (decimal c.args.key)
    (content_text c.as_slice.result.now) (content_text c.args.content.now) c.if-with_ref.push_str.now (flag_text c.args.with_ref)
    (c.in_ok-write_head.ensures {u = tt}) (c.in_ok-push_str.ensures {u = tt}).bytes (c.in_ok-write_content.ensures {u = tt})
    (ap content_text c.as_slice.ensures) wrote flag)
    (pushed c.push_str-2.result (string_bytes c.push_str-2.new.self) (string_bytes c.write_content.new.text ++ c.if-with_ref.push_str.now)
    (string_bytes c.write_content.new.text) c.push_str-2.ensures.bytes)
