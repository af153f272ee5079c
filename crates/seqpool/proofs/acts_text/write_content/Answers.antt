use Rattle.std.proofs.Common.{◌≡◌, ◌∙◌, ◌+◌, ◌<◌, ◌/◌, ◌%◌, ◌==◌, ◌++◌, ◌∷◌, [], ℕ, List, Bool, true, false, cond, nat_lt, length, get_or, take, string_bytes, refl, sym, ap, arith}
use Rattle.std.proofs.lemmas.Bool.{false≢true}
use Rattle.std.proofs.lemmas.List.{take_all}
use Rattle.seqpool.specs.ActsText.{hex_digit, hex_pair, hex, content_text}
use Rattle.seqpool.proofs.WrittenLines.{hex-more, two-digits}
use Rattle.seqpool.proofs.acts_text.write_content.Goals as goal

digit-small : (d : ℕ) → d < 16 → hex_digit d < 128
digit-small d small = at (nat_lt d 10) refl
  where
    at : (b : Bool) → nat_lt d 10 ≡ b → cond b (48 + d) (87 + d) < 128
    at true is = omega arith
    at false is = omega arith

-- the digits of one more byte
one-more : (start at middle last content digits : List ℕ) (i : ℕ) {high low : List ℕ} → at ≡ start ++ hex (take i content) → i < length content
    → get_or content i 0 < 256 → digits ≡ hex_pair (get_or content i 0)
    → middle ≡ at ++ high → (get_or digits 0 0 < 128 → high ≡ get_or digits 0 0 ∷ [])
    → last ≡ middle ++ low → (get_or digits 1 0 < 128 → low ≡ get_or digits 1 0 ∷ [])
    → last ≡ start ++ hex (take (i + 1) content)
one-more start at middle last content digits i {high} {low} so_far below byte are one first two second =
    let b : ℕ = get_or content i 0 in
    let d0 : get_or digits 0 0 ≡ hex_digit (b / 16) = ap (λ (xs : List ℕ). get_or xs 0 0) are in
    let d1 : get_or digits 1 0 ≡ hex_digit (b % 16) = ap (λ (xs : List ℕ). get_or xs 1 0) are in
    let s0 = digit-small (b / 16) (omega arith) in
    let s1 = digit-small (b % 16) (omega arith) in
    two-digits at middle last high {second_text = low} (get_or digits 0 0) (get_or digits 1 0) one (first (omega arith)) two (second (omega arith))
    ∙ (ap (λ (xs : List ℕ). at ++ (get_or xs 0 0 ∷ get_or xs 1 0 ∷ [])) are
    ∙ (ap (λ (xs : List ℕ). xs ++ hex_pair b) so_far ∙ hex-more content i 0 start below))

-- a content with bytes is written as their digits
some-hex : (content : List ℕ) → (length content == 0) ≡ false → hex content ≡ content_text content
some-hex [] is = absurd (false≢true (sym is))
some-hex (b ∷ bs) is = refl

pub loop-byte-preserved : goal.loop-byte-preserved
loop-byte-preserved c =
    let one = c.in_ok-push.ensures {u = tt} in
    let two = c.in_ok-push-2.ensures {u = tt} in
    one-more (string_bytes c.args.text.now) (string_bytes c.loop-byte.text) (string_bytes c.push.new.self) (string_bytes c.push-in-loop-byte.new.self)
    c.args.content.now c.hex_pair.result c.loop-byte.byte-index c.loop-byte.invariant c.loop-byte-test.true (c.type_inv.content c.loop-byte.byte-index).fits
    c.hex_pair.ensures one.bytes one.ascii two.bytes two.ascii

pub returns : goal.returns
returns c =
    c.loop-byte.invariant
    ∙ ap (λ (xs : List ℕ). string_bytes c.args.text.now ++ xs)
    (ap hex (take_all c.loop-byte.byte-index c.args.content.now (omega arith)) ∙ some-hex c.args.content.now (sym c.is_empty.ensures ∙ c.if-is_empty.false))
