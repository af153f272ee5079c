-- Lines of text, piece after piece.
use Rattle.std.proofs.Common.{◌≡◌, ◌≢◌, ℕ, ◌+◌, Result, Ok, Err, cond, ◌<◌, ◌==◌, not, List, [], ◌∷◌, ◌++◌, length, get_or, take, flat_map, decimal, codes, sym, ap, ◌∙◌, subst, arith, append_assoc, append-nil, length-take-le}
use Rattle.std.specs.List.{AllZip}
use Rattle.std.specs.Result.{OnOk, is_ok}
use Rattle.std.proofs.lemmas.List.{take_more}
use Rattle.std.proofs.lemmas.List.Concat.{flat_map-append}
use Rattle.seqpool.specs.declared.act.Act.{Act}
use Rattle.keybits.specs.declared.shape.Shape.{Shape}
use Rattle.seqpool.specs.ActsText.{hex_pair, hex, places_text, shape_text, act_text, IsWritten, IsTextOf}
use Rattle.seqpool.specs.ReadTexts.{spaced}
use Rattle.seqpool.proofs.HistoryLaws.{one-more}

-- one more byte
pub hex-more : (bytes : List ℕ) (i : ℕ) (d : ℕ) (so_far : List ℕ) → i < length bytes
    → (so_far ++ hex (take i bytes)) ++ hex_pair (get_or bytes i d) ≡ so_far ++ hex (take (i + 1) bytes)
hex-more bytes i d so_far below =
    append_assoc so_far (hex (take i bytes)) (hex_pair (get_or bytes i d))
    ∙ ap (λ (xs : List ℕ). so_far ++ xs)
    (sym (flat_map-append hex_pair (take i bytes) (get_or bytes i d ∷ []))
    ∙ ap hex (sym (take_more bytes i d below)))

-- one more place
push-place : (places : List ℕ) (place : ℕ) → 0 < length places → places_text (places ++ place ∷ []) ≡ places_text places ++ (codes "," ++ decimal place)
push-place [] place some = absurd (omega arith)
push-place (x ∷ []) place some = append_assoc (decimal x) (codes ",") (decimal place)
push-place (x ∷ y ∷ more) place some =
    ap (λ (xs : List ℕ). decimal x ++ codes "," ++ xs) (push-place (y ∷ more) place (omega arith))
    ∙ sym (append_assoc (decimal x ++ codes ",") (places_text (y ∷ more)) (codes "," ++ decimal place))

pub first-place : (places : List ℕ) (i d : ℕ) (so_far : List ℕ) → i < length places → i ≡ 0
    → (so_far ++ places_text (take i places)) ++ ([] ++ decimal (get_or places i d)) ≡ so_far ++ places_text (take (i + 1) places)
first-place places i d so_far below first =
    append_assoc so_far (places_text (take i places)) (decimal (get_or places i d))
    ∙ ap (λ (xs : List ℕ). so_far ++ xs)
    (ap (λ (n : ℕ). places_text (take n places) ++ decimal (get_or places i d)) first
    ∙ sym (ap places_text (take_more places i d below ∙ ap (λ (n : ℕ). take n places ++ get_or places i d ∷ []) first)))

pub next-place : (places : List ℕ) (i d : ℕ) (so_far : List ℕ) → i < length places → i ≢ 0
    → (so_far ++ places_text (take i places)) ++ (codes "," ++ decimal (get_or places i d)) ≡ so_far ++ places_text (take (i + 1) places)
next-place places i d so_far below other =
    append_assoc so_far (places_text (take i places)) (codes "," ++ decimal (get_or places i d))
    ∙ ap (λ (xs : List ℕ). so_far ++ xs)
    (sym (push-place (take i places) (get_or places i d) (omega (arith, length-take-le i places)))
    ∙ sym (ap places_text (take_more places i d below)))

-- two digits, one after the other
pub two-digits : (start middle last first_text : List ℕ) {second_text : List ℕ} (first second : ℕ) → middle ≡ start ++ first_text → first_text ≡ first ∷ []
    → last ≡ middle ++ second_text → second_text ≡ second ∷ [] → last ≡ start ++ (first ∷ second ∷ [])
two-digits start middle last first_text {second_text} first second one is two then =
    two ∙ (ap (λ (xs : List ℕ). xs ++ second_text) one ∙ (ap (λ (xs : List ℕ). (start ++ xs) ++ second_text) is
    ∙ (ap (λ (xs : List ℕ). (start ++ first ∷ []) ++ xs) then ∙ append_assoc start (first ∷ []) (second ∷ []))))

-- what a text is where a piece was pushed to it
pub pushed : {T E : Type 0} (r : Result T E) (left grown other : List ℕ) → left ≡ cond (is_ok r) grown other → OnOk r (left ≡ grown)
pushed (Ok done) left grown other is = is
pushed (Err fault) left grown other is = tt

-- the front of a line, and what ends it
pub head-end : (start front grown lane word key last ending : List ℕ) → front ≡ start ++ spaced lane (spaced word key) → grown ≡ front ++ last
    → last ≡ 32 ∷ (ending ++ 10 ∷ []) → grown ≡ start ++ (((((lane ++ (32 ∷ (word ++ 32 ∷ []))) ++ key) ++ 32 ∷ []) ++ ending) ++ 10 ∷ [])
head-end start front grown lane word key last ending one two three = let whole = at start lane word key ending in cc
  where
    at : (a l w k e : List ℕ) → (a ++ spaced l (spaced w k)) ++ (32 ∷ (e ++ 10 ∷ [])) ≡ a ++ (((((l ++ (32 ∷ (w ++ 32 ∷ []))) ++ k) ++ 32 ∷ []) ++ e) ++ 10 ∷ [])
    at a l w k e = simp append_assoc

-- the front of a line, and a reply with a content
pub head-content : (start front one two three lane word key some piece content : List ℕ) → front ≡ start ++ spaced lane (spaced word key)
    → one ≡ front ++ 32 ∷ some → two ≡ one ++ piece → piece ≡ content → three ≡ two ++ 10 ∷ []
    → three ≡ start ++ (((((lane ++ (32 ∷ (word ++ 32 ∷ []))) ++ key) ++ 32 ∷ []) ++ (some ++ content)) ++ 10 ∷ [])
head-content start front one two three lane word key some piece content a b c d e = let whole = at start lane word key some content in cc
  where
    at : (a l w k s c : List ℕ) → (((a ++ spaced l (spaced w k)) ++ 32 ∷ s) ++ c) ++ 10 ∷ []
        ≡ a ++ (((((l ++ (32 ∷ (w ++ 32 ∷ []))) ++ k) ++ 32 ∷ []) ++ (s ++ c)) ++ 10 ∷ [])
    at a l w k s c = simp append_assoc

zip-push : (xs ys : List Act) (x y : Act) → AllZip IsWritten xs ys → IsWritten x y → AllZip IsWritten (xs ++ x ∷ []) (ys ++ y ∷ [])
zip-push [] [] x y all is = (is, tt)
zip-push [] (b ∷ ys) x y all is = absurd all
zip-push (a ∷ xs) [] x y all is = absurd all
zip-push (a ∷ xs) (b ∷ ys) x y all is = (all.0, zip-push xs ys x y all.1 is)

-- one more line
pub text-more : (z : Shape) (acts : List Act) (i : ℕ) (act : Act) (text more : List ℕ) → i < length acts → act ≡ get_or acts i act → IsTextOf z (take i acts) text
    → ((written : Act) × IsWritten act written × (more ≡ text ++ act_text written)) → IsTextOf z (take (i + 1) acts) more
text-more z acts i act text more below is (written, all, so_far) (line, same, grown) = (
  written ++ line ∷ [],
  subst (λ (xs : List Act). AllZip IsWritten xs (written ++ line ∷ [])) (sym (one-more acts i act below is)) (zip-push (take i acts) written act line all same),
  grown ∙ (ap (λ (xs : List ℕ). xs ++ act_text line) so_far
      ∙ (append_assoc (shape_text z (not (z.tag == 0))) (flat_map act_text written) (act_text line)
      ∙ ap (λ (xs : List ℕ). shape_text z (not (z.tag == 0)) ++ xs)
      (ap (λ (xs : List ℕ). flat_map act_text written ++ xs) (sym (append-nil (act_text line)))
      ∙ sym (flat_map-append act_text written (line ∷ []))))),
)
