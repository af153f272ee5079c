use Rattle.std.proofs.Common.{◌++◌, ◌∙◌, ℕ, codes, decimal, refl, subst}
use Rattle.keybits.specs.Keys.{generation_of, place_of, tag_of}
use Rattle.traceviews.specs.Decoded.{place_text}
use Rattle.traceviews.specs.Styles.{tag_words}
use Rattle.traceviews.specs.Pages.{Grows}
use Rattle.traceviews.proofs.PageLemmas.{grows_more}
use Rattle.traceviews.proofs.words.push_key_line.Goals as goal

pub returns : goal.returns
returns c =
    let key = c.args.key in
    let p0 = c.args.out.now in
    let p1 = c.number.new.self in
    let p2 = c.text.new.self in
    let p3 = c.place.new.self in
    let p4 = c.named.new.self in
    let s1 : Grows p0 p1 (decimal c.args.lane) = subst (λ (n : ℕ). Grows p0 p1 (decimal n)) c.from.ensures c.number.ensures in
    let t1 = (decimal c.args.lane) in
    let t2 = t1 ++ c.args.name.now in
    let g2 = grows_more p0 p1 p2 t1 c.args.name.now t2 s1 c.text.ensures refl in
    let s3 : Grows p2 p3 (place_text (place_of key)) = subst (λ (n : ℕ). Grows p2 p3 (place_text n)) c.place_of.ensures.place c.place.ensures in
    let t3 = t2 ++ (place_text (place_of key)) in
    let g3 = grows_more p0 p2 p3 t2 (place_text (place_of key)) t3 g2 s3 refl in
    let s4 : Grows p3 p4 (codes " generation " ++ decimal (generation_of key)) = subst (λ (n : ℕ). Grows p3 p4 (codes " generation " ++ decimal n)) (c.from-2.ensures ∙ c.generation_of.ensures) c.named.ensures in
    let t4 = t3 ++ (codes " generation " ++ decimal (generation_of key)) in
    let g4 = grows_more p0 p3 p4 t3 (codes " generation " ++ decimal (generation_of key)) t4 g3 s4 refl in
    let s5 : Grows p4 c.push_tag.new.out (tag_words (tag_of key)) = subst (λ (n : ℕ). Grows p4 c.push_tag.new.out (tag_words n)) c.tag_of.ensures c.push_tag.ensures in
    grows_more p0 p4 c.push_tag.new.out t4 (tag_words (tag_of key)) _ g4 s5 refl
