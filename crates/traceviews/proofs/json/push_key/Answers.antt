use Rattle.std.proofs.Common.{◌++◌, ◌∙◌, ℕ, codes, decimal, refl, subst}
use Rattle.keybits.specs.Keys.{generation_of, place_of, tag_of}
use Rattle.traceviews.specs.Decoded.{place_text}
use Rattle.traceviews.specs.Pages.{Grows}
use Rattle.traceviews.proofs.PageLemmas.{grows_more}
use Rattle.traceviews.proofs.json.push_key.Goals as goal

pub returns : goal.returns
returns c =
    let key = c.args.key in
    let p0 = c.args.out.now in
    let p1 = c.text.new.self in
    let p2 = c.text-2.new.self in
    let p3 = c.named.new.self in
    let p4 = c.text-3.new.self in
    let p5 = c.place.new.self in
    let p6 = c.named-2.new.self in
    let p7 = c.named-3.new.self in
    let t1 = (codes "{\"reply\":\"") in
    let t2 = t1 ++ c.args.name.now in
    let g2 = grows_more p0 p1 p2 t1 c.args.name.now t2 c.text.ensures c.text-2.ensures refl in
    let t3 = t2 ++ (codes "\",\"key\":\"" ++ decimal key) in
    let g3 = grows_more p0 p2 p3 t2 (codes "\",\"key\":\"" ++ decimal key) t3 g2 c.named.ensures refl in
    let t4 = t3 ++ (codes "\",\"place\":\"") in
    let g4 = grows_more p0 p3 p4 t3 (codes "\",\"place\":\"") t4 g3 c.text-3.ensures refl in
    let s5 : Grows p4 p5 (place_text (place_of key)) = subst (λ (n : ℕ). Grows p4 p5 (place_text n)) c.place_of.ensures.place c.place.ensures in
    let t5 = t4 ++ (place_text (place_of key)) in
    let g5 = grows_more p0 p4 p5 t4 (place_text (place_of key)) t5 g4 s5 refl in
    let s6 : Grows p5 p6 (codes "\",\"generation\":" ++ decimal (generation_of key)) = subst (λ (n : ℕ). Grows p5 p6 (codes "\",\"generation\":" ++ decimal n)) (c.from.ensures ∙ c.generation_of.ensures) c.named-2.ensures in
    let t6 = t5 ++ (codes "\",\"generation\":" ++ decimal (generation_of key)) in
    let g6 = grows_more p0 p5 p6 t5 (codes "\",\"generation\":" ++ decimal (generation_of key)) t6 g5 s6 refl in
    let s7 : Grows p6 p7 (codes ",\"tag\":" ++ decimal (tag_of key)) = subst (λ (n : ℕ). Grows p6 p7 (codes ",\"tag\":" ++ decimal n)) (c.from-2.ensures ∙ c.tag_of.ensures) c.named-3.ensures in
    let t7 = t6 ++ (codes ",\"tag\":" ++ decimal (tag_of key)) in
    let g7 = grows_more p0 p6 p7 t6 (codes ",\"tag\":" ++ decimal (tag_of key)) t7 g6 s7 refl in
    grows_more p0 p7 c.text-4.new.self t7 (codes "}") _ g7 c.text-4.ensures refl
