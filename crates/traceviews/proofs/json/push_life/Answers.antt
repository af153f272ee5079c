use Rattle.std.proofs.Common.{◌++◌, ℕ, List, codes, decimal, refl, rules, subst}
use Rattle.keybits.specs.Words.{count_in, generation_in, state_in}
use Rattle.traceviews.specs.Decoded.{state_text, state_with}
use Rattle.traceviews.specs.Pages.{Grows}
use Rattle.traceviews.proofs.PageLemmas.{grows_more}
use Rattle.traceviews.proofs.json.push_life.Goals as goal

pub returns : goal.returns
returns c =
    let word = c.args.word in
    let p0 = c.args.out.now in
    let p1 = c.named.new.self in
    let p2 = c.text.new.self in
    let p3 = c.text-2.new.self in
    let p4 = c.named-2.new.self in
    let p5 = c.named-3.new.self in
    let t1 = (codes "{\"word\":\"" ++ decimal word) in
    let t2 = t1 ++ (codes "\",\"state\":\"") in
    let g2 = grows_more p0 p1 p2 t1 (codes "\",\"state\":\"") t2 c.named.ensures c.text.ensures refl in
    let s3 : Grows p2 p3 (state_text (state_with (state_in word))) = subst (λ (text : List ℕ). Grows p2 p3 text) (search rules) c.text-2.ensures in
    let t3 = t2 ++ (state_text (state_with (state_in word))) in
    let g3 = grows_more p0 p2 p3 t2 (state_text (state_with (state_in word))) t3 g2 s3 refl in
    let s4 : Grows p3 p4 (codes "\",\"count\":" ++ decimal (count_in word)) = subst (λ (n : ℕ). Grows p3 p4 (codes "\",\"count\":" ++ decimal n)) (search rules) c.named-2.ensures in
    let t4 = t3 ++ (codes "\",\"count\":" ++ decimal (count_in word)) in
    let g4 = grows_more p0 p3 p4 t3 (codes "\",\"count\":" ++ decimal (count_in word)) t4 g3 s4 refl in
    let s5 : Grows p4 p5 (codes ",\"generation\":" ++ decimal (generation_in word)) = subst (λ (n : ℕ). Grows p4 p5 (codes ",\"generation\":" ++ decimal n)) (search rules) c.named-3.ensures in
    let t5 = t4 ++ (codes ",\"generation\":" ++ decimal (generation_in word)) in
    let g5 = grows_more p0 p4 p5 t4 (codes ",\"generation\":" ++ decimal (generation_in word)) t5 g4 s5 refl in
    grows_more p0 p5 c.text-3.new.self t5 (codes "}") _ g5 c.text-3.ensures refl
