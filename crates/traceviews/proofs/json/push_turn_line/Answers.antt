use Rattle.std.proofs.Common.{◌++◌, ℕ, List, codes, refl, subst}
use Rattle.traceviews.specs.Json.{comma_before, turn_object}
use Rattle.traceviews.specs.Pages.{Grows}
use Rattle.traceviews.proofs.PageLemmas.{grows_more}
use Rattle.traceviews.proofs.json.push_turn_line.Goals as goal

pub returns : goal.returns
returns c =
    let number = c.args.number in
    let p0 = c.args.out.now in
    let p1 = c.text.new.self in
    let p2 = c.text-2.new.self in
    let t2 = comma_before number ++ codes "\n" in
    let comma : Grows p0 p1 (comma_before number) = subst (λ (text : List ℕ). Grows p0 p1 text) c.comma_before.ensures c.text.ensures in
    let g2 = grows_more p0 p1 p2 (comma_before number) (codes "\n") t2 comma c.text-2.ensures refl in
    grows_more p0 p2 c.push_turn.new.out t2 (turn_object number c.args.turn.now) _ g2 c.push_turn.ensures refl
