use Rattle.std.proofs.Common.{◌++◌, codes, refl}
use Rattle.traceviews.specs.Decoded.{place_text, life_text}
use Rattle.traceviews.proofs.PageLemmas.{grows_more}
use Rattle.traceviews.proofs.summary.push_place.Goals as goal

pub returns : goal.returns
returns c =
    let place = place_text c.args.place in
    let life = life_text c.args.word in
    let old = c.args.out.now in
    let begun = codes "place " ++ place in
    let spaced = begun ++ codes " " in
    let said = spaced ++ life in
    let one = grows_more old c.text.new.self c.place.new.self (codes "place ") place begun c.text.ensures c.place.ensures refl in
    let two = grows_more old c.place.new.self c.text-2.new.self begun (codes " ") spaced one c.text-2.ensures refl in
    let three = grows_more old c.text-2.new.self c.life.new.self spaced life said two c.life.ensures refl in
    grows_more old c.life.new.self c.text-3.new.self said (codes "\n") (said ++ codes "\n") three c.text-3.ensures refl
