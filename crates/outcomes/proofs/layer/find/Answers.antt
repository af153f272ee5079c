use Rattle.std.proofs.Common.{◌≡◌, Some, length, refl, arith}
use Rattle.std.specs.Prelude.{slice_get}
use Rattle.std.proofs.lemmas.Option.{slice_get_read}
use Rattle.outcomes.proofs.layer.find.Goals as goal

pub returns-then-stands_for : goal.returns-then-stands_for
returns-then-stands_for c =
    let layer = c.args.layer.now in
    let other = c.index-layer-i.result in
    let got : slice_get layer c.loop-i.i ≡ Some other = slice_get_read layer (length layer) c.loop-i.i other refl (omega arith) c.index-layer-i.is in
    (other, got, c.stands_for.ensures c.if-stands_for.true)
