use Rattle.std.proofs.Common.{refl, arith}
use Rattle.keybits.proofs.ShapeLemmas.{shape_bounds}
use Rattle.poolsteps.proofs.PageLemmas.{row-spot}
use Rattle.poolsteps.proofs.SlotLemmas.{in-row}
use Rattle.poolsteps.proofs.grid.Grid.spot_in.Goals as goal

pub overflow_add-result : goal.overflow_add-result
overflow_add-result g c =
    let z = c.args.self.now.shape in
    let at = row-spot z c.args.place c.args.page.now c.requires.place c.requires.page in
    let low = in-row z c.args.place c.requires.place in
    let bounds = shape_bounds z c.args.self.now.checked in
    omega (arith, at, low, bounds.all, bounds.lanes)

pub returns : goal.returns
returns g c = record {
  place_is = refl;
  inside = c.requires.place;
  start = row-spot c.args.self.now.shape c.args.place c.args.page.now c.requires.place c.requires.page;
}
