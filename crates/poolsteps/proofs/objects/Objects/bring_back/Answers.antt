-- What is seen of a place whose right came back is what is seen of one that is away.
use Rattle.std.proofs.Common.{◌≡◌, ◌-◌, ◌<◌, false, length, Some, sym, ap, ◌∙◌, arith}
use Rattle.std.specs.Prelude.{slice_get}
use Rattle.std.proofs.lemmas.Option.{slice_get-get_or}
use Rattle.poolsteps.specs.declared.rows.Own.TheVariants.{Back}
use Rattle.poolsteps.specs.Rows.{is_here}
use Rattle.poolsteps.proofs.own_rows.Shown.{start-low, start-high, nothing-in, shown-kept}
use Rattle.poolsteps.proofs.objects.Objects.bring_back.Goals as goal

pub index-requires : goal.index-requires
index-requires g c =
    let s = c.self.inside in
    let low = start-low s.directory.ptr s.first s.places s.row.items c.args.self.now c.self.view_is c.args.start c.requires.start.0 in
    let high = start-high s.directory.ptr s.first s.places s.row.items c.args.self.now c.self.view_is c.args.start c.self.invariant c.requires.start.1 in
    let room = c.self.invariant.room in omega (arith, low, high, room)

pub returns-then-not-is_here : goal.returns-then-not-is_here
returns-then-not-is_here g c =
    let s = c.self.inside in
    let old = c.index.result.now in
    let low = start-low s.directory.ptr s.first s.places s.row.items c.args.self.now c.self.view_is c.args.start c.requires.start.0 in
    let high = start-high s.directory.ptr s.first s.places s.row.items c.args.self.now c.self.view_is c.args.start c.self.invariant c.requires.start.1 in
    let room = c.self.invariant.room in
    let none : is_here old ≡ false = sym c.is_here.ensures ∙ c.if-not-is_here.true in
    let within : c.args.start - s.first < length s.row.items = omega (arith, low, high, room) in
    let at : slice_get s.row.items (c.args.start - s.first) ≡ Some old = slice_get-get_or s.row.items (c.args.start - s.first) old within ∙ ap Some (sym c.index.ensures) in
    shown-kept s.directory.ptr s.first s.places s.row.items c.args.start (Back c.args.whole) old at (sym (nothing-in old none)) (sym none) ∙ c.self.view_is
