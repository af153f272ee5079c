-- The whole stands in the row.
use Rattle.std.proofs.Common.{◌-◌, Some, true, ap, ◌∙◌, arith}
use Rattle.std.specs.Prelude.{slice_set}
use Rattle.poolsteps.specs.declared.rows.Own.TheVariants.{Whole}
use Rattle.poolsteps.specs.Objects.{ObjectsOf}
use Rattle.poolsteps.proofs.own_rows.Shown.{start-low, start-high, shown-set}
use Rattle.poolsteps.proofs.objects.Objects.keep.Goals as goal

pub index_mut-requires : goal.index_mut-requires
index_mut-requires g c =
    let s = c.self.inside in
    let low = start-low s.directory.ptr s.first s.places s.row.items c.args.self.now c.self.view_is c.args.start c.requires.start.0 in
    let high = start-high s.directory.ptr s.first s.places s.row.items c.args.self.now c.self.view_is c.args.start c.self.invariant c.requires.start.1 in
    let room = c.self.invariant.room in omega (arith, low, high, room)

pub returns : goal.returns
returns g c =
    let s = c.self.inside in
    let low = start-low s.directory.ptr s.first s.places s.row.items c.args.self.now c.self.view_is c.args.start c.requires.start.0 in
    let high = start-high s.directory.ptr s.first s.places s.row.items c.args.self.now c.self.view_is c.args.start c.self.invariant c.requires.start.1 in
    shown-set s.directory.ptr s.first s.places s.row.items c.args.start low high (Whole c.args.whole)
    ∙ ap (λ (v : ObjectsOf g.row.T.Denot). record v { items = slice_set v.items (c.args.start - v.first) (Some c.args.whole.object); rights = slice_set v.rights (c.args.start - v.first) true }) c.self.view_is
