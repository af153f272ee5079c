-- What waits comes out of the row, with its place.
use Rattle.std.proofs.Common.{◌≡◌, ◌+◌, ◌-◌, ◌<◌, ◌≤◌, Some, None, false, refl, ap, ◌∙◌, subst, arith}
use Rattle.std.specs.Prelude.{slice_get, slice_set}
use Rattle.std.proofs.lemmas.Option.{IfSome_then}
use Rattle.poolsteps.specs.declared.rows.Own.{Own}
use Rattle.poolsteps.specs.Objects.{ObjectsOf, spot_at}
use Rattle.poolsteps.specs.declared.rows.Own.TheVariants.{Away}
use Rattle.poolsteps.specs.Rows.{object_in, is_here}
use Rattle.poolsteps.proofs.own_rows.RowLemmas.{stands}
use Rattle.poolsteps.proofs.own_rows.Shown.{shown, start-low, start-high, item-at, own-at, rows-set, shown-set, shown-kept}
use Rattle.poolsteps.proofs.objects.Objects.take.Given.{Over}
use Rattle.poolsteps.proofs.objects.Objects.take.Goals.{After-index_mut}
use Rattle.poolsteps.proofs.objects.Objects.take.Goals as goal

module _ (g : Over) (c : After-index_mut g) where
  low : c.self.inside.first ≤ c.args.start
  low = let s = c.self.inside in start-low s.directory.ptr s.first s.places s.row.items c.args.self.now c.self.view_is c.args.start c.requires.0

  high : c.args.start < c.self.inside.first + c.self.inside.places
  high = let s = c.self.inside in start-high s.directory.ptr s.first s.places s.row.items c.args.self.now c.self.view_is c.args.start c.self.invariant c.requires.1

  -- what stood in the row
  stood : slice_get c.self.inside.row.items (c.args.start - c.self.inside.first) ≡ Some c.index_mut.result.now
  stood =
      let s = c.self.inside in
      let above = low in
      let below = high in
      let room = c.self.invariant.room in
      let now = c.index_mut.result.now in
      stands s.row.items (c.args.start - s.first) now now now (omega (arith, above, below, room)) c.index_mut.ensures.value refl refl

  -- the item that is seen
  seen : slice_get c.args.self.now.items (c.args.start - c.args.self.now.first) ≡ Some (object_in c.index_mut.result.now)
  seen =
      let s = c.self.inside in
      subst (λ (v : ObjectsOf g.row.T.Denot). slice_get v.items (c.args.start - v.first) ≡ Some (object_in c.index_mut.result.now)) c.self.view_is
      (item-at s.directory.ptr s.first s.places s.row.items c.args.start low high c.index_mut.result.now stood)

pub index_mut-requires : goal.index_mut-requires
index_mut-requires g c =
    let s = c.self.inside in
    let low = start-low s.directory.ptr s.first s.places s.row.items c.args.self.now c.self.view_is c.args.start c.requires.0 in
    let below = start-high s.directory.ptr s.first s.places s.row.items c.args.self.now c.self.view_is c.args.start c.self.invariant c.requires.1 in
    let room = c.self.invariant.room in omega (arith, low, below, room)

pub replace_with-requires : goal.replace_with-requires
replace_with-requires g c =
    let s = c.self.inside in
    let h = (goal.at.replace_with-requires g c).After-index_mut in
    own-at s.directory.ptr s.first s.places s.row.items c.args.start (low g h) c.self.invariant c.index_mut.result.now (stood g h)

-- what is left there
left-of : (g : Over) (c : After-index_mut g) (left : Own g.row.T.Denot) → left ≡ Away → shown c.self.inside.directory.ptr c.self.inside.first c.self.inside.places (slice_set c.self.inside.row.items (c.args.start - c.self.inside.first) left)
    ≡ record c.args.self.now { items = slice_set c.args.self.now.items (c.args.start - c.args.self.now.first) None; rights = slice_set c.args.self.now.rights (c.args.start - c.args.self.now.first) false }
left-of g c left away =
    let s = c.self.inside in
    ap (λ (o : Own g.row.T.Denot). shown s.directory.ptr s.first s.places (slice_set s.row.items (c.args.start - s.first) o)) away
    ∙ (shown-set s.directory.ptr s.first s.places s.row.items c.args.start (low g c) (high g c) Away
    ∙ ap (λ (v : ObjectsOf g.row.T.Denot). record v { items = slice_set v.items (c.args.start - v.first) None; rights = slice_set v.rights (c.args.start - v.first) false }) c.self.view_is)

pub invariant_of-self : goal.invariant_of-self
invariant_of-self g c =
    let s = c.self.inside in
    let h = (goal.at.invariant_of-self g c).After-index_mut in
    rows-set s.directory.ptr s.first s.places s.row.items c.args.start (low g h) c.replace_with.new.dest c.replace_with.ensures.0 c.self.invariant

pub returns-clause-some : goal.returns-clause-some
returns-clause-some g c =
    let h = (goal.at.returns-clause-some g c).After-index_mut in
    IfSome_then c.replace_with.result c.replace_with.ensures.1.0 (λ whole is. (is.0 ∙ ap (λ (v : ObjectsOf g.row.T.Denot). spot_at v.directory c.args.start) c.self.view_is, seen g h ∙ ap Some is.1, left-of g h c.replace_with.new.dest is.2))

pub returns-clause-none : goal.returns-clause-none
returns-clause-none g c = λ none.
    let s = c.self.inside in
    let h = (goal.at.returns-clause-none g c).After-index_mut in
    let is = c.replace_with.ensures.1.1 none in (
      seen g h ∙ ap Some is.0,
      shown-kept s.directory.ptr s.first s.places s.row.items c.args.start c.replace_with.new.dest c.index_mut.result.now (stood g h) (ap object_in is.1) (ap is_here is.1) ∙ c.self.view_is,
    )
