-- The object stands in the row with its place.
use Rattle.std.proofs.Common.{◌≡◌, ◌-◌, List, length, Some, true, refl, sym, ap, ◌∙◌, subst, arith, length-set}
use Rattle.std.specs.Prelude.{slice_set}
use Rattle.std.specs.Prelude.{is_some}
use Rattle.std.proofs.lemmas.List.{set-set}
use Rattle.poolsteps.specs.declared.rows.Own.{Own}
use Rattle.poolsteps.specs.declared.rows.Own.TheVariants.{Away, Whole}
use Rattle.poolsteps.specs.Objects.{ObjectsOf}
use Rattle.poolsteps.specs.Rows.{is_here, AreRows}
use Rattle.poolsteps.proofs.own_rows.Shown.{start-low, right-high, right-at, here-at, own-at, rows-set, shown, shown-here}
use Rattle.poolsteps.proofs.objects.Objects.fill.Goals as goal

pub claim-requires-clause-index : goal.claim-requires-clause-index
claim-requires-clause-index g c =
    let s = c.self.inside in
    let low = start-low s.directory.ptr s.first s.places s.row.items c.args.self.now c.self.view_is c.args.start c.requires.start in
    let high = right-high s.directory.ptr s.first s.places s.row.items c.args.self.now c.self.view_is c.args.start c.self.invariant c.requires.start c.requires.right in
    let room = c.self.invariant.room in omega (arith, low, high, room)

pub claim-requires-clause-own : goal.claim-requires-clause-own
claim-requires-clause-own g c =
    let s = c.self.inside in
    let low = start-low s.directory.ptr s.first s.places s.row.items c.args.self.now c.self.view_is c.args.start c.requires.start in
    own-at s.directory.ptr s.first s.places s.row.items c.args.start low c.self.invariant

pub unreachable-requires : goal.unreachable-requires
unreachable-requires g c =
    let s = c.self.inside in
    let low = start-low s.directory.ptr s.first s.places s.row.items c.args.self.now c.self.view_is c.args.start c.requires.start in
    let high = right-high s.directory.ptr s.first s.places s.row.items c.args.self.now c.self.view_is c.args.start c.self.invariant c.requires.start c.requires.right in
    let away : Own g.row.T.Denot = Away in
    let seen = right-at s.directory.ptr s.first s.places s.row.items c.args.self.now c.self.view_is c.args.start c.requires.right in
    let none : Some (is_here away) ≡ Some true
    = sym (here-at s.directory.ptr s.first s.places s.row.items c.args.start low high away (c.claim.ensures.none (ap is_some c.in_default.is))) ∙ seen in
    absurd (cc none)

pub index_mut-requires : goal.index_mut-requires
index_mut-requires g c =
    let s = c.self.inside in
    let away : Own g.row.T.Denot = Away in
    let low = start-low s.directory.ptr s.first s.places s.row.items c.args.self.now c.self.view_is c.args.start c.requires.start in
    let high = right-high s.directory.ptr s.first s.places s.row.items c.args.self.now c.self.view_is c.args.start c.self.invariant c.requires.start c.requires.right in
    let room = c.self.invariant.room in
    let long = ap (λ (row : List (Own g.row.T.Denot)). length row) c.claim.ensures.row ∙ length-set s.row.items (c.args.start - s.first) away in
    omega (arith, low, high, room, long)

pub invariant_of-self : goal.invariant_of-self
invariant_of-self g c =
    let s = c.self.inside in
    let away : Own g.row.T.Denot = Away in
    let left : Own g.row.T.Denot = Whole (record { spot = c.in-Some.whole.spot; object = c.args.object }) in
    let low = start-low s.directory.ptr s.first s.places s.row.items c.args.self.now c.self.view_is c.args.start c.requires.start in
    subst (λ (row : List (Own g.row.T.Denot)). AreRows s.directory.ptr s.first s.places (slice_set row (c.args.start - s.first) left)) (sym c.claim.ensures.row)
    (rows-set s.directory.ptr s.first s.places (slice_set s.row.items (c.args.start - s.first) away) c.args.start low left c.in-Some.ensures.some
    (rows-set s.directory.ptr s.first s.places s.row.items c.args.start low away tt c.self.invariant))

pub returns : goal.returns
returns g c =
    let s = c.self.inside in
    let low = start-low s.directory.ptr s.first s.places s.row.items c.args.self.now c.self.view_is c.args.start c.requires.start in
    let high = right-high s.directory.ptr s.first s.places s.row.items c.args.self.now c.self.view_is c.args.start c.self.invariant c.requires.start c.requires.right in
    let away : Own g.row.T.Denot = Away in
    let left : Own g.row.T.Denot = Whole (record { spot = c.in-Some.whole.spot; object = c.args.object }) in
    ap (λ (row : List (Own g.row.T.Denot)). shown s.directory.ptr s.first s.places (slice_set row (c.args.start - s.first) left)) c.claim.ensures.row
    ∙ (ap (λ (row : List (Own g.row.T.Denot)). shown s.directory.ptr s.first s.places row) (set-set s.row.items (c.args.start - s.first) away left)
    ∙ (shown-here s.directory.ptr s.first s.places s.row.items c.args.start low high left
    (right-at s.directory.ptr s.first s.places s.row.items c.args.self.now c.self.view_is c.args.start c.requires.right) refl
    ∙ ap (λ (v : ObjectsOf g.row.T.Denot). record v { items = slice_set v.items (c.args.start - v.first) (Some c.args.object) }) c.self.view_is))
