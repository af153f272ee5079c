-- Each own place is vacant then.
use Rattle.std.proofs.Common.{◌≡◌, ◌≤◌, ℕ, Option, None, true, length, map, replicate, sym, ap, ◌∙◌, arith}
use Rattle.std.specs.Prelude.{take}
use Rattle.poolsteps.specs.Objects.{ObjectsOf}
use Rattle.poolsteps.specs.Rows.{object_in, is_here}
use Rattle.poolsteps.proofs.own_rows.RowLemmas.{take-same}
use Rattle.poolsteps.proofs.own_rows.Shown.{items-seen}
use Rattle.poolsteps.proofs.objects.Objects.endow.Goals as goal

pub returns-clause-objects : goal.returns-clause-objects
returns-clause-objects g c =
    let s = c.self.inside in
    let now = c.args.self.now in
    let row = c.endow_row.new.row.items in
    let none : Option g.row.T.Denot = None in
    let long : s.places ≡ length now.items = sym (items-seen s.directory.ptr s.first s.places s.row.items c.self.invariant) ∙ ap (λ (v : ObjectsOf g.row.T.Denot). length v.items) c.self.view_is in
    let fits : s.places ≤ length row = let room = c.self.invariant.room in let same = c.endow_row.ensures.room in omega (arith, room, same) in
    let items : take s.places (map object_in row) ≡ replicate (length now.items) none
    = take-same object_in none s.places row fits (λ index own at low. (c.endow_row.ensures.here index own at (omega (arith, low))).1) ∙ ap (λ (n : ℕ). replicate n none) long in
    let rights : take s.places (map is_here row) ≡ replicate (length now.items) true
    = take-same is_here true s.places row fits (λ index own at low. (c.endow_row.ensures.here index own at (omega (arith, low))).0) ∙ ap (λ (n : ℕ). replicate n true) long in
    let directory = ap (λ (v : ObjectsOf g.row.T.Denot). v.directory) c.self.view_is in
    let first = ap (λ (v : ObjectsOf g.row.T.Denot). v.first) c.self.view_is in
    λ k. record { directory = directory k; first = first k; items = items k; rights = rights k }
