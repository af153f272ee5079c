-- Each round gathers one row more.
use Rattle.std.proofs.Common.{◌≡◌, ◌+◌, ℕ, suc, [], ◌∷◌, ◌++◌, refl, ◌∙◌, subst, arith}
use Rattle.shardpool.specs.Gathers.{GathersAll, rows_from}
use Rattle.shardpool.proofs.free.Gathers.{gathers-append, gathers-one, none-brought, some-brought}
use Rattle.shardpool.proofs.pool.Pool.gather_page.Goals as goal

pub loop-row-init : goal.loop-row-init
loop-row-init g c = record { gathers = refl; own = c.requires.own; same = ((refl, refl, refl, refl), refl); fillings = λ filling made. made }

pub gather-requires-clause-owns : goal.gather-requires-clause-owns
gather-requires-clause-owns g c =
    let same = c.loop-row.invariant.same.0 in
    (same.0 ∙ c.requires.owns.0, same.1 ∙ c.requires.owns.1, same.3 ∙ c.requires.owns.2)

pub loop-row-preserved : goal.loop-row-preserved
loop-row-preserved g c =
    let was = c.loop-row.invariant in
    let after = c.gather.ensures.gathers in
    let same = after.brings.same in
    let one : suc c.loop-row.row ≡ c.loop-row.row + 1 = omega arith in record {
      gathers = subst (λ (n : ℕ). GathersAll (rows_from c.args.first n) c.args.lane.now c.gather.new.lane) one
          (gathers-append (rows_from c.args.first c.loop-row.row) ((c.args.first + c.loop-row.row) ∷ []) c.args.lane.now c.loop-row.lane c.gather.new.lane was.gathers
          (gathers-one (c.args.first + c.loop-row.row) c.gather.result c.loop-row.lane c.gather.new.lane after));
      own = none-brought after (omega arith) was.own;
      same = ((same.0 ∙ was.same.0.0, same.1 ∙ was.same.0.1, same.2 ∙ was.same.0.2, same.3 ∙ was.same.0.3), after.brings.pages ∙ was.same.1);
      fillings = λ filling made. c.gather.ensures.fillings filling (was.fillings filling made);
    }

pub overflow_add-first : goal.overflow_add-first
overflow_add-first g c =
    let most = c.self.inside.grid.checked.pages.1 in
    let pages : c.self.inside.grid.shape.pages ≡ c.args.self.now.shape.pages = λ i. (c.self.view_is i).shape.pages in
    let room = c.requires.rows in
    let low = c.loop-row-test.true in
    omega (arith, most, pages, room, low)

pub returns-then-gather-gt0-clause-some : goal.returns-then-gather-gt0-clause-some
returns-then-gather-gt0-clause-some g c = λ _.
    let was = c.loop-row.invariant in
    let after = c.gather.ensures.gathers in
    let some = c.if-gather-gt0.true in (
      rows_from c.args.first c.loop-row.row ++ (c.args.first + c.loop-row.row) ∷ [],
      gathers-append (rows_from c.args.first c.loop-row.row) ((c.args.first + c.loop-row.row) ∷ []) c.args.lane.now c.loop-row.lane c.gather.new.lane was.gathers
          (gathers-one (c.args.first + c.loop-row.row) c.gather.result c.loop-row.lane c.gather.new.lane after),
      some-brought after some,
    )
