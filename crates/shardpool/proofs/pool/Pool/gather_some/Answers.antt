-- Each round gathers the rows of one page more.
use Rattle.std.proofs.Common.{◌≡◌, ◌+◌, ◌-◌, ◌*◌, ◌/◌, ℕ, suc, [], ◌++◌, refl, sym, ap, ◌∙◌, subst, arith}
use Rattle.std.proofs.lemmas.List.{nil_from_length}
use Rattle.keybits.specs.declared.shape.Shape.{Shape}
use Rattle.keybits.specs.Shapes.{page_size}
use Rattle.keybits.proofs.ShapeLemmas.{page_size-le}
use Rattle.shardpool.specs.Gathers.{GathersAll, rows_from, rows_of_pages}
use Rattle.shardpool.specs.Marks.{rows_of_page}
use Rattle.shardpool.proofs.free.Gathers.{gathers-append}
use Rattle.shardpool.proofs.pool.Pool.gather_some.Given.{Over}
use Rattle.shardpool.proofs.pool.Pool.gather_some.Goals as goal
use Rattle.shardpool.proofs.pool.Pool.gather_some.Goals.{After-self}

-- the list was empty
empty : (g : Over) (c : After-self g) → c.args.lane.now.free.own ≡ []
empty g c =
    let len = c.len.ensures.len in
    let isnt = c.if-len-gt0.false in
    (λ i. (sym c.lane.view_is i).free.own) ∙ nil_from_length c.lane.inside.state.free.own (omega (arith, len, isnt))

-- how many rows the page has
rows-are : (size rows : ℕ) → size ≡ rows → (size + 64 - 1) / 64 ≡ (rows + 63) / 64
rows-are size rows is = omega (arith, is)

pub loop-page-init : goal.loop-page-init
loop-page-init g c = record {
  gathers = refl;
  own = empty g (goal.at.loop-page-init g c).After-self;
  same = ((refl, refl, refl, refl), refl);
  fillings = λ filling made. made;
}

pub gather_page-requires-clause-owns : goal.gather_page-requires-clause-owns
gather_page-requires-clause-owns g c =
    let same = c.loop-page.invariant.same.0 in
    (same.0 ∙ c.requires.owns.0, same.1 ∙ c.requires.owns.1, same.3 ∙ c.requires.owns.2)

pub gather_page-requires-clause-rows : goal.gather_page-requires-clause-rows
gather_page-requires-clause-rows g c =
    let size = page_size-le c.self.inside.grid.shape c.loop-page.page in
    let is = c.page_size.ensures in
    let low = c.loop-page-test.true in
    let most = c.opened-page-end.ensures.within in
    let of = ap (λ (z : Shape). z.pages) c.lane.invariant.1.stores.paged.1 in
    let shape = ap (λ (z : Shape). z.pages) ((λ i. (c.lane.view_is i).shape) ∙ c.requires.owns.1) in
    omega (arith, size, is, low, most, of, shape)

pub loop-page-preserved : goal.loop-page-preserved
loop-page-preserved g c =
    let was = c.loop-page.invariant in
    let z = c.args.lane.now.shape in
    let page : ℕ = c.loop-page.page in
    let none = c.gather_page.ensures.none c.if-gather_page.false in
    let same = c.gather_page.ensures.same in
    let shape : c.self.inside.grid.shape ≡ z = (λ i. (c.self.view_is i).shape) ∙ sym c.requires.owns.1 in
    let rows = rows-are c.page_size.result (page_size z page) (c.page_size.ensures ∙ ap (λ (y : Shape). page_size y page) shape) in
    let one : suc page ≡ page + 1 = omega arith in record {
      gathers = subst (λ (n : ℕ). GathersAll (rows_of_pages z n) c.args.lane.now c.gather_page.new.lane) one
          (gathers-append (rows_of_pages z page) (rows_from (64 * page) (rows_of_page z page)) c.args.lane.now c.loop-page.lane c.gather_page.new.lane was.gathers
          (subst (λ (n : ℕ). GathersAll (rows_from (64 * page) n) c.loop-page.lane c.gather_page.new.lane) rows none.0));
      own = none.1;
      same = ((same.0.0 ∙ was.same.0.0, same.0.1 ∙ was.same.0.1, same.0.2 ∙ was.same.0.2, same.0.3 ∙ was.same.0.3), same.1 ∙ was.same.1);
      fillings = λ filling made. c.gather_page.ensures.fillings filling (was.fillings filling made);
    }

pub returns-then-gather_page-clause-gathers : goal.returns-then-gather_page-clause-gathers
returns-then-gather_page-clause-gathers g c =
    let was = c.loop-page.invariant in
    let z = c.args.lane.now.shape in
    let some = c.gather_page.ensures.some c.if-gather_page.true in
    let same = c.gather_page.ensures.same in record {
      rows = rows_of_pages z c.loop-page.page ++ some.0;
      gathers = gathers-append (rows_of_pages z c.loop-page.page) some.0 c.args.lane.now c.loop-page.lane c.gather_page.new.lane was.gathers some.1;
      listed = λ isnt. absurd (isnt (empty g (goal.at.returns-then-gather_page-clause-gathers g c).After-self));
      all = λ none. absurd (some.2 none);
      same = ((same.0.0 ∙ was.same.0.0, same.0.1 ∙ was.same.0.1, same.0.2 ∙ was.same.0.2, same.0.3 ∙ was.same.0.3), same.1 ∙ was.same.1);
    }
