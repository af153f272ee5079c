-- The last of what is left is of the place below those that are back.
use Rattle.std.proofs.Common.{◌≡◌, ℕ, ◌+◌, [], ◌∷◌, List, length, ap, ◌∙◌, subst, arith}
use Rattle.std.specs.Prelude.{slice_get}
use Rattle.poolsteps.specs.Directory.{Directory}
use Rattle.poolsteps.specs.Spot.{Spot}
use Rattle.poolsteps.specs.declared.rows.Own.{Own}
use Rattle.poolsteps.specs.Rows.{IsOwnOf}
use Rattle.poolsteps.proofs.own_rows.RowLemmas.{get-first, get-end, one-less}
use Rattle.poolsteps.proofs.objects.Objects.put_back.Goals as goal

pub overflow_add-first : goal.overflow_add-first
overflow_add-first g c =
    let less = one-less c.loop-own.row.items c.pop.new.self.items c.in-Some.own c.in-Some.ensures.items in
    let len = c.len-in-Some.ensures in
    let stand = c.pop.new.self.ok.0 in
    let below = c.loop-own.invariant.below in
    let fits = c.ranges.end.fits in
    omega (arith, less, len, stand, below, fits)

pub right_in-requires : goal.right_in-requires
right_in-requires g c =
    let s = c.self.inside in
    let len : length c.pop.new.self.items ≡ c.len-in-Some.result = let l = c.len-in-Some.ensures in let stand = c.pop.new.self.ok.0 in omega (arith, l, stand) in
    subst (λ (n : ℕ). IsOwnOf s.directory.ptr (s.first + n) c.in-Some.own) len
    (c.loop-own.invariant.own (length c.pop.new.self.items) c.in-Some.own
    (ap (λ (row : List (Own g.row.T.Denot)). slice_get row (length c.pop.new.self.items)) c.in-Some.ensures.items ∙ get-end c.pop.new.self.items c.in-Some.own))

pub loop-own-preserved : goal.loop-own-preserved
loop-own-preserved g c =
    let s = c.self.inside in
    let before = c.loop-own.invariant in
    let less = one-less c.loop-own.row.items c.pop.new.self.items c.in-Some.own c.in-Some.ensures.items in
    let len = c.len-in-Some.ensures in
    let stand = c.pop.new.self.ok.0 in
    record {
      next = ap (λ (d : Directory). d.next) c.put_back.ensures ∙ (ap (λ (v : Spot). v.index) (c.in_ok-right_in.ensures.some) ∙ ap (λ (n : ℕ). s.first + n) (let same : c.len-in-Some.result ≡ length c.pop.new.self.items = omega (arith, len, stand) in same));
      at = ap (λ (d : Directory). d.at) c.put_back.ensures ∙ before.at;
      own = λ index own at. before.own index own (ap (λ (row : List (Own g.row.T.Denot)). slice_get row index) c.in-Some.ensures.items ∙ get-first c.pop.new.self.items (c.in-Some.own ∷ []) index own at);
      below = let b = before.below in omega (arith, less, b);
    }
