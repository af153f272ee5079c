use Rattle.std.proofs.Common.{◌≡◌, ◌∙◌, List, [], ◌∷◌, ◌++◌, length, ap, sym, arith, eqb-true}
use Rattle.outcomes.specs.declared.reached.Reached.{Reached}
use Rattle.outcomes.specs.Search.{all_ways}
use Rattle.outcomes.proofs.EndLemmas.{search-begun, search-next, search-over, search-ended}
use Rattle.outcomes.proofs.search.all_outcomes.Goals as goal

pub loop-layer-init : goal.loop-layer-init
loop-layer-init c =
    let start = c.in_ok-start.start in
    record {
      few = omega arith;
      searched = search-begun c.args.shape.now c.args.scripts.now start c.push.new.self.items c.new-table.result.items
          (record { schedule = c.in_ok-start.ensures.schedule; trace = c.in_ok-start.ensures.trace; ways = c.in_ok-start.ensures.ways })
          (c.in_ok-push.ensures.items ∙ ap (λ (rs : List Reached). rs ++ start ∷ []) c.new-layer.ensures.items) c.new-table.ensures.items;
    }

pub loop-layer-preserved : goal.loop-layer-preserved
loop-layer-preserved c =
    let at = c.loop-layer in
    record {
      few = omega arith;
      searched = search-next c.args.shape.now c.args.scripts.now at.layer.items _ _ at.table.items _ at.invariant.searched c.as_slice.ensures.value
          c.in_ok-layer.ensures;
    }

pub returns-clause-ok : goal.returns-clause-ok
returns-clause-ok c =
    let at = c.loop-layer in
    let len : at.layer.len ≡ 0 = eqb-true at.layer.len 0 (sym c.is_empty.ensures ∙ c.loop-layer-test.false) in
    let none : length at.layer.items ≡ 0 = omega (arith, len, at.layer.ok.0) in
    search-ended c.args.shape.now c.args.scripts.now at.table.items c.in_ok-ways.ways
    (search-over c.args.shape.now c.args.scripts.now at.layer.items at.table.items none at.invariant.searched)
    (c.in_ok-ways.ensures ∙ ap all_ways c.as_slice-told.ensures.value)
