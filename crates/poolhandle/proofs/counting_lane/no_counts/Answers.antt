-- Each round adds the same count.
use Rattle.std.proofs.Common.{◌≡◌, ◌++◌, ℕ, List, [], ◌∷◌, replicate, ap, ◌∙◌, arith}
use Rattle.std.proofs.lemmas.List.{replicate-append-replicate}
use Rattle.poolhandle.specs.declared.counting_lane.KeyCount.{KeyCount}
use Rattle.poolhandle.proofs.counting_lane.no_counts.Goals as goal

pub loop-preserved : goal.loop-preserved
loop-preserved c =
    let pushed = c.push_reserved.ensures in
    let row : KeyCount = record { generation = 0; count = 0 } in
    (pushed.items ∙ (ap (λ (rows : List KeyCount). rows ++ row ∷ []) c.loop.invariant.0 ∙ replicate-append-replicate c.loop.counter 1 row), rw pushed.capacity c.loop.invariant.1)

pub returns : goal.returns
returns c =
    let row : KeyCount = record { generation = 0; count = 0 } in
    let end : c.loop.counter ≡ c.args.places = omega arith in
    c.loop.invariant.0 ∙ ap (λ (n : ℕ). replicate n row) end
