-- Each round adds the same row.
use Rattle.std.proofs.Common.{◌≡◌, ◌++◌, ℕ, [], ◌∷◌, None, replicate, ap, ◌∙◌, arith}
use Rattle.std.proofs.lemmas.List.{replicate-append-replicate}
use Rattle.shardpool.specs.HeldKeys.{HeldKey}
use Rattle.shardpool.proofs.opening.first_rows.Goals as goal

pub loop-preserved : goal.loop-preserved
loop-preserved g c =
    let pushed = c.push_reserved.ensures in
    let row : HeldKey g.row.T.Denot = record { generation = 0; count = 0; share = None } in
    (pushed.items ∙ (ap (λ (r : HeldKey g.row.T.Denot). c.loop.rows.items ++ r ∷ []) c.none.ensures ∙ ap (λ rows. rows ++ row ∷ []) c.loop.invariant.0 ∙ replicate-append-replicate c.loop.counter 1 row), rw pushed.capacity c.loop.invariant.1)

pub returns : goal.returns
returns g c =
    let row : HeldKey g.row.T.Denot = record { generation = 0; count = 0; share = None } in
    let end : c.loop.counter ≡ c.args.count = omega arith in
    c.loop.invariant.0 ∙ ap (λ (n : ℕ). replicate n row) end
