use Rattle.std.proofs.Common.{◌≡◌, true, nat_lt, append_assoc}
use Rattle.std.proofs.lemmas.Bool.{lt-ltb}
use Rattle.explanations.proofs.half_run.lane_told.Goals as goal

pub returns-then-done-count : goal.returns-then-done-count
returns-then-done-count c =
    let less : nat_lt c.args.done c.args.count ≡ true = lt-ltb c.args.done c.args.count c.if-done-count.true in
    simp (less, append_assoc) c.format.ensures.ok
