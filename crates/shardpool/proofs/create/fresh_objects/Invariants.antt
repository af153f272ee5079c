use Rattle.std.proofs.Common.{◌≡◌, ◌≤◌, [], length}
use Rattle.std.specs.List.{All}
use Rattle.std.specs.Vec.{vec_capacity}
use Rattle.shardpool.proofs.create.fresh_objects.Given as goal

-- so many objects stand there, each empty
abbrev pub invariant-loop : goal.invariant-loop
invariant-loop g l = record { stand : length l.objects.items ≡ l.counter; room : l.count ≤ vec_capacity l.objects; empty : All (λ object. g.T.Clear.content object ≡ []) l.objects.items }
