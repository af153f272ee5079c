use Rattle.std.proofs.Common.{rules, ◌≡◌, [], length, subst, sym, arith}
use Rattle.keybits.specs.Shapes.{shard_places}
use Rattle.keybits.proofs.ShapeLemmas.{shape_bounds}
use Rattle.freelists.specs.declared.shard.Shard.{Shard}
use Rattle.freelists.specs.Shards.{IsShardOf}
use Rattle.freelists.proofs.QueueLemmas.{own-nil}
use Rattle.freelists.proofs.FreeLemmas.{apart-none}
use Rattle.freelists.proofs.local.LocalFree.new.Goals as goal

pub invariant_of-result : goal.invariant_of-result
invariant_of-result c =
    let shard : Shard = c.new-shard.result in
    let ok : IsShardOf shard.number shard.shape = subst (λ (s : Shard). IsShardOf s.number s.shape) (sym c.new-shard.ensures) (record { shape = c.requires.shape; shard_below = c.requires.shard }) in
    let some = (shape_bounds shard.shape ok.shape).shard.0 in
    let long : length c.in_ok-ring.ring.items ≡ shard_places shard.shape = search rules in
    (ok, long, omega (arith, some), own-nil shard.shape shard.number, apart-none shard.shape shard.number [])
