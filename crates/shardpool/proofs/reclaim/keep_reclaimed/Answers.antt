-- The place is of the lane's shard.
use Rattle.std.proofs.Common.{Some, sym, ap, ◌∙◌}
use Rattle.poolsteps.specs.Layout.{shard_start}
use Rattle.shardpool.proofs.reclaim.keep_reclaimed.Goals as goal

pub keep-requires-clause-begins : goal.keep-requires-clause-begins
keep-requires-clause-begins g c =
    let s = c.args.state.now in
    let away = c.requires.away c.in-Some-Own.whole (c.in-Some-Own.is ∙ ap Some c.in-Some-Own.field-0-is) in
    c.requires.begins ∙ ap (shard_start s.shape) (sym away.own.of_shard)
