use Rattle.std.proofs.Common.{ap, ◌∙◌}
use Rattle.freelists.specs.Shards.{place_numbered}
use Rattle.freelists.proofs.ShardLemmas.{own_number}
use Rattle.freelists.proofs.shard.Shard.number_of.Goals as goal

pub number-requires-clause-slot : goal.number-requires-clause-slot
number-requires-clause-slot c = (own_number c.args.self.now.shape c.args.self.now.number c.args.place c.requires.shard c.requires.own).low_slot

pub returns-clause-back : goal.returns-clause-back
returns-clause-back c = ap place_numbered c.number.ensures ∙ (own_number c.args.self.now.shape c.args.self.now.number c.args.place c.requires.shard c.requires.own).back
