use Rattle.std.proofs.Common.{ap, ◌∙◌}
use Rattle.keybits.specs.Shapes.{is_place}
use Rattle.freelists.proofs.ShardLemmas.{own_number}
use Rattle.freelists.proofs.shard.Shard.index.Goals as goal

pub number-requires-clause-slot : goal.number-requires-clause-slot
number-requires-clause-slot c = (own_number c.args.self.now.shape c.args.self.now.number c.args.place c.requires.shard c.requires.own).low_slot

pub index-requires-clause-place : goal.index-requires-clause-place
index-requires-clause-place c =
    ap (λ n. is_place c.args.self.now.shape n) c.number.ensures
    ∙ (own_number c.args.self.now.shape c.args.self.now.number c.args.place c.requires.shard c.requires.own).is_in
