-- The rows are gathered, and then it is a create.
use Rattle.std.proofs.Common.{◌∙◌}
use Rattle.shardpool.proofs.pool.Pool.create_gathering.Goals as goal

pub create-requires : goal.create-requires
create-requires g c =
    let same = c.gather_some.ensures.gathers.same.0 in
    record { owns = (same.0 ∙ c.requires.owns.0, same.1 ∙ c.requires.owns.1, same.3 ∙ c.requires.owns.2) }

pub returns : goal.returns
returns g c = record {
  between = c.gather_some.new.lane;
  gathers = c.gather_some.ensures.gathers;
  fillings = c.gather_some.ensures.fillings;
  creates = c.create.ensures;
}
