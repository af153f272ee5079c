-- How the parts of a place's word are dealt among its shares. No public clause cites this module.
use Rattle.std.specs.Prelude.{◌≡◌, ℕ, ◌+◌, ◌-◌, ◌^◌, ◌<◌, ◌≤◌, ◌==◌, true, if◌then◌else◌}
use Rattle.poolsteps.specs.declared.memory.Loose.{Loose}
use Rattle.poolsteps.specs.declared.memory.Portion.{Portion}
use Rattle.poolsteps.specs.Share.{Share}
use Rattle.poolsteps.specs.Rest.{Rest}
use Rattle.poolsteps.specs.Whole.{Whole}

-- share i of n has one part; the last one has all that the others leave
abbrev pub parts_of : ℕ → ℕ → ℕ
parts_of n i = if i + 1 == n then 2 ^ 63 - i else 1

module _ {T : Type 0} where
  -- the portion is that of a share; the last share has the right to the memory
  pub record IsOneShare (p : Portion T) : Type 0 where
    pub parts : p.parts ≡ parts_of p.of p.number
    pub owner : p.owner ≡ (p.number + 1 == p.of)
    pub few : p.of ≤ 2 ^ 32

  -- the portion is that of all shares from its number on, and has the right to the memory
  pub record IsRest (p : Portion T) : Type 0 where
    pub parts : p.parts ≡ 2 ^ 63 - p.number
    pub owner : p.owner ≡ true
    pub some : p.number < p.of
    pub few : p.of ≤ 2 ^ 32

  -- what is seen of a share
  abbrev pub shown_by : Portion T → Share T
  shown_by p = record {
    cell = p.cell;
    spot = record { directory = p.base; index = p.index };
    number = p.number;
    of = p.of;
    object =
        p.object;
  }

  -- what is seen of a rest
  abbrev pub rest_shown_by : Portion T → Rest T
  rest_shown_by p = record {
    cell = p.cell;
    spot = record { directory = p.base; index = p.index };
    number = p.number;
    of = p.of;
    object =
        p.object;
  }

  -- what is seen of a whole
  abbrev pub whole_shown_by : Loose T → Whole T
  whole_shown_by l = record { spot = record { directory = l.base; index = l.index }; object = l.object }
