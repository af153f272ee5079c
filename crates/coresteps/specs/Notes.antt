-- What a lane notes of the act of its step.
use Rattle.std.specs.Prelude.{◌==◌, ◌&&◌, ℕ, Bool, not, Some, if◌then◌else◌}
use Rattle.keybits.specs.declared.shape.Shape.{Shape}
use Rattle.keybits.specs.Keys.{place_of, generation_of}
use Rattle.keybits.specs.Places.{shard_of}
use Rattle.seqpool.specs.declared.act.Act.{Act}
use Rattle.seqpool.specs.declared.act.Act.TheVariants as acts
use Rattle.coresteps.specs.declared.own.OwnList.{OwnList}
use Rattle.coresteps.specs.declared.progress.Chain.{Chain}
use Rattle.coresteps.specs.declared.progress.Progress.{Progress}

-- the key is of a place of the lane's shard, and of a generation below the last
abbrev pub returns_own : Shape → ℕ → ℕ → Bool
returns_own z number key = not (generation_of key == z.last_generation) && (shard_of (place_of key) == number)

-- a reclaimed place of the lane's shard is added to its list, but for a retired one
abbrev pub own_noted : Shape → ℕ → Act → OwnList → OwnList
own_noted z number (acts.Reclaim lane key) own = if returns_own z number key then record own { added = Some (place_of key) } else own
own_noted z number act own = own

-- the places that were collected are those to be followed
abbrev pub chain_noted : ℕ → Act → Chain → Chain
chain_noted index (acts.Collect lane places) chain = record { collect = Some index; followed = 0 }
chain_noted index act chain = chain

-- whether the mark of a clear was new
abbrev pub cleared_noted : Act → Bool → Bool
cleared_noted (acts.Clear lane key reply) cleared = reply
cleared_noted act cleared = cleared

-- an act of this index in the history was noted
abbrev pub act_noted : Shape → ℕ → Act → ℕ → Progress → Progress
act_noted z number act index p = record p {
  own = own_noted z number act p.own;
  chain = chain_noted index act p.chain;
  cleared = cleared_noted act p.cleared;
}
