-- What a lane's acts leave it: how many references, and which places.
use Rattle.std.specs.Prelude.{◌==◌, ℕ, ◌+◌, ◌-◌, Bool, true, false, not, List, [], ◌∷◌, Some, None, if◌then◌else◌}
use Rattle.keybits.specs.declared.shape.Shape.{Shape}
use Rattle.keybits.specs.Keys.{place_of, generation_of}
use Rattle.seqpool.specs.declared.act.Act.{Act}
use Rattle.seqpool.specs.declared.act.Act.TheVariants as acts
use Rattle.seqpool.specs.Pool.{has}

-- how many references a lane has after its act, where it had so many
abbrev pub held_with : Act → ℕ → ℕ
held_with (acts.Publish lane key content true) n = n + 1
held_with (acts.Publish lane key content false) n = n
held_with (acts.Get lane key (Some content)) n = n + 1
held_with (acts.Get lane key None) n = n
held_with (acts.Release lane key) n = n - 1
held_with (acts.Clear lane key reply) n = n
held_with (acts.Reclaim lane key) n = n
held_with (acts.Home lane place) n = n
held_with (acts.Collect lane places) n = n

-- and after these acts of it
abbrev pub held_after : List Act → ℕ → ℕ
held_after [] n = n
held_after (act ∷ more) n = held_after more (held_with act n)

-- whether a place is with a lane after its act, where it was so before or not: a publish and a return give it away, a collect brings it, and so does a reclaim below the last generation
abbrev pub left_by : Shape → ℕ → Act → Bool → Bool
left_by z place (acts.Publish lane key content with_ref) was = if place == place_of key then false else was
left_by z place (acts.Get lane key reply) was = was
left_by z place (acts.Release lane key) was = was
left_by z place (acts.Clear lane key reply) was = was
left_by z place (acts.Reclaim lane key) was = if place == place_of key then not (generation_of key == z.last_generation) else was
left_by z place (acts.Home lane at) was = if place == at then false else was
left_by z place (acts.Collect lane places) was = if has places place then true else was

-- whether a place is with a lane after these acts of it, by these alone
abbrev pub left_with : Shape → ℕ → List Act → Bool → Bool
left_with z place [] was = was
left_with z place (act ∷ more) was = left_with z place more (left_by z place act was)

-- whether a lane retired a place, after its act, where it had done so before or not: a reclaim at the last generation retires it, and an act that gives it away or brings it tells that it isn't retired
abbrev pub retired_by : Shape → ℕ → Act → Bool → Bool
retired_by z place (acts.Publish lane key content with_ref) was = if place == place_of key then false else was
retired_by z place (acts.Get lane key reply) was = was
retired_by z place (acts.Release lane key) was = was
retired_by z place (acts.Clear lane key reply) was = was
retired_by z place (acts.Reclaim lane key) was = if place == place_of key then generation_of key == z.last_generation else was
retired_by z place (acts.Home lane at) was = if place == at then false else was
retired_by z place (acts.Collect lane places) was = if has places place then false else was

-- whether it retired the place by these acts
abbrev pub has_retired : Shape → ℕ → List Act → Bool → Bool
has_retired z place [] was = was
has_retired z place (act ∷ more) was = has_retired z place more (retired_by z place act was)
