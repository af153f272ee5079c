-- The pool that the rows of a `SeqPool` stand for, and what a call of it answers and leaves.
use Rattle.std.specs.Prelude.{◌≡◌, ◌==◌, ℕ, true, List, slice_index, slice_index_or, Result, Ok, Err, if◌then◌else◌}
use Rattle.keybits.specs.declared.shape.Shape.{Shape}
use Rattle.keybits.specs.Shapes.{is_place, position_of}
use Rattle.seqpool.specs.declared.row.Standing.{Standing}
use Rattle.seqpool.specs.declared.row.Standing.TheVariants as standings
use Rattle.seqpool.specs.declared.row.Row.{Row}
use Rattle.seqpool.specs.declared.pool.SeqPool.{SeqPool}
use Rattle.keybits.specs.Places.{shard_of}
use Rattle.keybits.specs.Keys.{place_of}
use Rattle.seqpool.specs.declared.act.Act.{Act}
use Rattle.seqpool.specs.declared.fault.ApplyFault.{ApplyFault}
use Rattle.seqpool.specs.declared.fault.ApplyFault.TheVariants.{Memory}
use Rattle.seqpool.specs.Pool.{Phase, with, published, home, retired, Spot, spot, Pool, fresh, gained, lost, marked, is_current, Allowed, after}
use Rattle.seqpool.specs.Refusals.{Wrong, Adds}

-- the phase of a place that stands so
abbrev pub phase_of : Standing → Phase
phase_of (standings.With lane) = with lane
phase_of (standings.Published content references marked) = published content (λ lane. slice_index references lane) marked
phase_of standings.Home = home
phase_of standings.Retired = retired

-- what a row says of its place
abbrev pub spot_of : Row → Spot
spot_of row = spot row.generation (phase_of row.standing)

-- a row for where there is none
abbrev pub no_row : Row
no_row = record { generation = 0; standing = standings.Retired }

-- the pool that some rows stand for, a row for each place by its position; a number that is no place is as it was at first
abbrev pub pool_of : Shape → List Row → Pool
pool_of z rows place = if is_place z place then spot_of (slice_index_or rows (position_of z place) no_row) else fresh place

-- the pool that a `SeqPool` stands for
abbrev pub pool_in : SeqPool → Pool
pool_in pool = pool_of pool.shape pool.rows.items

-- the pool with another spot at a place
abbrev pub with_spot : Pool → ℕ → Spot → Pool
with_spot pool place s x = if x == place then s else pool x

-- the same place with one reference more of a lane
abbrev pub gained_spot : ℕ → Spot → Spot
gained_spot lane s = spot s.generation (gained lane s.phase)

-- the same place with one reference less of a lane
abbrev pub lost_spot : ℕ → Spot → Spot
lost_spot lane s = spot s.generation (lost lane s.phase)

-- the same place with the mark
abbrev pub marked_spot : Spot → Spot
marked_spot s = spot s.generation (marked s.phase)

-- the key is there, at this place
abbrev pub IsPlaceOf : SeqPool → ℕ → ℕ → Type 0
IsPlaceOf pool key place =
    (is_current pool.shape (pool_in pool) key ≡ true) × (is_place pool.shape place ≡ true) × (place ≡ place_of key)

-- the place is home, and of the lane's shard
abbrev pub IsHomeFor : SeqPool → ℕ → ℕ → Type 0
IsHomeFor pool lane place = (is_place pool.shape place ≡ true) × (shard_of place ≡ lane) × ((pool_in pool place).phase ≡ home)

-- how an act of a lane of the shape is answered: it is made; or it is allowed and wants memory; or it is refused. A fault changes nothing
abbrev pub Answers : SeqPool → Act → Result (Unit {0}) ApplyFault → SeqPool → Type 0
Answers pool act (Ok done) left =
    Allowed pool.shape (pool_in pool) act × (pool_in left ≡ after pool.shape act (pool_in pool)) × (left.shape ≡ pool.shape)
Answers pool act (Err Memory) left = (left ≡ pool) × Allowed pool.shape (pool_in pool) act × Adds act
Answers pool act (Err fault) left = (left ≡ pool) × Wrong pool.shape (pool_in pool) act fault
