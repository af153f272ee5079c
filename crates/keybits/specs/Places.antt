-- Places by their numbers: slot + 4096 * page + 65536 * shard.
use Rattle.std.specs.Prelude.{ℕ, ◌+◌, ◌*◌, ◌/◌, ◌%◌}
use Rattle.keybits.specs.declared.place.Place.{Place}

-- the number of a place
abbrev pub number_of : Place → ℕ
number_of p = p.slot + 4096 * p.page + 65536 * p.shard

-- the shard of the place of this number
abbrev pub shard_of : ℕ → ℕ
shard_of n = n / 65536

-- the page of the place of this number
abbrev pub page_of : ℕ → ℕ
page_of n = n / 4096 % 16

-- the slot of the place of this number
abbrev pub slot_of : ℕ → ℕ
slot_of n = n % 4096

-- the number of the place with this shard, page and slot
abbrev pub place_at : ℕ → ℕ → ℕ → ℕ
place_at shard page slot = slot + 4096 * page + 65536 * shard
