-- A place's number and its three fields.
use Rattle.std.proofs.Common.{◌≡◌, ℕ, ◌<◌, arith}
use Rattle.keybits.specs.Places.{shard_of, page_of, slot_of, place_at}

-- the fields of a number make the number
pub place_at-parts : (n : ℕ) → place_at (shard_of n) (page_of n) (slot_of n) ≡ n
place_at-parts n = omega arith

pub shard_of-place_at : (shard page slot : ℕ) → page < 16 → slot < 4096 → shard_of (place_at shard page slot) ≡ shard
shard_of-place_at shard page slot p s = omega arith

pub page_of-place_at : (shard page slot : ℕ) → page < 16 → slot < 4096 → page_of (place_at shard page slot) ≡ page
page_of-place_at shard page slot p s = omega arith

pub slot_of-place_at : (shard page slot : ℕ) → slot < 4096 → slot_of (place_at shard page slot) ≡ slot
slot_of-place_at shard page slot s = omega arith

pub page_of-lt : (n : ℕ) → page_of n < 16
page_of-lt n = omega arith

pub slot_of-lt : (n : ℕ) → slot_of n < 4096
slot_of-lt n = omega arith
