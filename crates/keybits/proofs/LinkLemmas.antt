-- A link word and the place that it stands for.
use Rattle.std.proofs.Common.{◌≡◌, ℕ, ◌≤◌, arith}
use Rattle.keybits.specs.Places.{shard_of}
use Rattle.keybits.specs.Links.{link_to, linked_place}

-- a place is the one that its link stands for
pub linked_place-link_to : (p : ℕ) → linked_place (shard_of p) (link_to p) ≡ p
linked_place-link_to p = omega arith

pub link_to-linked_place : (shard word : ℕ) → 1 ≤ word → word ≤ 65536 → link_to (linked_place shard word) ≡ word
link_to-linked_place shard word low high = omega arith

pub shard_of-linked_place : (shard word : ℕ) → 1 ≤ word → word ≤ 65536 → shard_of (linked_place shard word) ≡ shard
shard_of-linked_place shard word low high = omega arith

pub link_to-positive : (p : ℕ) → 1 ≤ link_to p
link_to-positive p = omega arith

pub link_to-le : (p : ℕ) → link_to p ≤ 65536
link_to-le p = omega arith

-- two places of a shard with the same link are one
pub link_to-injective : (p q : ℕ) → shard_of p ≡ shard_of q → link_to p ≡ link_to q → p ≡ q
link_to-injective p q shard link = omega arith
