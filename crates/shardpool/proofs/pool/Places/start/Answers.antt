-- The start of its shard tells where a place stands.
use Rattle.std.proofs.Common.{◌*◌, ℕ, Fits, w32, refl, sym, ap, subst, ◌∙◌, arith}
use Rattle.keybits.specs.Places.{shard_of}
use Rattle.poolsteps.proofs.SlotLemmas.{in-row, row-small}
use Rattle.shardpool.proofs.free.Starts.{shard-is}
use Rattle.shardpool.proofs.free.Words.{stands-from}
use Rattle.shardpool.proofs.pool.Places.start.Goals as goal

pub overflow_mul-shard_of : goal.overflow_mul-shard_of
overflow_mul-shard_of c =
    let s = c.args.self.now in
    let at = shard-is s.shape (shard_of c.args.place) s.apart s.apart_is in
    let from = stands-from s.shape c.args.place (shard_of c.args.place) refl in
    let low = in-row s.shape c.args.place c.requires in
    let small = row-small s.shape s.checked in
    subst (λ (shard : ℕ). Fits w32 (shard * s.apart)) (sym c.shard_of.ensures) (omega (arith, at, from, low, small))

pub start_from-requires-clause-place : goal.start_from-requires-clause-place
start_from-requires-clause-place c = c.requires

pub start_from-requires-clause-first : goal.start_from-requires-clause-first
start_from-requires-clause-first c =
    let s = c.args.self.now in ap (λ (shard : ℕ). shard * s.apart) c.shard_of.ensures ∙ shard-is s.shape (shard_of c.args.place) s.apart s.apart_is
