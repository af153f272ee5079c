-- The highest bit is that of the first place.
use Rattle.std.proofs.Common.{◌≡◌, ℕ, ◌-◌, ◌*◌, ◌%◌, ◌^◌, ◌<◌, ◌∷◌, false, sym, ap, ◌∙◌, subst, arith}
use Rattle.seqpool.specs.Pool.{has}
use Rattle.keybits.specs.Rows.{row_place, set_places}
use Rattle.shardpool.proofs.count.Given.{set-first, set-once, bit-fits}
use Rattle.shardpool.proofs.bits.next_place.Goals as goal

-- the word without the highest bit
shifted : (bit : ℕ) → bit < 64 → (1 * 2 ^ bit) % 18446744073709551616 ≡ 2 ^ bit
shifted bit low = let fits = bit-fits 0 0 bit low in let power : ℕ = 2 ^ bit in omega (arith, fits)

pub returns-clause-place : goal.returns-clause-place
returns-clause-place c =
    let s : ℕ = c.args.shard in
    let r : ℕ = c.args.row in
    let bit : ℕ = c.ilog2-bit.result in
    set-first s r bit c.args.word.now c.ilog2-bit.ensures.bound c.ilog2-bit.ensures.power_le c.ilog2-bit.ensures.next_power_gt
    ∙ ap (λ (n : ℕ). row_place s r bit ∷ set_places s r (c.args.word.now - n)) (sym (shifted bit c.ilog2-bit.ensures.bound))

pub returns-clause-once : goal.returns-clause-once
returns-clause-once c =
    let s : ℕ = c.args.shard in
    let r : ℕ = c.args.row in
    let bit : ℕ = c.ilog2-bit.result in
    subst (λ (n : ℕ). has (set_places s r (c.args.word.now - n)) (row_place s r bit) ≡ false) (sym (shifted bit c.ilog2-bit.ensures.bound))
    (set-once s r bit c.args.word.now c.ilog2-bit.ensures.bound c.ilog2-bit.ensures.power_le c.ilog2-bit.ensures.next_power_gt)
