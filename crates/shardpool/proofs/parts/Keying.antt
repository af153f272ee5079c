-- The key of a place that is with a lane, at the generation that the lane saw.
use Rattle.std.proofs.Common.{◌≡◌, ⊎_elim, ℕ, ◌<◌, ◌≤◌, true, false, ltb, refl, sym, ap, ◌∙◌, subst, arith}
use Rattle.std.proofs.lemmas.Bool.{cases_Bool, ltb-true, ltb-false}
use Rattle.atomic_table.specs.Table.{Me}
use Rattle.keybits.specs.declared.shape.Shape.{Shape}
use Rattle.keybits.specs.Places.{shard_of}
use Rattle.keybits.specs.Shapes.{IsShape, is_place}
use Rattle.keybits.specs.Keys.{key_number, place_of, generation_of, tag_of, is_key}
use Rattle.keybits.specs.Counts.{times}
use Rattle.keybits.proofs.ShapeLemmas.{place_bounds}
use Rattle.keybits.proofs.KeyLemmas.{key_parts, is_key-from_parts, place_of-key_number, generation_of-key_number, tag_of-key_number}
use Rattle.seqpool.specs.Pool.{with, fresh, pool_after, IsLegal}
use Rattle.seqpool.proofs.Ranks.{level-le, rank-rises, current-from}
use Rattle.steplaws.proofs.Generations.{key_now}
use Rattle.poolsteps.specs.declared.view.LaneRecord.{LaneRecord}
use Rattle.poolsteps.specs.declared.view.View.{View}
use Rattle.poolsteps.specs.Views.{head_record, the_lane}
use Rattle.poolsteps.specs.Told.{Sees, IsIdle, MayPublish}
use Rattle.shardpool.proofs.parts.Following.{still-with}

-- a place's generation is never 0
pub seen-low : (z : Shape) (v : View) (place : ℕ) → IsLegal z v.seen → 1 ≤ (pool_after z v.seen place).generation
seen-low z v place legal =
    let rises = rank-rises z fresh v.seen place legal in
    let most = level-le (pool_after z v.seen place).phase in omega arith

-- nor past the last, where that fits a generation's bits; and else it isn't where it fits them itself
seen-high : (z : Shape) → IsShape z → (v : View) (place : ℕ) → is_place z place ≡ true → (pool_after z v.seen place).generation < 4294967296
    → (pool_after z v.seen place).generation ≤ z.last_generation
seen-high z ok v place inside fits = ⊎_elim
    (λ (is : ltb z.last_generation 4294967296 ≡ true).
    let now = key_now z ok (ltb-true z.last_generation 4294967296 is) v.seen place inside in
    subst (λ (g : ℕ). g ≤ z.last_generation) now.2 (key_parts z (key_number z.tag place (pool_after z v.seen place).generation) now.0).last)
    (λ (isnt : ltb z.last_generation 4294967296 ≡ false). let above = ltb-false z.last_generation 4294967296 isnt in omega arith)
    (cases_Bool (ltb z.last_generation 4294967296))

-- after the look the lane may publish the place under that key
pub look-may : {S : Type 0} {z : Shape} {a b : Me S View} → Sees z a b → IsShape z → (place generation key : ℕ) → is_place z place ≡ true
    → generation ≡ (pool_after z b.0.seen place).generation → generation < 4294967296 → key ≡ key_number z.tag place generation
    → IsIdle a.0 → shard_of place ≡ (the_lane a.0).lane → (pool_after z a.0.seen place).phase ≡ with (the_lane a.0).lane → times place (the_lane a.0).chain ≡ 0 → MayPublish z b.0 key
look-may {z = z} {a = a} {b = b} sees ok place generation key inside is fits number idle own is_with unchained =
    let now : the_lane b.0 ≡ the_lane a.0 = ap head_record sees.goes.lanes in
    let small : place < 16777216 = (place_bounds z ok place inside).number in
    let low : 1 ≤ generation = subst (λ (g : ℕ). 1 ≤ g) (sym is) (seen-low z b.0 place sees.goes.legal) in
    let high : generation ≤ z.last_generation
    = subst (λ (g : ℕ). g ≤ z.last_generation) (sym is) (seen-high z ok b.0 place inside (subst (λ (g : ℕ). g < 4294967296) is fits)) in
    let at : place_of key ≡ place = ap place_of number ∙ place_of-key_number z.tag place generation small in
    let of : generation_of key ≡ generation = ap generation_of number ∙ generation_of-key_number z.tag place generation small fits in
    let of_tag = ap tag_of number ∙ tag_of-key_number z.tag place generation small fits in
    let is_one : is_key z key ≡ true = is_key-from_parts z key of_tag (ap (is_place z) at ∙ inside)
    (subst (λ (g : ℕ). 1 ≤ g) (sym of) low) (subst (λ (g : ℕ). g ≤ z.last_generation) (sym of) high) in record {
      idle = ap (λ (r : LaneRecord). r.under) now ∙ idle;
      own = ap shard_of at ∙ (own ∙ ap (λ (r : LaneRecord). r.lane) (sym now));
      current = current-from z (pool_after z b.0.seen) key is_one (ap (λ (p : ℕ). (pool_after z b.0.seen p).generation) at ∙ (sym is ∙ sym of));
      with_lane = ap (λ (p : ℕ). (pool_after z b.0.seen p).phase) at ∙ ((still-with sees.goes refl place is_with).0 ∙ ap (λ (r : LaneRecord). with r.lane) (sym now));
      unchained = ap (λ (p : ℕ). times p (the_lane b.0).chain) at ∙ (ap (λ (r : LaneRecord). times place r.chain) now ∙ unchained);
    }
