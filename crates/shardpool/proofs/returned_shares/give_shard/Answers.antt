-- Each row of the shard gives back its share.
use Rattle.std.proofs.Common.{◌≡◌, ◌+◌, ◌*◌, ◌<◌, ℕ, true, None, length, ap, sym, ◌∙◌, subst, arith, length-set}
use Rattle.std.specs.Prelude.{slice_get, slice_set}
use Rattle.keybits.specs.declared.shape.Shape.{Shape}
use Rattle.keybits.specs.Shapes.{is_place, position_of, shard_places, all_places}
use Rattle.poolsteps.specs.Layout.{slot_start, slot_row, slot_index, shard_start}
use Rattle.poolsteps.proofs.SlotLemmas.{in-row, slot-below}
use Rattle.shardpool.specs.HeldKeys.{HeldKey}
use Rattle.shardpool.specs.Remains.{GivesRow, GivesTo}
use Rattle.shardpool.proofs.at_close.LastHistory.{entry-at}
use Rattle.shardpool.proofs.at_close.ReturnedShares.{back-more}
use Rattle.shardpool.proofs.free.Words.{stands-from}
use Rattle.shardpool.proofs.count.Counts.{at-position, position-below}
use Rattle.shardpool.proofs.returned_shares.give_shard.Goals as goal

-- where the place of this index stands, and its slot
starts : (z : Shape) (shard index place first places : ℕ) → first ≡ shard_start z shard → places ≡ shard_places z → index < places → is_place z place ≡ true
    → position_of z place ≡ shard * places + index → slot_start z place ≡ first + index
starts z shard index place first places first_is same low inside position =
    let here = at-position z shard index place (omega (arith, low, same)) inside (position ∙ ap (λ (n : ℕ). shard * n + index) same) in
    let stand = stands-from z place shard here.0 in
    let index_is = here.1 in
    omega (arith, stand, first_is, index_is)

slot-is : (z : Shape) (place number row at : ℕ) → row ≡ slot_row z → slot_start z place ≡ at → number * row + at ≡ slot_index z place number
slot-is z place number row at row_is at_is = ap (λ (n : ℕ). number * n + at) row_is ∙ ap (λ (n : ℕ). number * slot_row z + n) (sym at_is)

none-more : (n : ℕ) → n ≡ n + 0
none-more n = omega arith

-- the place is one of the pool
in-all : (z : Shape) (shard index places : ℕ) → shard < z.lanes → places ≡ shard_places z → index < places → shard * places + index < all_places z
in-all z shard index places low same below =
    subst (λ (n : ℕ). shard * n + index < all_places z) (sym same) (position-below z shard index low (omega (arith, below, same)))

-- ---- the shape is within its limits, and the shard is one of its lanes

pub shard_places-places-requires : goal.shard_places-places-requires
shard_places-places-requires g c = c.requires.shape

pub shard_start-start-requires-clause-shape : goal.shard_start-start-requires-clause-shape
shard_start-start-requires-clause-shape g c = c.requires.shape

pub slot_row-wide-requires : goal.slot_row-wide-requires
slot_row-wide-requires g c = c.requires.shape

pub place_at-requires-clause-shape : goal.place_at-requires-clause-shape
place_at-requires-clause-shape g c = c.requires.shape

pub shard_start-start-requires-clause-shard : goal.shard_start-start-requires-clause-shard
shard_start-start-requires-clause-shard g c = c.requires.lanes.1

-- ---- the rows

pub loop-index-init : goal.loop-index-init
loop-index-init g c =
    let z = c.args.shape.now in
    let none : c.args.shard * shard_places z ≡ c.args.shard * shard_places z + 0 = none-more (c.args.shard * shard_places z) in record {
      wide = c.requires.wide;
      row = c.requires.row;
      given = λ all first h. subst (λ (n : ℕ). GivesTo z c.args.number all n c.args.rows.now.items first c.args.slots.now) none h;
    }

pub place_at-requires-clause-position : goal.place_at-requires-clause-position
place_at-requires-clause-position g c =
    in-all c.args.shape.now c.args.shard c.loop-index.index c.shard_places-places.result c.requires.lanes.1 c.shard_places-places.ensures c.loop-index-test.true

pub overflow_mul-shard : goal.overflow_mul-shard
overflow_mul-shard g c =
    let low = in-all c.args.shape.now c.args.shard c.loop-index.index c.shard_places-places.result c.requires.lanes.1 c.shard_places-places.ensures c.loop-index-test.true in
    let wide = c.slot_row-wide.ensures in
    omega (arith, low, wide)

pub overflow_add-shard : goal.overflow_add-shard
overflow_add-shard g c =
    let low = in-all c.args.shape.now c.args.shard c.loop-index.index c.shard_places-places.result c.requires.lanes.1 c.shard_places-places.ensures c.loop-index-test.true in
    let wide = c.slot_row-wide.ensures in
    omega (arith, low, wide)

pub give_row-requires-clause-full : goal.give_row-requires-clause-full
give_row-requires-clause-full g c = c.loop-index.invariant.row.0

pub take_row-row-requires : goal.take_row-row-requires
take_row-row-requires g c =
    let z = c.args.shape.now in
    let place = c.place_at.result in
    let inside = c.place_at.ensures.place in
    let at = starts z c.args.shard c.loop-index.index place c.shard_start-start.result c.shard_places-places.result c.shard_start-start.ensures c.shard_places-places.ensures
    c.loop-index-test.true inside c.place_at.ensures.position in
    let low = in-row z place inside in
    let wide = c.loop-index.invariant.wide in
    omega (arith, at, low, wide)

pub give_row-requires-clause-index : goal.give_row-requires-clause-index
give_row-requires-clause-index g c =
    let z = c.args.shape.now in
    let place = c.place_at.result in
    let inside = c.place_at.ensures.place in
    let at = starts z c.args.shard c.loop-index.index place c.shard_start-start.result c.shard_places-places.result c.shard_start-start.ensures c.shard_places-places.ensures
    c.loop-index-test.true inside c.place_at.ensures.position in
    let is = slot-is z place c.args.number c.slot_row-wide.result (c.shard_start-start.result + c.loop-index.index) c.slot_row-wide.ensures at in
    let low = c.requires.lanes.0 in let deep = slot-below z place c.args.number inside (omega (arith, low)) in
    let count = c.loop-index.invariant.row.1 in
    omega (arith, is, deep, count)

pub loop-index-preserved : goal.loop-index-preserved
loop-index-preserved g c =
    let z = c.args.shape.now in
    let place = c.place_at.result in
    let inside = c.place_at.ensures.place in
    let rows = c.loop-index.rows.items in
    let first_at : ℕ = c.shard_start-start.result + c.loop-index.index in
    let at = starts z c.args.shard c.loop-index.index place c.shard_start-start.result c.shard_places-places.result c.shard_start-start.ensures c.shard_places-places.ensures
    c.loop-index-test.true inside c.place_at.ensures.position in
    let position : position_of z place ≡ c.args.shard * shard_places z + c.loop-index.index =
    c.place_at.ensures.position ∙ ap (λ (n : ℕ). c.args.shard * n + c.loop-index.index) c.shard_places-places.ensures in
    let low = in-row z place inside in
    let wide = c.loop-index.invariant.wide in
    let entry = entry-at rows (slot_start z place) (omega (arith, low, wide)) in
    let none : HeldKey g.row.T.Denot = record { generation = 0; count = 0; share = None } in
    let left = c.take_row-row.ensures.left ∙ ap (λ (i : ℕ). slice_set rows i none) (sym at) in
    let slot : ℕ = c.args.number * c.slot_row-wide.result + first_at in
    let gives = subst (λ (x : HeldKey g.row.T.Denot). GivesRow slot x c.loop-index.slots c.give_row.new.slots)
    (c.take_row-row.ensures.taken entry.0 (ap (slice_get rows) (sym at) ∙ entry.1)) c.give_row.ensures in
    let next : c.args.shard * shard_places z + c.loop-index.index + 1 ≡ c.args.shard * shard_places z + (c.loop-index.index + 1) = omega arith in
    record {
      wide = ap length c.take_row-row.ensures.left ∙ (length-set rows first_at none ∙ wide);
      row = (c.give_row.ensures.full, c.give_row.ensures.count ∙ c.loop-index.invariant.row.1);
      given = λ all first h.
          let before = c.loop-index.invariant.given all first h in
          subst (λ (n : ℕ). GivesTo z c.args.number all n c.take_row-row.new.rows.items first c.give_row.new.slots) next
          (back-more z c.args.number all c.requires.shape (c.args.shard * shard_places z + c.loop-index.index) rows c.take_row-row.new.rows.items entry.0 none
          first c.loop-index.slots c.give_row.new.slots place slot inside position
          (slot-is z place c.args.number c.slot_row-wide.result first_at c.slot_row-wide.ensures at)
          (sym (before.stay place inside (omega (arith, position))) ∙ entry.1) left before gives);
    }

pub returns-clause-wide : goal.returns-clause-wide
returns-clause-wide g c = c.loop-index.invariant.wide

pub returns-clause-row : goal.returns-clause-row
returns-clause-row g c = c.loop-index.invariant.row

pub returns-clause-gives : goal.returns-clause-gives
returns-clause-gives g c = λ all first h.
    let z = c.args.shape.now in
    let most = c.loop-index.auto.index-end in
    let over = c.loop-index-test.false in
    let same = c.shard_places-places.ensures in
    let end : c.loop-index.index ≡ shard_places z = omega (arith, most, over, same) in
    let all_done : c.args.shard * shard_places z + c.loop-index.index ≡ (c.args.shard + 1) * shard_places z = omega (arith, end) in
    subst (λ (n : ℕ). GivesTo z c.args.number all n c.loop-index.rows.items first c.loop-index.slots) all_done (c.loop-index.invariant.given all first h)
