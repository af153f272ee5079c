-- The lanes of a pool that was just opened: none has a reference, and they are all lanes.
use Rattle.std.proofs.Common.{◌≡◌, ℕ, zero, suc, ◌+◌, ◌<◌, List, [], ◌∷◌, ◌++◌, length, slice_get, Option, Some, None, IfSome, option_to_list, refl, sym, ap, ◌∙◌, subst, arith}
use Rattle.poolsteps.specs.Views.{the_lane}
use Rattle.shardpool.specs.Tokens.{PoolOf, LaneOf}
use Rattle.seatcalls.specs.Left.{held_after}
use Rattle.shardpool.specs.Lanes.{Owns, SameLane, refs}
use Rattle.shardpool.specs.Closings.{AreLanes}
use Rattle.shardpool.specs.Opened.{AreFirstLanes}

-- each is a lane of the pool and has no reference
abbrev pub AreFresh : PoolOf → List LaneOf → Type 0
AreFresh pool lanes = (at : ℕ) (lane : LaneOf) → slice_get lanes at ≡ Some lane → Owns pool lane × (refs lane ≡ 0)

pub fresh-first : {pool : PoolOf} {lanes : List LaneOf} → AreFirstLanes pool lanes → AreFresh pool lanes
fresh-first first at lane is =
    let of = first.each at lane is in (of.owned, ap (λ book. held_after (the_lane book).mine 0) of.book)

pub fresh-head : {pool : PoolOf} (lane : LaneOf) (lanes : List LaneOf) → AreFresh pool (lane ∷ lanes) → Owns pool lane × (refs lane ≡ 0)
fresh-head lane lanes fresh = fresh 0 lane refl

pub fresh-tail : {pool : PoolOf} (lane : LaneOf) (lanes : List LaneOf) → AreFresh pool (lane ∷ lanes) → AreFresh pool lanes
fresh-tail lane lanes fresh at other is = fresh (suc at) other is

-- what comes first of them, if anything does, is a lane of the pool
pub fresh-next : {pool : PoolOf} (first : Option LaneOf) (rest : List LaneOf) → AreFresh pool (option_to_list first ++ rest) → IfSome first (Owns pool)
fresh-next None rest fresh = tt
fresh-next (Some lane) rest fresh = (fresh-head lane rest fresh).0

-- each is a lane of the pool, and they are numbered from this number on
abbrev AreNumbered : PoolOf → ℕ → List LaneOf → Type 0
AreNumbered pool from lanes = (at : ℕ) (lane : LaneOf) → slice_get lanes at ≡ Some lane → Owns pool lane × (lane.number ≡ from + at)

numbered-tail : (pool : PoolOf) (from : ℕ) (lane : LaneOf) (lanes : List LaneOf) → AreNumbered pool from (lane ∷ lanes) → AreNumbered pool (suc from) lanes
numbered-tail pool from lane lanes are at other is =
    let nth = (are (suc at) other is).1 in ((are (suc at) other is).0, omega (arith, nth))

numbered-stays : (pool : PoolOf) (from : ℕ) (rest : List LaneOf) (old new : LaneOf) → SameLane old new → AreNumbered pool from (rest ++ old ∷ [])
    → AreNumbered pool from (rest ++ new ∷ [])
numbered-stays pool from [] old new same are zero lane is =
    let here : new ≡ lane = cc is in
    let was = are 0 old refl in
    subst (λ (l : LaneOf). Owns pool l × (l.number ≡ from + 0)) here ((same.0 ∙ was.0.0, same.1 ∙ was.0.1, same.3 ∙ was.0.2), same.2 ∙ was.1)
numbered-stays pool from [] old new same are (suc at) lane is = absurd (cc is)
numbered-stays pool from (first ∷ rest) old new same are zero lane is = are zero lane is
numbered-stays pool from (first ∷ rest) old new same are (suc at) lane is =
    let later = numbered-stays pool (suc from) rest old new same (numbered-tail pool from first (rest ++ old ∷ []) are) at lane is in
    let nth = later.1 in (later.0, omega (arith, nth))

as-long : (rest : List LaneOf) (old new : LaneOf) → length (rest ++ new ∷ []) ≡ length (rest ++ old ∷ [])
as-long [] old new = refl
as-long (first ∷ rest) old new = ap (λ (n : ℕ). suc n) (as-long rest old new)

lane-at : (lanes : List LaneOf) (number : ℕ) → number < length lanes → (lane : LaneOf) × (slice_get lanes number ≡ Some lane)
lane-at [] number low = absurd (omega (arith, low))
lane-at (lane ∷ lanes) zero low = (lane, refl)
lane-at (lane ∷ lanes) (suc number) low = lane-at lanes number (omega (arith, low))

numbered-are-all : (pool : PoolOf) (lanes : List LaneOf) → pool.shape.guests ≡ 0 → length lanes ≡ pool.shape.lanes → AreNumbered pool 0 lanes → AreLanes pool lanes
numbered-are-all pool lanes alone count are = record {
  alone = alone;
  count = count;
  owned = λ at lane is. (are at lane is).0;
  all = λ number low.
      let there = lane-at lanes number (subst (λ (n : ℕ). number < n) (sym count) low) in
      let nth = (are number there.0 there.1).1 in
      (number, there.0, there.1, omega (arith, nth));
}

lane-last : (rest : List LaneOf) (last : LaneOf) → (at : ℕ) × (slice_get (rest ++ last ∷ []) at ≡ Some last)
lane-last [] last = (0, refl)
lane-last (first ∷ rest) last = let later = lane-last rest last in (suc later.0, later.1)

-- the last of the lanes is one of the pool
pub last-owned : {pool : PoolOf} (rest : List LaneOf) (last : LaneOf) → AreFirstLanes pool (rest ++ last ∷ []) → Owns pool last
last-owned rest last first = let here = lane-last rest last in (first.each here.0 last here.1).owned

numbered-first : {pool : PoolOf} {lanes : List LaneOf} → AreFirstLanes pool lanes → AreNumbered pool 0 lanes
numbered-first first at lane is =
    let of = first.each at lane is in
    let nth = of.number_is in (of.owned, omega (arith, nth))

-- where the last lane did something they are still all lanes
pub last-stays : {pool : PoolOf} (rest : List LaneOf) (old new : LaneOf) → pool.shape.guests ≡ 0 → AreFirstLanes pool (rest ++ old ∷ []) → SameLane old new
    → AreLanes pool (rest ++ new ∷ [])
last-stays {pool = pool} rest old new alone first same =
    numbered-are-all pool (rest ++ new ∷ []) alone (as-long rest old new ∙ first.count)
    (numbered-stays pool 0 rest old new same (numbered-first first))
