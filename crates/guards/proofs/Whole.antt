-- Rows of lanes and guests with every number are whole.
use Rattle.std.proofs.Common.{◌≡◌, ℕ, ◌+◌, ◌<◌, ◌≤◌, List, length, slice_get, Some, sym, ap, ◌∙◌, subst, arith}
use Rattle.keybits.specs.declared.shape.Shape.{Shape}
use Rattle.keybits.specs.Shapes.{callers}
use Rattle.seatcalls.specs.Visitors.{GuestOf}
use Rattle.shardpool.specs.Tokens.{PoolOf, LaneOf, GuestsOf}
use Rattle.shardpool.specs.Closings.{AreAllLanes, AreGuests}
use Rattle.guards.specs.Rows.{HasLane, HasGuest, AreLanesOf, AreGuestsOf, IsDealerOf}

-- a row of the pool's lanes with each number, as long as they are many, is all of them
pub all-lanes : (pool : PoolOf) (z : Shape) (lanes row : List LaneOf) → z ≡ pool.shape → row ≡ lanes → AreLanesOf pool lanes
    → (length row ≡ z.lanes) × ((number : ℕ) → number < z.lanes → HasLane row number) → AreAllLanes pool lanes
all-lanes pool z lanes row shape same of has =
    let wide = ap (λ (s : Shape). s.lanes) shape in
    record {
      count = ap length (sym same) ∙ (has.0 ∙ wide);
      owned = of;
      all = λ number low. subst (λ (r : List LaneOf). HasLane r number) same (has.1 number (omega (arith, low, wide)));
    }

-- where one is missing, it isn't
pub no-lane-missing : (pool : PoolOf) (z : Shape) (lanes row : List LaneOf) → z ≡ pool.shape → row ≡ lanes → AreAllLanes pool lanes
    → (length row ≡ z.lanes → (number : ℕ) × (number < z.lanes) × (HasLane row number → ⊥)) → ⊥
no-lane-missing pool z lanes row shape same all missing =
    let wide = ap (λ (s : Shape). s.lanes) shape in
    let one = missing (ap length same ∙ (all.count ∙ sym wide)) in
    let low = one.1 in
    one.2 (subst (λ (r : List LaneOf). HasLane r one.0) (sym same) (all.all one.0 (omega (arith, low, wide))))

-- how the numbers of a pool's guests stand, of which so many are left
numbers : (pool : PoolOf) (z : Shape) (undealt : GuestsOf) (left : ℕ) → z ≡ pool.shape → IsDealerOf pool undealt → undealt.next + left ≡ callers undealt.shape
    → (z.lanes ≡ pool.shape.lanes) × (undealt.next + left ≡ z.lanes + z.guests)
numbers pool z undealt left shape dealer sum = (ap (λ (s : Shape). s.lanes) shape, sum ∙ ap callers (dealer.1 ∙ sym shape))

-- a row of the pool's guests with each number that was dealt, as long as they are many, is all of these
pub all-guests : (pool : PoolOf) (z : Shape) (undealt : GuestsOf) (dealt row : List GuestOf) (left : ℕ) → z ≡ pool.shape → IsDealerOf pool undealt → row ≡ dealt
    → undealt.next + left ≡ callers undealt.shape → AreGuestsOf pool dealt
    → (length row + left ≡ z.guests) × ((number : ℕ) → z.lanes ≤ number → number + left < z.lanes + z.guests → HasGuest row number) → AreGuests pool undealt dealt
all-guests pool z undealt dealt row left shape dealer same sum of has =
    let known = numbers pool z undealt left shape dealer sum in
    let wide = known.0 in
    let whole = known.1 in
    let long = has.0 in
    let as_long = ap length same in
    record {
      rest = dealer;
      count = omega (arith, wide, whole, long, as_long);
      owned = of;
      all = λ number high low. subst (λ (r : List GuestOf). HasGuest r number) same (has.1 number (omega (arith, high, wide)) (omega (arith, low, whole)));
    }

-- where one is missing, it isn't
pub no-guest-missing : (pool : PoolOf) (z : Shape) (undealt : GuestsOf) (dealt row : List GuestOf) (left : ℕ) → z ≡ pool.shape → IsDealerOf pool undealt → row ≡ dealt
    → undealt.next + left ≡ callers undealt.shape → AreGuests pool undealt dealt
    → (length row + left ≡ z.guests → (number : ℕ) × (z.lanes ≤ number) × (number + left < z.lanes + z.guests) × (HasGuest row number → ⊥)) → ⊥
no-guest-missing pool z undealt dealt row left shape dealer same sum all missing =
    let known = numbers pool z undealt left shape dealer sum in
    let wide = known.0 in
    let whole = known.1 in
    let as_long = ap length same in
    let count = all.count in
    let one = missing (omega (arith, wide, whole, count, as_long)) in
    let high = one.1 in
    let low = one.2 in
    one.3 (subst (λ (r : List GuestOf). HasGuest r one.0) (sym same) (all.all one.0 (omega (arith, high, wide)) (omega (arith, low, whole))))
