-- What all lanes of a pool keep, when it is closed, and its last history.
use Rattle.std.proofs.lemmas.Bool.{cases_lt}
use Rattle.std.proofs.Common.{◌≡◌, ◌≢◌, ⊎_elim, ℕ, ◌<◌, ◌≤◌, true, false, List, length, Some, sym, ap, ◌∙◌, subst, arith, slice_get}
use Rattle.std.proofs.lemmas.Option.{slice_get_cases, slice_get_within}
use mathlib.Core.List.{IsPrefix}
use denote.RawPtr.{Ptr}
use Rattle.atomic_table.specs.Seated.{TableId}
use Rattle.keybits.specs.declared.shape.Shape.{Shape}
use Rattle.keybits.specs.Places.{shard_of}
use Rattle.keybits.specs.Shapes.{is_place, callers}
use Rattle.freelists.specs.Queues.{AreFree}
use Rattle.seqpool.specs.declared.act.Act.{Act}
use Rattle.seqpool.specs.Pool.{Phase, with, published, references_in, is_marked, pool_after}
use Rattle.seqpool.specs.Histories.{acts_of}
use Rattle.steplaws.specs.declared.pending.Pending.TheVariants.{Nothing}
use Rattle.steplaws.specs.Facts.{Words, Rule, moment}
use Rattle.steplaws.proofs.Counts.{quiet-law}
use Rattle.poolsteps.specs.Owners.{ArePublishedByOwners}
use Rattle.poolsteps.specs.Views.{the_lane}
use Rattle.poolsteps.specs.Rule.{World, IsRecord}
use Rattle.shardpool.specs.declared.pool.LaneState.{LaneState}
use Rattle.shardpool.specs.Tokens.{LaneOf}
use Rattle.seatcalls.specs.Left.{left_with}
use Rattle.shardpool.specs.LaneStates.{Fits}
use Rattle.shardpool.specs.Closings.{AreAllLanes, IsLast, IsLastHistory, AreLast}
use Rattle.seatcalls.proofs.parts.OtherShards.{alone-at-end}
use Rattle.shardpool.proofs.frame.LaneFacts.{lane_of}
use Rattle.shardpool.proofs.at_close.GoneGuests.{AreGone}
use Rattle.shardpool.proofs.at_close.LaneParts.{own-mine, own-idle, lane-last}

-- a lane and its state, beside the world in which the table of its pool ended
pub record IsEnded {T : Type 0} (content : T → List ℕ) (room : T → ℕ) (z : Shape) (w : World) (lane : LaneOf) (s : LaneState T) : Type 0 where
  pub lane_is : lane ≡ lane_of lane.table lane.book s
  pub fits : Fits content room z lane.book s
  pub free : AreFree s.free
  pub seen : IsPrefix lane.book.seen w.history
  pub record_is : IsRecord z w (the_lane lane.book)

-- an entry below the length of a list
pub entry-at : {A : Type 0} → (xs : List A) (i : ℕ) → i < length xs → (x : A) × (slice_get xs i ≡ Some x)
entry-at xs i low = ⊎_elim (λ there. (there.0, there.2)) (λ past. let high = past.0 in absurd (omega (arith, high))) (slice_get_cases xs i).1

-- a marked key has the references of its phase
marked-held : (phase : Phase) (content : List ℕ) (references : ℕ → ℕ) (lane : ℕ) → phase ≡ published content references true → 0 < references_in phase lane → 0 < references lane
marked-held phase content references lane is some = subst (λ (p : Phase). 0 < references_in p lane) is some

module _ {T : Type 0} {content : T → List ℕ} {room : T → ℕ} {z : Shape} {w : World} {words : Words} (rule : Rule z (moment words w.history w.lanes))
    (table : TableId) (directory : Ptr) (lanes : List LaneOf) (states : List (LaneState T)) (are : AreAllLanes (record { table = table; directory = directory; shape = z }) lanes)
    (wide : length states ≡ length lanes)
    (each : (index : ℕ) (lane : LaneOf) (s : LaneState T) → slice_get lanes index ≡ Some lane → slice_get states index ≡ Some s → IsEnded content room z w lane s)
    (gone : AreGone z w) where
  -- the state of a lane
  state-of : (index : ℕ) (lane : LaneOf) → slice_get lanes index ≡ Some lane → (s : LaneState T) × IsEnded content room z w lane s
  state-of index lane at =
      let low = slice_get_within lanes index lane at in
      let there = entry-at states index (omega (arith, low, wide)) in
      (there.0, each index lane there.0 at there.1)

  -- what holds by each lane holds of each number
  by-lanes : (P : ℕ → Type 0) → ((lane : LaneOf) (s : LaneState T) → IsEnded content room z w lane s → P s.number) → (number : ℕ) → number < z.lanes → P number
  by-lanes P each_lane number low =
      let there = are.all number low in
      let lane : LaneOf = there.1 in
      let state = state-of there.0 lane there.2 in
      subst P (sym (ap (λ (x : LaneOf). x.number) state.1.lane_is) ∙ there.3) (each_lane lane state.0 state.1)

  -- nobody has anything under way
  all-idle : (number : ℕ) → number < callers z → w.lanes.under number ≡ Nothing
  all-idle number low = ⊎_elim
      (λ (lane : number < z.lanes). by-lanes (λ n. w.lanes.under n ≡ Nothing) (λ lane s e. own-idle rule lane.table e.fits e.seen e.record_is) number lane)
      (λ (guest : z.lanes ≤ number). (gone number guest low).idle)
      (cases_lt number z.lanes)

  -- a place that is with a lane is of the lane's shard
  alone-last : (place owner : ℕ) → is_place z place ≡ true → (pool_after z w.history place).phase ≡ with owner → shard_of place ≡ owner
  alone-last = alone-at-end z w.history rule.legal (λ l place low inside other. ⊎_elim
      (λ (lane : l < z.lanes). by-lanes (λ n. (p : ℕ) → is_place z p ≡ true → shard_of p ≢ n → left_with z p (acts_of n w.history) false ≡ false)
      (λ lane s e p within off. subst (λ (mine : List Act). left_with z p mine false ≡ false) (own-mine rule lane.table e.fits e.seen e.record_is) (e.fits.seat.alone p within off))
      l lane place inside other)
      (λ (guest : z.lanes ≤ l). (gone l guest low).left place inside)
      (cases_lt l z.lanes))

  -- what the lanes keep, the last words and the history tell of each other
  pub last-are : AreLast z w.history lanes states words
  last-are = record {
    legal = rule.legal;
    state = rule.state;
    homes = rule.home.stacks;
    alone = alone-last;
    bits = λ shard low row. rule.home.bits shard row low;
    count = (are.count, wide ∙ are.count);
    all = are.all;
    each = λ index lane s at_lane at_shelf.
        let e = each index lane s at_lane at_shelf in
        subst (λ (x : LaneOf). IsLast z w.history words x s) (sym e.lane_is) (lane-last rule lane.table e.fits e.seen e.record_is e.free);
  }

  -- and the history is the last
  pub last-history : ArePublishedByOwners w.history → IsLastHistory (record { table = table; directory = directory; shape = z }) lanes w.history
  last-history owners = record {
    legal = rule.legal;
    owners = owners;
    begins = λ index lane at. (state-of index lane at).1.seen;
    own = λ index lane at.
        let e = (state-of index lane at).1 in
        own-mine rule lane.table e.fits e.seen e.record_is ∙ ap (λ (n : ℕ). acts_of n w.history) (sym (ap (λ (x : LaneOf). x.number) e.lane_is));
    held = λ place content references inside is.
        let some = quiet-law z (moment words w.history w.lanes) rule all-idle place inside (ap is_marked is) in
        ⊎_elim
        (λ (lane : some.0 < z.lanes). (some.0, lane, marked-held (pool_after z w.history place).phase content references some.0 is some.2))
        (λ (guest : z.lanes ≤ some.0). let none = (gone some.0 guest some.1).bare place inside in let more = some.2 in absurd (omega (arith, none, more)))
        (cases_lt some.0 z.lanes);
  }
