-- Share, place by place: what it says of one place, and from all places of the history with one act more.
use Rattle.poolsteps.specs.Spot.{Spot}
use Rattle.std.proofs.Common.{◌≡◌, ◌≢◌, ℕ, ◌<◌, true, List, [], ◌∷◌, ◌++◌, length, sym, subst}
use Rattle.keybits.specs.declared.shape.Shape.{Shape}
use Rattle.keybits.specs.Shapes.{callers, is_place}
use Rattle.seqpool.specs.declared.act.Act.{Act}
use Rattle.seqpool.specs.Pool.{Phase, Pool, after, fresh, pool_after}
use Rattle.seqpool.proofs.Growth.{pool-snoc}
use Rattle.steplaws.specs.Facts.{is_home}
use Rattle.poolsteps.specs.declared.view.Stored.{Stored}
use Rattle.poolsteps.specs.declared.view.Status.{Status}
use Rattle.poolsteps.specs.declared.view.Status.TheVariants.{Untouched, Emptied, Whole}
use Rattle.poolsteps.specs.Shares.{reclaimer_after, reclaimer, room_after, room_of, MayHave, HasAll, IsKept, Slots, Stock, HasShare, IsEmpty, StandsAs, Shared}
use Rattle.poolsteps.proofs.shares.Rooms.{reclaimers-behind, rooms-behind}

module _ {T : Type 0} (content : T → List ℕ) (room : T → ℕ) (spots : ℕ → Spot) (z : Shape) (slots : Slots T) where
  -- what Share says of a place of this phase, which this lane reclaimed last, and whose room is this,
  -- where each lane left the slot of each number so; the place's cell, and what each lane knows of it
  pub record SharedAt (place : ℕ) (phase : Phase) (last room_kept : ℕ) (status : ℕ → ℕ → Status) (stored : Stored) (knows : ℕ → Stored) : Type 0 where
    pub untouched : (number : ℕ) → is_place z place ≡ true → number < (callers z) → ((l : ℕ) → l < (callers z) → status l number ≡ Untouched)
        → StandsAs content room spots z slots place number stored (is_home phase)
    pub emptied : (l number : ℕ) → l < (callers z) → is_place z place ≡ true → number < (callers z) → status l number ≡ Emptied → IsEmpty content room spots slots place number
    pub whole : (l number : ℕ) → l < (callers z) → is_place z place ≡ true → number < (callers z) → status l number ≡ Whole
        → HasShare content room spots slots place number stored 0 1
    pub touched : (l number : ℕ) → l < (callers z) → number < (callers z) → status l number ≢ Untouched → MayHave last l number phase × (knows l ≡ stored)
    pub owned : (l : ℕ) → l < (callers z) → HasAll last l phase → knows l ≡ stored
    pub contents : IsKept stored room_kept phase

  -- the same of a place by its number, of this pool, these reclaimers, these rooms and this stock
  abbrev pub SharedOf : Pool → (ℕ → ℕ) → (ℕ → ℕ) → Stock → ℕ → Type 0
  SharedOf pool reclaimers rooms q place =
      SharedAt place (pool place).phase (reclaimers place) (rooms place) (λ l number. q.status l place number) (q.stored place) (λ l. q.knows l place)

  pub shared-each : (history : List Act) (kept : List ℕ) (q : Stock) → Shared content room spots z history kept slots q
      → (place : ℕ) → SharedOf (pool_after z history) (reclaimer history) (room_of history kept) q place
  shared-each history kept q s place = record {
    untouched = λ number inside below none. s.untouched place number inside below none;
    emptied = λ l number less inside below e. s.emptied l place number less inside below e;
    whole = λ l number less inside below e. s.whole l place number less inside below e;
    touched = λ l number less below n. s.touched l place number less below n;
    owned = λ l less a. s.owned l place less a;
    contents = s.contents place;
  }

  pub shared-from : (history : List Act) (kept : List ℕ) (q : Stock)
      → ((place : ℕ) → SharedOf (pool_after z history) (reclaimer history) (room_of history kept) q place)
      → Shared content room spots z history kept slots q
  shared-from history kept q each = record {
    untouched = λ place number inside below none. (each place).untouched number inside below none;
    emptied = λ l place number less inside below e. (each place).emptied l number less inside below e;
    whole = λ l place number less inside below e. (each place).whole l number less inside below e;
    touched = λ l place number less below n. (each place).touched l number less below n;
    owned = λ l place less a. (each place).owned l less a;
    contents = λ place. (each place).contents;
  }

  -- from what the act leaves of each place
  pub shared-behind : (history : List Act) (kept : List ℕ) (act : Act) (one : ℕ) (q : Stock) → length kept ≡ length history
      → ((place : ℕ) → SharedOf (after z act (pool_after z history)) (reclaimer_after act (reclaimer history)) (room_after act one (room_of history kept)) q place)
      → Shared content room spots z (history ++ act ∷ []) (kept ++ one ∷ []) slots q
  shared-behind history kept act one q same each = shared-from (history ++ act ∷ []) (kept ++ one ∷ []) q (λ place.
      let pools = pool-snoc z fresh history act in
      let reclaimers = reclaimers-behind (λ _. 0) history act in
      let rooms = rooms-behind (λ _. 0) history kept act one same in
      subst (λ (pool : Pool). SharedOf pool (reclaimer (history ++ act ∷ [])) (room_of (history ++ act ∷ []) (kept ++ one ∷ [])) q place) (sym pools)
      (subst (λ (f : ℕ → ℕ). SharedOf (after z act (pool_after z history)) f (room_of (history ++ act ∷ []) (kept ++ one ∷ [])) q place) (sym reclaimers)
      (subst (λ (f : ℕ → ℕ). SharedOf (after z act (pool_after z history)) (reclaimer_after act (reclaimer history)) f q place) (sym rooms) (each place))))
