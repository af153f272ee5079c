-- The laws of shares: which acts and moves keep Share, and what they ask.
use Rattle.poolsteps.specs.Spot.{Spot}
use Rattle.std.specs.Prelude.{◌≡◌, ◌≢◌, ◌⊎◌, ℕ, ◌<◌, ◌≤◌, Bool, true, List, [], ◌∷◌, ◌++◌, length, Option, Some, None}
use mathlib.Core.Option as maybe
use Rattle.keybits.specs.declared.shape.Shape.{Shape}
use Rattle.keybits.specs.Shapes.{callers, IsShape, is_place}
use Rattle.keybits.specs.Keys.{place_of}
use Rattle.seqpool.specs.declared.act.Act.{Act}
use Rattle.seqpool.specs.declared.act.Act.TheVariants as acts
use Rattle.seqpool.specs.Pool.{has, is_published, references_in, lane_of, Allowed, pool_after, IsLegal}
use Rattle.seqpool.specs.Histories.{acts_of}
use Rattle.poolsteps.specs.Share.{Share}
use Rattle.poolsteps.specs.declared.view.Stored.{Stored}
use Rattle.poolsteps.specs.declared.view.Status.{Status}
use Rattle.poolsteps.specs.declared.view.Status.TheVariants.{Untouched, Emptied, InHand, Whole}
use Rattle.poolsteps.specs.Shares.{Slots, IsShareOf, at_home, IsEmpty, Stock, Shared, first_stock, reclaimer, room_of, MayHave, HasAll, IsKept, moved, restocked, at_rest, after_home, after_collect, with_slot}

-- at the start every slot of the pool is empty
abbrev pub FirstShareLaw : {T : Type 0} → (T → List ℕ) → (T → ℕ) → (ℕ → Spot) → Type 0
FirstShareLaw {T} content room spots = (z : Shape) (slots : Slots T) → IsShape z
    → ((place lane : ℕ) → is_place z place ≡ true → lane < (callers z) → IsEmpty content room spots slots place lane)
    → Shared content room spots z [] [] slots first_stock

-- a get or a clear, whatever its reply, or a release: where it is of the lane's last reference, the lane left its own slot alone
abbrev pub IsQuiet : Shape → List Act → Stock → Act → Type 0
IsQuiet z history q (acts.Publish lane key content with_ref) = ⊥
IsQuiet z history q (acts.Get lane key reply) = Unit {0}
IsQuiet z history q (acts.Release lane key) =
    q.status lane (place_of key) lane ≢ Untouched → 1 < references_in (pool_after z history (place_of key)).phase lane
IsQuiet z history q (acts.Clear lane key reply) = Unit {0}
IsQuiet z history q (acts.Reclaim lane key) = ⊥
IsQuiet z history q (acts.Home lane place) = ⊥
IsQuiet z history q (acts.Collect lane places) = ⊥

abbrev pub ActsShareLaw : {T : Type 0} → (T → List ℕ) → (T → ℕ) → (ℕ → Spot) → Type 0
ActsShareLaw {T} content room spots = (z : Shape) (history : List Act) (kept : List ℕ) (slots : Slots T) (q : Stock) (act : Act)
    → length kept ≡ length history → IsLegal z history → Shared content room spots z history kept slots q → lane_of act < (callers z)
    → Allowed z (pool_after z history) act → IsQuiet z history q act
    → Shared content room spots z (history ++ act ∷ []) (kept ++ 0 ∷ []) slots q

-- the cell is the one of the place, or a new one, of which the lane has every share in its hands
abbrev pub MayRestock : Shape → Stock → ℕ → ℕ → Stored → Type 0
MayRestock z q lane place c = (c ≡ q.stored place)
    ⊎ ((number : ℕ) → number < (callers z) → (q.status lane place number ≡ Emptied) ⊎ (q.status lane place number ≡ InHand))

-- a publish of the cell's content: every slot of the place but perhaps the lane's own, where the lane gets a reference, is untouched
abbrev pub PublishShareLaw : {T : Type 0} → (T → List ℕ) → (T → ℕ) → (ℕ → Spot) → Type 0
PublishShareLaw {T} content room spots = (z : Shape) (history : List Act) (kept : List ℕ) (slots : Slots T) (q : Stock) (lane key : ℕ)
    (c : Stored) (with_ref : Bool)
    → length kept ≡ length history → IsLegal z history → Shared content room spots z history kept slots q → lane < (callers z)
    → Allowed z (pool_after z history) (acts.Publish lane key c.content with_ref)
    → MayRestock z q lane (place_of key) c
    → ((number : ℕ) → number < (callers z) → q.status lane (place_of key) number ≢ Untouched → (number ≡ lane) × (with_ref ≡ true))
    → Shared content room spots z (history ++ acts.Publish lane key c.content with_ref ∷ []) (kept ++ c.room
    ∷ []) slots (restocked q lane (place_of key) c)

-- a reclaim: the lane knows the cell of its place, whose room is the place's
abbrev pub ReclaimShareLaw : {T : Type 0} → (T → List ℕ) → (T → ℕ) → (ℕ → Spot) → Type 0
ReclaimShareLaw {T} content room spots = (z : Shape) (history : List Act) (kept : List ℕ) (slots : Slots T) (q : Stock) (lane key : ℕ)
    → length kept ≡ length history → IsLegal z history → Shared content room spots z history kept slots q → lane < (callers z)
    → Allowed z (pool_after z history) (acts.Reclaim lane key)
    → ((q.stored (place_of key)).room ≡ room_of history kept (place_of key))
    × ((number : ℕ) → number < (callers z) → (l : ℕ) → l < (callers z) → q.status l (place_of key) number ≡ Untouched)
    × Shared content room spots z (history ++ acts.Reclaim lane key ∷ []) (kept ++ 0
    ∷ []) slots (restocked q lane (place_of key) (q.stored (place_of key)))

-- a place is returned at rest, its cell empty and with at least the place's room
abbrev pub HomeShareLaw : {T : Type 0} → (T → List ℕ) → (T → ℕ) → (ℕ → Spot) → Type 0
HomeShareLaw {T} content room spots = (z : Shape) (history : List Act) (kept : List ℕ) (slots : Slots T) (q : Stock) (lane place : ℕ)
    → length kept ≡ length history → Shared content room spots z history kept slots q → lane < (callers z)
    → Allowed z (pool_after z history) (acts.Home lane place)
    → ((number : ℕ) → number < (callers z) → q.status lane place number ≡ at_rest place number)
    → ((q.stored place).content ≡ []) → (room_of history kept place ≤ (q.stored place).room)
    → Shared content room spots z (history ++ acts.Home lane place ∷ []) (kept ++ 0 ∷ []) slots (after_home q lane place)

-- places are collected at rest, their cells empty and with at least the places' rooms
abbrev pub CollectShareLaw : {T : Type 0} → (T → List ℕ) → (T → ℕ) → (ℕ → Spot) → Type 0
CollectShareLaw {T} content room spots = (z : Shape) (history : List Act) (kept : List ℕ) (slots : Slots T) (q : Stock) (lane : ℕ)
    (places : List ℕ)
    → length kept ≡ length history → Shared content room spots z history kept slots q → lane < (callers z)
    → Allowed z (pool_after z history) (acts.Collect lane places)
    → ((place : ℕ) → has places place ≡ true → ((q.stored place).content ≡ []) × (room_of history kept place ≤ (q.stored place).room))
    × Shared content room spots z (history ++ acts.Collect lane places ∷ []) (kept ++ 0 ∷ []) slots (after_collect q lane places)

-- what a slot has after a move that leaves it so: the lane's share of the cell, nothing, or the whole cell; while it is in hand it isn't there
abbrev pub Leaves : {T : Type 0} (content : T → List ℕ) (room : T → ℕ) (spots : ℕ → Spot) → ℕ → Shape → ℕ → Stored → Status
    → maybe.Option (maybe.Option (Option (Share T))) → Type 0
Leaves {T} content room spots place z number c Untouched value = (share : Share T) × (value ≡ at_home (Some share))
    × IsShareOf content room spots place c number (callers z) share
Leaves content room spots place z number c Emptied value = value ≡ at_home None
Leaves content room spots place z number c InHand value = Unit {0}
Leaves {T} content room spots place z number c Whole value = (share : Share T) × (value ≡ at_home (Some share))
    × IsShareOf content room spots place c 0 1 share

-- the cell of the place after a move: the one that it had, or a new one, where all shares are with the lane and no other slot of it has any
abbrev pub MayMove : Shape → List Act → Stock → ℕ → ℕ → ℕ → Stored → Type 0
MayMove z history q lane place number c = (c ≡ q.stored place)
    ⊎ (HasAll (reclaimer history place) lane (pool_after z history place).phase
    × ((k : ℕ) → k < (callers z) → k ≢ number → (q.status lane place k ≡ Emptied) ⊎ (q.status lane place k ≡ InHand)))

-- a lane that may have a share moves it
abbrev pub MoveLaw : {T : Type 0} → (T → List ℕ) → (T → ℕ) → (ℕ → Spot) → Type 0
MoveLaw {T} content room spots = (z : Shape) (history : List Act) (kept : List ℕ) (slots : Slots T) (q : Stock) (lane place number : ℕ)
    (status : Status) (c : Stored)
    (value : maybe.Option (maybe.Option (Option (Share T))))
    → Shared content room spots z history kept slots q → lane < (callers z) → number < (callers z)
    → MayHave (reclaimer history place) lane number (pool_after z history place).phase
    → MayMove z history q lane place number c → Leaves content room spots place z number c status value
    → Shared content room spots z history kept (with_slot slots place number value) (moved q lane place number status c)

-- what a lane may have stays while others act, with whether the place is published, its room, and what is known of its cell
abbrev pub RightsLaw : Type 0
RightsLaw = (z : Shape) (history more : List Act) (kept kept_more : List ℕ) (lane place number : ℕ) → length kept ≡ length history
    → length kept_more ≡ length more
    → IsLegal z (history ++ more) → acts_of lane more ≡ []
    → MayHave (reclaimer history place) lane number (pool_after z history place).phase
    → MayHave (reclaimer (history ++ more) place) lane number (pool_after z (history ++ more) place).phase
    × (HasAll (reclaimer history place) lane (pool_after z history place).phase
    → HasAll (reclaimer (history ++ more) place) lane (pool_after z (history ++ more) place).phase)
    × (is_published (pool_after z (history ++ more) place).phase ≡ is_published (pool_after z history place).phase)
    × (room_of (history ++ more) (kept ++ kept_more) place ≡ room_of history kept place)
    × ((c : Stored) → IsKept c (room_of history kept place) (pool_after z history place).phase
    → IsKept c (room_of (history ++ more) (kept ++ kept_more) place) (pool_after z (history ++ more) place).phase)
