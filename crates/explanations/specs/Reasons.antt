-- Why an act isn't allowed: what of it is outside of the shape, or what would have been allowed in its place.
use Rattle.std.specs.Prelude.{◌≡◌, ◌≢◌, ◌<◌, ◌≤◌, ◌⊎◌, ◌==◌, ◌+◌, ℕ, nat_lt, List, [], ◌++◌, length, take, count_by, fold, Contains, slice_get, if◌then◌else◌, Bool, true, false, not, Option, Some, None, IfSome, decimal, codes}
use Rattle.keybits.specs.declared.shape.Shape.{Shape}
use Rattle.keybits.specs.Keys.{key_number, place_of, tag_of}
use Rattle.keybits.specs.Places.{shard_of}
use Rattle.keybits.specs.Shapes.{is_place}
use Rattle.seqpool.specs.ActsText.{hex}
use Rattle.seqpool.specs.Pool.{Pool, Allowed, lane_of, pool_after}
use Rattle.seqpool.specs.Refusals.{Refused}
use Rattle.seqpool.specs.declared.act.Act.{Act}
use Rattle.seqpool.specs.declared.act.Act.TheVariants.{Publish, Get, Release, Clear, Reclaim, Home, Collect}
use Rattle.seqpool.specs.declared.fault.ApplyFault.{ApplyFault}
use Rattle.seqpool.specs.declared.fault.ApplyFault.TheVariants as faults
use Rattle.streams.specs.Shown.{cut_text}
use Rattle.explanations.specs.declared.reasons.Outside.{Outside}
use Rattle.explanations.specs.declared.reasons.Outside.TheVariants.{NoLane, OtherPool, NoPlace, OwnShard, CollectsNoPlace, OtherShard, Twice}
use Rattle.explanations.specs.declared.reasons.Due.{Due}
use Rattle.explanations.specs.declared.reasons.Due.TheVariants.{NextKey, Found, Missing, Cleared, HeldBy, Unmarked, General}

-- a key is outside of the shape: its tag is another than the shape's, or its place is none
abbrev pub IsKeyOutside : Shape → ℕ → Outside → Type 0
IsKeyOutside z key (OtherPool tag) = (tag ≡ z.tag) × (tag_of key ≢ z.tag)
IsKeyOutside z key NoPlace = is_place z (place_of key) ≡ false
IsKeyOutside z key reason = ⊥

-- a place can't be returned: it is none of the shape, or of the lane's own shard
abbrev pub IsPlaceOutside : Shape → ℕ → ℕ → Outside → Type 0
IsPlaceOutside z lane place NoPlace = is_place z place ≡ false
IsPlaceOutside z lane place OwnShard = shard_of place ≡ lane
IsPlaceOutside z lane place reason = ⊥

-- places can't be collected: one of them is none of the shape, or isn't of the lane's shard, or stands twice
abbrev pub IsCollectOutside : Shape → ℕ → List ℕ → Outside → Type 0
IsCollectOutside z lane places (CollectsNoPlace place) = Contains places place × (is_place z place ≡ false)
IsCollectOutside z lane places (OtherShard place) = Contains places place × (shard_of place ≢ lane)
IsCollectOutside z lane places (Twice place) = (index : ℕ) × (slice_get places index ≡ Some place) × Contains (take index places) place
IsCollectOutside z lane places reason = ⊥

-- an act is outside of the shape: its lane is none of so many, or its key is, or its place, or its places are
abbrev pub IsOutside : Shape → Act → Outside → Type 0
IsOutside z act (NoLane lanes) = (lanes ≡ z.lanes) × (z.lanes ≤ lane_of act)
IsOutside z (Publish lane key content with_ref) reason = IsKeyOutside z key reason
IsOutside z (Home lane place) reason = IsPlaceOutside z lane place reason
IsOutside z (Collect lane places) reason = IsCollectOutside z lane places reason
IsOutside z act reason = ⊥

-- each of some places is of the shape and of the lane's shard, and stands nowhere before
abbrev pub AreInside : Shape → ℕ → List ℕ → Type 0
AreInside z lane places = (index place : ℕ) → slice_get places index ≡ Some place
    → (is_place z place ≡ true) × (shard_of place ≡ lane) × (Contains (take index places) place → ⊥)

-- nothing of an act is outside of the shape
abbrev pub IsInside : Shape → Act → Type 0
IsInside z (Publish lane key content with_ref) = (lane < z.lanes) × (tag_of key ≡ z.tag) × (is_place z (place_of key) ≡ true)
IsInside z (Home lane place) = (lane < z.lanes) × (is_place z place ≡ true) × (shard_of place ≢ lane)
IsInside z (Collect lane places) = (lane < z.lanes) × AreInside z lane places
IsInside z act = lane_of act < z.lanes

-- ---- what a history says of a key

-- an act reclaims a key of this place
abbrev pub is_reclaim_of : ℕ → Act → Bool
is_reclaim_of place (Reclaim lane key) = place_of key == place
is_reclaim_of place act = false

-- how often a place was reclaimed
abbrev pub reclaims_of : List Act → ℕ → ℕ
reclaims_of history place = count_by (is_reclaim_of place) history

-- the next key of a place with this tag: of one generation more than the place was reclaimed, if a key has room for it
abbrev pub next_key : List Act → ℕ → ℕ → Option ℕ
next_key history tag place =
    if nat_lt (reclaims_of history place) 4294967295 then Some (key_number tag place (reclaims_of history place + 1)) else None

-- the content that a publish of the key has, or else what was found before
abbrev pub with_content : ℕ → Option (List ℕ) → Act → Option (List ℕ)
with_content key found (Publish lane other content with_ref) = if other == key then Some content else found
with_content key found act = found

-- the content of the last publish of a key
abbrev pub last_content : List Act → ℕ → Option (List ℕ)
last_content history key = fold (with_content key) None history

-- ---- what is due

-- the pool refuses an act
abbrev pub IsRefused : Shape → Pool → Act → Type 0
IsRefused z pool act = (fault : ApplyFault) × Refused z pool act fault

-- this is due, where the pool allows an act; where it refuses it, no more is known
abbrev pub IsDueIf : Shape → Pool → Act → Due → Due → Type 0
IsDueIf z pool act due found = ((found ≡ General) × IsRefused z pool act) ⊎ ((found ≡ due) × Allowed z pool act)

-- what would have been allowed in place of a publish of a key: one of the next key of its place; no more is known only where that is refused
abbrev pub IsPublishDue : Shape → List Act → Pool → ℕ → ℕ → Due → Type 0
IsPublishDue z history pool lane key (NextKey next) = (next_key history (tag_of key) (place_of key) ≡ Some next)
    × Allowed z pool (Publish lane next [] false)
IsPublishDue z history pool lane key General = IfSome (next_key history (tag_of key) (place_of key))
    (λ next. IsRefused z pool (Publish lane next [] false))
IsPublishDue z history pool lane key due = ⊥

-- in place of a get: one with this reply; no more is known only where one without a content is refused, and one with the last that was published
abbrev pub IsGetDue : Shape → List Act → Pool → ℕ → ℕ → Due → Type 0
IsGetDue z history pool lane key (Found content) = Allowed z pool (Get lane key (Some content))
IsGetDue z history pool lane key Missing = Allowed z pool (Get lane key None)
IsGetDue z history pool lane key General = IsRefused z pool (Get lane key None)
    × IfSome (last_content history key) (λ content. IsRefused z pool (Get lane key (Some content)))
IsGetDue z history pool lane key due = ⊥

-- in place of a clear with a reply: one with this reply; no more is known only where one with the other reply is refused
abbrev pub IsClearDue : Shape → Pool → ℕ → ℕ → Bool → Due → Type 0
IsClearDue z pool lane key wrong (Cleared reply) = Allowed z pool (Clear lane key reply)
IsClearDue z pool lane key wrong General = IsRefused z pool (Clear lane key (not wrong))
IsClearDue z pool lane key wrong due = ⊥

-- in place of a reclaim: a release of the key by this lane, or a clear of it; no more is known only where the clear is refused, and each lane's release
abbrev pub IsReclaimDue : Shape → Pool → ℕ → ℕ → Due → Type 0
IsReclaimDue z pool lane key (HeldBy other) = Allowed z pool (Release other key)
IsReclaimDue z pool lane key Unmarked = Allowed z pool (Clear lane key true)
IsReclaimDue z pool lane key General = IsRefused z pool (Clear lane key true)
    × ((other : ℕ) → other < z.lanes → IsRefused z pool (Release other key))
IsReclaimDue z pool lane key due = ⊥

-- what would have been allowed in an act's place, in the pool that is there behind a history
abbrev pub IsDue : Shape → List Act → Pool → Act → Due → Type 0
IsDue z history pool (Publish lane key content with_ref) due = IsPublishDue z history pool lane key due
IsDue z history pool (Get lane key reply) due = IsGetDue z history pool lane key due
IsDue z history pool (Clear lane key reply) due = IsClearDue z pool lane key reply due
IsDue z history pool (Reclaim lane key) due = IsReclaimDue z pool lane key due
IsDue z history pool act due = due ≡ General

-- ---- in words

abbrev pub outside_text : Outside → List ℕ
outside_text (NoLane lanes) = codes "the lane is none of the shape's, which are " ++ decimal lanes
outside_text (OtherPool tag) = codes "the key is of another pool: the shape's tag is " ++ decimal tag
outside_text NoPlace = codes "the place is none of the shape's"
outside_text OwnShard = codes "the place is of the lane's own shard"
outside_text (CollectsNoPlace place) = codes "place " ++ decimal place ++ codes " is none of the shape's"
outside_text (OtherShard place) = codes "place " ++ decimal place ++ codes " isn't of the lane's shard"
outside_text (Twice place) = codes "place " ++ decimal place ++ codes " stands twice"

-- why an act is refused, if no more is known
abbrev pub general_text : ApplyFault → List ℕ
general_text faults.NotWithLane = codes "the place isn't with the lane"
general_text faults.WrongGeneration = codes "the key isn't the next of its place"
general_text faults.WrongReply = codes "the reply isn't the pool's"
general_text faults.NotHeld = codes "the lane has no reference to the key"
general_text faults.StillHeld = codes "a lane still refers to the key"
general_text faults.NotMarked = codes "the key isn't published"
general_text faults.NotHome = codes "a place that is collected isn't returned"
general_text faults.Memory = codes "memory was refused"

-- that a get finds this content
abbrev pub found_text : List ℕ → List ℕ
found_text content = if length content == 0 then codes "the pool's reply is some -"
    else codes "the pool's reply is some " ++ cut_text (hex content)

-- what would have been allowed, in words
abbrev pub due_text : ApplyFault → Due → List ℕ
due_text fault (NextKey next) = codes "the next key of the place is " ++ decimal next
due_text fault (Found content) = found_text content
due_text fault Missing = codes "the pool's reply is none"
due_text fault (Cleared true) = codes "the pool's reply is true"
due_text fault (Cleared false) = codes "the pool's reply is false"
due_text fault (HeldBy lane) = codes "lane " ++ decimal lane ++ codes " still refers to the key"
due_text fault Unmarked = codes "the key isn't cleared"
due_text fault General = general_text fault

-- the text says what of an act is outside of the shape
pub record TellsOutside (z : Shape) (act : Act) (text : List ℕ) : Type 0 where
  pub outside : Outside
  pub is_outside : IsOutside z act outside
  pub is : text ≡ outside_text outside

-- the text says what would have been allowed behind a history in an act's place, of which nothing is outside of the shape
pub record TellsDue (z : Shape) (history : List Act) (act : Act) (fault : ApplyFault) (text : List ℕ) : Type 0 where
  pub inside : IsInside z act
  pub due : Due
  pub is_due : IsDue z history (pool_after z history) act due
  pub is : text ≡ due_text fault due

-- the text says why an act has this fault behind a history
abbrev pub TellsReason : Shape → List Act → Act → ApplyFault → List ℕ → Type 0
TellsReason z history act fault text = TellsOutside z act text ⊎ TellsDue z history act fault text
