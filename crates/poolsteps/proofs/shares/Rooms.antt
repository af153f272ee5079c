-- Who reclaimed the places last, and their rooms, after a longer history.
use Rattle.std.proofs.Common.{◌≡◌, ℕ, List, [], ◌∷◌, ◌++◌, length, refl, arith}
use Rattle.seqpool.specs.declared.act.Act.{Act}
use Rattle.poolsteps.specs.Shares.{reclaimer_after, reclaimers_after, room_after, rooms_after}

-- one act more
pub reclaimers-behind : (reclaimers : ℕ → ℕ) (history : List Act) (act : Act)
    → reclaimers_after reclaimers (history ++ act ∷ []) ≡ reclaimer_after act (reclaimers_after reclaimers history)
reclaimers-behind reclaimers [] act = refl
reclaimers-behind reclaimers (first ∷ history) act = reclaimers-behind (reclaimer_after first reclaimers) history act

pub rooms-behind : (rooms : ℕ → ℕ) (history : List Act) (kept : List ℕ) (act : Act) (room : ℕ) → length kept ≡ length history
    → rooms_after rooms (history ++ act ∷ []) (kept ++ room ∷ []) ≡ room_after act room (rooms_after rooms history kept)
rooms-behind rooms [] [] act room same = refl
rooms-behind rooms [] (one ∷ kept) act room same = absurd (omega arith)
rooms-behind rooms (first ∷ history) [] act room same = absurd (omega arith)
rooms-behind rooms (first ∷ history) (one ∷ kept) act room same = rooms-behind (room_after first one rooms) history kept act room (omega arith)

-- a history more
pub reclaimers-append : (reclaimers : ℕ → ℕ) (history more : List Act)
    → reclaimers_after reclaimers (history ++ more) ≡ reclaimers_after (reclaimers_after reclaimers history) more
reclaimers-append reclaimers [] more = refl
reclaimers-append reclaimers (first ∷ history) more = reclaimers-append (reclaimer_after first reclaimers) history more

pub rooms-append : (rooms : ℕ → ℕ) (history more : List Act) (kept kept_more : List ℕ) → length kept ≡ length history
    → rooms_after rooms (history ++ more) (kept ++ kept_more) ≡ rooms_after (rooms_after rooms history kept) more kept_more
rooms-append rooms [] more [] kept_more same = refl
rooms-append rooms [] more (one ∷ kept) kept_more same = absurd (omega arith)
rooms-append rooms (first ∷ history) more [] kept_more same = absurd (omega arith)
rooms-append rooms (first ∷ history) more (one ∷ kept) kept_more same = rooms-append (room_after first one rooms) history more kept kept_more (omega arith)
