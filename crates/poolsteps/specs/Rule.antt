-- What holds of a table between any two steps.
use Rattle.poolsteps.specs.Spot.{Spot as CellSpot}
use Rattle.keybits.specs.Shapes.{callers}
use Rattle.std.specs.Prelude.{◌≡◌, ℕ, ◌<◌, ◌≤◌, zero, suc, ◌+◌, List, [], ◌∷◌, length, Option}
use Rattle.std.specs.List.{All}
use mathlib.Core.Option as maybe
use mathlib.Core.Option.{some}
use mathlib.Core.List.{IsPrefix}
use lib.ListN.{get_elem?}
use Rattle.atomic_table.specs.Table.{State}
use Rattle.keybits.specs.declared.shape.Shape.{Shape}
use Rattle.seqpool.specs.declared.act.Act.{Act}
use Rattle.seqpool.specs.Histories.{acts_of}
use Rattle.steplaws.specs.Facts.{Lanes, moment, Rule}
use Rattle.poolsteps.specs.Share.{Share}
use Rattle.poolsteps.specs.Shares.{Stock, Shared}
use Rattle.poolsteps.specs.declared.view.LaneRecord.{LaneRecord}
use Rattle.poolsteps.specs.declared.view.Heard.{Heard}
use Rattle.poolsteps.specs.declared.view.View.{View}
use Rattle.poolsteps.specs.Layout.{word_count, words_in, slot_count, slots_in}
use Rattle.poolsteps.specs.Seats.{heard_of}
use Rattle.poolsteps.specs.Owners.{ArePublishedByOwners}
use Rattle.poolsteps.specs.Views.{first_record, pushed_in, status_of, known_of, In, HasRecord, times_among}

-- what the words, the slots and the views of a table tell of: a history, the rooms kept beside its acts, the lanes, and the shares
pub record World : Type 0 where
  pub history : List Act
  pub kept : List ℕ
  pub lanes : Lanes
  pub stock : Stock

-- what a lane's record says is so
pub record IsRecord (z : Shape) (w : World) (r : LaneRecord) : Type 0 where
  pub inside : r.lane < (callers z)
  -- of the lane's acts the history has just its own
  pub mine : r.mine ≡ acts_of r.lane w.history
  pub under : r.under ≡ w.lanes.under r.lane
  pub pushed : (shard : ℕ) → pushed_in r.pushed shard ≡ w.lanes.pushed shard r.lane
  pub chain : r.chain ≡ w.lanes.chain r.lane
  pub deeds : (place number : ℕ) → status_of r place number ≡ w.stock.status r.lane place number
  pub cells : (place : ℕ) → known_of r place ≡ w.stock.knows r.lane place

-- this is a beginning of the history, with the rooms beside it
pub record IsBeginning (w : World) (heard : Heard) : Type 0 where
  pub acts : IsPrefix heard.seen w.history
  pub rooms : IsPrefix heard.rooms w.kept
  pub paired : length heard.rooms ≡ length heard.seen

-- what a seat saw is a beginning of the history, with the rooms beside it
abbrev pub HasSeen : World → View → Type 0
HasSeen w v = IsBeginning w (heard_of v)

-- Prefix: what each seat saw, and what it was told of, is a beginning of the history; what it saw has just the lane's acts; each lane has one seat at most
pub record AreSeats (z : Shape) (w : World) (views : List View) : Type 0 where
  pub records : (r : LaneRecord) → HasRecord views r → IsRecord z w r
  pub seen : (seat : ℕ) (v : View) → get_elem? views seat ≡ some v → HasSeen w v
  pub told : (seat : ℕ) (v : View) → get_elem? views seat ≡ some v → All (IsBeginning w) v.told
  pub own : (seat : ℕ) (v : View) (r : LaneRecord) → get_elem? views seat ≡ some v → In r v.lanes → r.mine ≡ acts_of r.lane v.seen
  pub once : (lane : ℕ) → times_among lane views ≤ 1

-- the rule: an object's content and room are as its type has them
module _ {T : Type 0} (content : T → List ℕ) (room : T → ℕ) (spots : ℕ → CellSpot) where
  -- these words, slots and views tell of this world, and the rule holds
  pub record Stands (z : Shape) (w : World) (homes : List (maybe.Option (Option (Share T)))) (words : List ℕ) (views : List View) : Type 0
    where
      pub count : length words ≡ word_count z
      pub deep : length homes ≡ slot_count z
      pub paired : length w.kept ≡ length w.history
      pub rule : Rule z (moment (words_in z words) w.history w.lanes)
      pub owners : ArePublishedByOwners w.history
      pub shared : Shared content room spots z w.history w.kept (slots_in z homes) w.stock
      pub seats : AreSeats z w views

  -- what holds of a table between any two steps
  abbrev pub Kept : Shape → State (Option (Share T)) View → Type 0
  Kept z s = (w : World) × Stands z w s.homes s.words s.views

-- the records of so many lanes from this one on, before their first steps
abbrev pub first_records : ℕ → ℕ → List LaneRecord
first_records lane zero = []
first_records lane (suc more) = first_record lane ∷ first_records (lane + 1) more

-- the view of the first seat: it has all lanes
abbrev pub first_view : Shape → View
first_view z = record { lanes = first_records 0 (callers z); seen = []; rooms = []; told = []; steps = 0; looks = 0 }
