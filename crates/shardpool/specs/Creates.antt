-- What a create does with a lane.
use Rattle.std.specs.Prelude.{◌≡◌, ◌≢◌, ◌⊎◌, ℕ, zero, suc, None, ◌+◌, ◌<◌, ◌≤◌, List, [], ◌∷◌, ◌++◌, map, length}
use Rattle.keybits.specs.declared.place.Place.{Place}
use Rattle.keybits.specs.declared.step.Step.{Step}
use Rattle.keybits.specs.Places.{number_of}
use Rattle.keybits.specs.Shapes.{page_size}
use Rattle.keybits.specs.Keys.{place_of}
use Rattle.seqpool.specs.declared.act.Act.{Act}
use Rattle.seqpool.specs.declared.act.Act.TheVariants as acts
use Rattle.poolsteps.specs.Shares.{room_of}
use Rattle.steplaws.specs.Calls.{Call, next_step, AreSteps}
use Rattle.steplaws.specs.Calls.Call.{Creating}
use Rattle.poolsteps.specs.Views.{the_lane}
use Rattle.poolsteps.specs.Told.{IsIdle, Sees}
use Rattle.seatcalls.specs.Bounds.{most_create_steps, most_looks}
use Rattle.seatcalls.specs.Called.{caller_of, Make}
use Rattle.seatcalls.specs.Taken.{NoneHome, Collects, FollowsOut}
use Rattle.shardpool.specs.declared.create.CreateFault.{CreateFault}
use Rattle.shardpool.specs.declared.create.CreateFault.TheVariants.{Full, Memory}
use Rattle.shardpool.specs.Tokens.{LaneOf, FillingOf}
use Rattle.shardpool.specs.Lanes.{IsFilling, Made, SameLane, SeesOn, holds}
use Rattle.shardpool.specs.Places.{IsBlank}

-- the number of a fault: 21 where no place is free, and 22 for want of memory
abbrev pub create_fault_number : CreateFault → ℕ
create_fault_number Full = 21
create_fault_number Memory = 22

-- the call of a create, by what the lane has: its own list, its taken chain, and how many pages are opened
abbrev pub creating : LaneOf → Call
creating lane = Creating (map number_of lane.free.own) (the_lane lane.book).chain lane.pages.opened

-- the lane made one create, with these acts: its steps, each by the step relation, and nothing more; its references are as before
pub record Created (made : List Act) (old new : LaneOf) : Type 0 where
  pub goes : SeesOn made old new
  pub steps : List Step
  pub are : AreSteps (caller_of old.shape old.book) (creating old) [] steps
  pub all : next_step (caller_of old.shape old.book) (creating old) steps ≡ None
  pub make : Make old.shape (caller_of old.shape old.book) (creating old) steps made
  pub same : SameLane old new
  pub mine : (the_lane new.book).mine ≡ (the_lane old.book).mine ++ made
  pub held : (key : ℕ) → holds new key ≡ holds old key
  pub idle : IsIdle new.book
  pub stepped : new.book.steps ≡ old.book.steps + length steps
  pub few : length steps ≤ most_create_steps old.shape
  pub looked : new.book.looks ≤ old.book.looks + most_looks

-- the slots of a page of a shard, from this one on, so many
abbrev pub page_slots : ℕ → ℕ → ℕ → ℕ → List Place
page_slots shard page slot zero = []
page_slots shard page slot (suc more) = record { shard = shard; page = page; slot = slot } ∷ page_slots shard page (slot + 1) more

-- the place was the first of the own list
pub record FromList (place : ℕ) (made : List Act) (old new : LaneOf) : Type 0 where
  pub first : Place
  pub listed : old.free.own ≡ first ∷ new.free.own
  pub is : place ≡ number_of first
  pub none : made ≡ []
  pub chain : (the_lane new.book).chain ≡ (the_lane old.book).chain
  pub pages : new.pages ≡ old.pages

-- the own list was empty, and the place was the first of the taken chain
pub record FromChain (place : ℕ) (made : List Act) (old new : LaneOf) : Type 0 where
  pub listed : (old.free.own ≡ []) × (new.free.own ≡ [])
  pub chained : (the_lane old.book).chain ≡ place ∷ (the_lane new.book).chain
  pub none : made ≡ []
  pub pages : new.pages ≡ old.pages

-- nothing was free with the lane, and the place was the first of those that it then took
pub record FromStack (place : ℕ) (made : List Act) (old new : LaneOf) : Type 0 where
  pub listed : (old.free.own ≡ []) × (new.free.own ≡ [])
  pub chained : (the_lane old.book).chain ≡ []
  pub taken : made ≡ acts.Collect old.number (place ∷ (the_lane new.book).chain) ∷ []
  pub pages : new.pages ≡ old.pages

-- at a history between what the lane saw before and after nothing was free for it: its list and its chain were empty, and no place of its shard was home
abbrev pub NothingFree : LaneOf → LaneOf → Type 0
NothingFree old new = (old.free.own ≡ []) × ((the_lane old.book).chain ≡ []) × NoneHome old.shape old.number old.book new.book

-- nothing was free, and the place is slot 0 of the next page, whose other places are then on the own list
pub record FromPage (place : ℕ) (made : List Act) (old new : LaneOf) : Type 0 where
  pub nothing : NothingFree old new
  pub chained : (the_lane new.book).chain ≡ []
  pub none : made ≡ []
  pub unopened : old.pages.opened < old.shape.pages
  pub opened : new.pages ≡ record old.pages { opened = old.pages.opened + 1 }
  pub slots : (first : Place) × (place ≡ number_of first)
      × (first ∷ new.free.own ≡ page_slots old.number old.pages.opened 0 (page_size old.shape old.pages.opened))

-- which place a create hands out
abbrev pub HandsOut : ℕ → List Act → LaneOf → LaneOf → Type 0
HandsOut place made old new = FromList place made old new
    ⊎ (FromChain place made old new ⊎ (FromStack place made old new ⊎ FromPage place made old new))

-- the list, the chain and the pages are as before
abbrev pub SameFree : LaneOf → LaneOf → Type 0
SameFree old new = (new.free ≡ old.free) × ((the_lane new.book).chain ≡ (the_lane old.book).chain) × (new.pages ≡ old.pages)

-- a create that gave no place
pub record GivesNone (old new : LaneOf) : Type 0 where
  pub created : Created [] old new
  pub nothing : NothingFree old new
  pub same : SameFree old new

module _ {T : Type 0} (content : T → List ℕ) (room : T → ℕ) where
  -- a place of the lane is in nobody's hands, with this object: a filling, whose slots are emptied, and an empty object with at least the place's room
  pub record IsLoose (lane : LaneOf) (place : ℕ) (object : T) : Type 0 where
    pub filling : IsFilling lane place
    pub blank : IsBlank lane.shape lane.book place (room object)
    pub empty : content object ≡ []

  -- what a create gives: the key is the next of a place that was no filling before, and the object is empty, with at least the place's room
  pub record Gives (old new : LaneOf) (filling : FillingOf T) : Type 0 where
    pub acts_made : List Act
    pub created : Created acts_made old new
    pub hands_out : HandsOut (place_of filling.key) acts_made old new
    pub unfilled : IsFilling old (place_of filling.key) → ⊥
    pub made : Made new filling
    pub empty : content filling.object ≡ []
    pub roomy : room_of new.book.seen new.book.rooms (place_of filling.key) ≤ room filling.object

-- ---- the parts of a create

-- the first place of the own list is taken off it, with its object
abbrev pub Pops : {T : Type 0} → (T → List ℕ) → (T → ℕ) → LaneOf → LaneOf → ℕ → T → Type 0
Pops content room old new place object = (first : Place) × (place ≡ number_of first) × (old.free.own ≡ first ∷ new.free.own)
    × (new ≡ record old { free = record old.free { own = new.free.own } }) × IsLoose content room new place object

-- where nothing is free with the lane and a page is opened, TAKEs
pub record TakesReturned (old new : LaneOf) : Type 0 where
  pub none : ((the_lane old.book).chain ≢ []) ⊎ (old.pages.opened ≡ 0) → new ≡ old
  pub some : (the_lane old.book).chain ≡ [] → 0 < old.pages.opened
      → (found : ℕ) × Collects {S = Unit {0}} old.shape old.pages.opened found (old.book, []) (new.book, [])
      × (found ≡ 0 → new.free ≡ old.free)
  pub same : SameLane old new
  pub list : new.free.own ≡ old.free.own
  pub pages : new.pages ≡ old.pages

-- the first place of the taken chain is followed, and its object is taken out
pub record FollowsChain {T : Type 0} (content : T → List ℕ) (room : T → ℕ) (old new : LaneOf) (place : ℕ) (object : T) : Type 0 where
  pub chain : (the_lane old.book).chain ≡ place ∷ (the_lane new.book).chain
  pub follows : (link : ℕ) × FollowsOut {S = Unit {0}} old.shape place link (old.book, []) (new.book, [])
  pub same : SameLane old new
  pub list : new.free.own ≡ old.free.own
  pub pages : new.pages ≡ old.pages
  pub loose : IsLoose content room new place object

-- the next page is opened, and its places are the own list
abbrev pub OpensPage : LaneOf → LaneOf → Type 0
OpensPage old new = (old.pages.opened < old.shape.pages)
    × (new ≡ record old {
      free = record old.free { own = page_slots old.number old.pages.opened 0 (page_size old.shape old.pages.opened) };
      pages = record old.pages { opened = old.pages.opened + 1 };
    })

-- a look at the generation of a place gives a filling with its next key
pub record Fills {T : Type 0} (old new : LaneOf) (place : ℕ) (object : T) (filling : FillingOf T) : Type 0 where
  pub made : Made new filling
  pub place_is : place_of filling.key ≡ place
  pub object_is : filling.object ≡ object
  pub sees : Sees {S = Unit {0}} old.shape (old.book, []) (new.book, [])
  pub same : SameLane old new
  pub free_same : SameFree old new
  pub room : room_of new.book.seen new.book.rooms place ≡ room_of old.book.seen old.book.rooms place
