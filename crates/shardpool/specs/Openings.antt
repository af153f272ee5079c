-- What a lane does when it opens its next page.
use Rattle.std.specs.Prelude.{◌≡◌, ℕ, ◌+◌, true, List, length, Some, slice_get}
use Rattle.keybits.specs.Shapes.{page_size}
use Rattle.poolsteps.specs.declared.view.View.{View}
use Rattle.shardpool.specs.declared.pool.LaneState.{LaneState}
use Rattle.shardpool.specs.LaneStates.{FitsStores}
use Rattle.shardpool.specs.Stores.{SameRows}
use Rattle.shardpool.specs.Creates.{page_slots}

-- the next page is opened, and its places are the list; nothing else is changed but objects, and what the lane has of its free places fits as before
pub record OpensNext {T : Type 0} (content : T → List ℕ) (room : T → ℕ) (old new : LaneState T) : Type 0 where
  pub list : new.free ≡ record old.free { own = page_slots old.number old.pages.opened 0 (page_size old.shape old.pages.opened) }
  pub pages : new.pages ≡ record old.pages { opened = old.pages.opened + 1 }
  pub rest : new ≡ record old { free = new.free; pages = new.pages; objects = new.objects }
  pub same : SameRows old.objects new.objects
  pub wide : length new.objects.rights ≡ length old.objects.rights
  pub rights : (index : ℕ) → slice_get old.objects.rights index ≡ Some true → slice_get new.objects.rights index ≡ Some true
  pub fits : (v : View) → FitsStores content room old.shape v old.free old.pages old.objects.items
      → FitsStores content room old.shape v new.free new.pages new.objects.items
