-- What a lane keeps fits at first, when it has seen and done nothing; and how lanes are made and endowed, one after another.
use Rattle.std.proofs.Common.{◌≡◌, ⊎_elim, ℕ, suc, ◌+◌, ◌-◌, ◌<◌, ◌≤◌, Bool, true, false, cond, List, [], ◌∷◌, ◌++◌, length, replicate, Option, Some, None, refl, ap, sym, ◌∙◌, subst, arith, eq-eqb, slice_get, append_assoc, append-nil}
use Rattle.std.specs.List.{Contains}
use Rattle.std.proofs.lemmas.List.{length_push, length-replicate, get_or-replicate}
use Rattle.std.proofs.lemmas.Bool.{cond_both, cases_lt}
use Rattle.std.proofs.lemmas.Option.{slice_get_within, get_or_from_slice_get, slice_get-get_or}
use Rattle.std.proofs.lemmas.Nat.{mul-le}
use Rattle.std.proofs.Math.Nat.{add-mul}
use denote.RawPtr.{Ptr}
use Rattle.std.proofs.lemmas.List.Folds.{sum_by-replicate}
use Rattle.keybits.specs.declared.shape.Shape.{Shape}
use Rattle.keybits.specs.Places.{shard_of}
use Rattle.keybits.specs.Shapes.{callers, IsShape, shard_places, index_of}
use Rattle.keybits.proofs.ShapeLemmas.{index_of-lt}
use Rattle.poolsteps.specs.Objects.{ObjectsOf}
use Rattle.poolsteps.specs.declared.layout.TheConstants.{SHARDS_APART}
use Rattle.poolsteps.specs.Layout.{slot_row, shard_start}
use Rattle.freelists.specs.Shards.{ShardPages, shape_of}
use Rattle.freelists.specs.Queues.{FreePlaces}
use Rattle.seqpool.specs.Pool.{fresh, with, is_current}
use Rattle.poolsteps.specs.declared.view.Status.TheVariants.{Untouched, Emptied}
use Rattle.poolsteps.specs.declared.view.View.{View}
use Rattle.poolsteps.specs.Told.{references_seen}
use Rattle.shardpool.specs.HeldKeys.{HeldKey}
use Rattle.shardpool.specs.declared.pool.LaneState.{LaneState}
use Rattle.shardpool.specs.declared.opening.Unendowed.{Unendowed}
use Rattle.slotcell.specs.declared.objects.Clear.{Ghosts}
use Rattle.poolsteps.specs.declared.grid.Grid.{Grid}
use Rattle.poolsteps.specs.Grids.{IsFirstHand, AreFirstHands, SameSeat}
use Rattle.poolsteps.specs.Rule.{first_records}
use Rattle.poolsteps.specs.Seats.{without_first}
use Rattle.atomic_table.specs.Table.{Me}
use Rattle.atomic_table.specs.declared.shared.Seat.{Seat}
use Rattle.poolsteps.specs.Share.{Share}
use Rattle.poolsteps.proofs.ViewLemmas.{entry-of}
use Rattle.poolsteps.proofs.Owning.{owners-none}
use Rattle.shardpool.specs.Tokens.{PoolOf, LaneOf}
use Rattle.shardpool.specs.Opened.{first_book, IsFirstLane, AreFirstLanes, AreFurtherHands, HasUndealt, IsFirstState, AreFirstParts}
use Rattle.shardpool.specs.Rows.{AreStanding}
use Rattle.shardpool.specs.Places.{IsBlank}
use Rattle.shardpool.specs.LaneStates.{IsFirst, FitsSeat, FitsTops, FitsRow, FitsRows, FitsStores, FitsRights, Fits}
use Rattle.shardpool.proofs.references.Rows.{row-none}

-- a row without references
abbrev pub first_row : {T : Type 0} → HeldKey T
first_row = record { generation = 0; count = 0; share = None }

-- an entry of a list of one thing over and over is that thing
entry-is : {A : Type 0} → (n at : ℕ) (a entry : A) → slice_get (replicate n a) at ≡ Some entry → entry ≡ a
entry-is n at a entry is =
    let long : length (replicate n a) ≡ n = length-replicate n a in
    let within : at < length (replicate n a) = slice_get_within (replicate n a) at entry is in
    sym (get_or_from_slice_get (replicate n a) at entry entry is) ∙ get_or-replicate n at a entry (omega arith)

-- and each of its first entries is that
repeated-at : {A : Type 0} → (n at : ℕ) (a : A) → at < n → slice_get (replicate n a) at ≡ Some a
repeated-at n at a low =
    let long : length (replicate n a) ≡ n = length-replicate n a in
    slice_get-get_or (replicate n a) at a (omega (arith, long, low)) ∙ ap Some (get_or-replicate n at a a low)

-- the seat, the last_pushed, the rows and the stores of the first view
first-seat : (z : Shape) (lane : ℕ) → IsShape z → lane < z.lanes → FitsSeat z (first_book lane) lane
first-seat z lane shape below = record { shape = shape; one = refl; number_is = refl; below = below; idle = refl; legal = tt; owners = owners-none; quiet = λ one idle place inside marked. absurd (cc marked); own = refl; paired = refl; alone = λ place inside other. refl; retires = λ place inside is. absurd (cc is) }

first-last_pushed : (z : Shape) (lane : ℕ) → FitsTops z (first_book lane) (replicate z.lanes 0)
first-last_pushed z lane = record { wide = length-replicate z.lanes 0; each = λ shard below. get_or-replicate z.lanes shard 0 0 below }

-- at first a lane has no reference
none-referred : (z : Shape) (lane key : ℕ) → references_seen z (first_book lane) key ≡ 0
none-referred z lane key = cond_both {A = ℕ} (is_current z fresh key) 0 0 (λ n. n ≡ 0) (λ _. refl) (λ _. refl)

-- a place of the lane's shard is blank at first
first-blank : (z : Shape) (lane place : ℕ) → shard_of place ≡ lane → IsBlank z (first_book lane) place 0
first-blank z lane place own = record {
  with_lane = ap with own;
  emptied = λ number _. ap (λ (b : Bool). cond b Emptied Untouched) (eq-eqb (shard_of place) lane own);
  room = omega arith;
}

module _ {T : Type 0} (content : T → List ℕ) (room : T → ℕ) (z : Shape) (lane : ℕ) where
  first-rows : FitsRows content room z (first_book lane) (replicate (slot_row z) first_row) 0
  first-rows = let n : ℕ = slot_row z in record {
    wide = length-replicate n first_row;
    total = let sum = sum_by-replicate (λ (row : HeldKey T). row.count) n first_row in omega (arith, sum);
    by_acts = refl;
    each = λ place row _ is. subst (FitsRow content room z (first_book lane) place) (sym (entry-is n _ first_row row is)) (row-none place 0 None (λ key _ _. none-referred z lane key));
  }

  first-stores : (free : FreePlaces) (pages : ShardPages)
      → free ≡ record { shard = lane; shape = shape_of z.first_page z.pages; own = []; chain = None; room = free.room }
      → pages ≡ record { shard = lane; shape = shape_of z.first_page z.pages; opened = 0 }
      → FitsStores content room z (first_book lane) free pages (replicate (shard_places z) None)
  first-stores free pages free_is pages_is = record {
    lists = (ap (λ (f : FreePlaces). f.shard) free_is, ap (λ (f : FreePlaces). f.shape) free_is);
    paged = (ap (λ (p : ShardPages). p.shard) pages_is, ap (λ (p : ShardPages). p.shape) pages_is);
    narrow = length-replicate (shard_places z) None;
    listed = λ place on. let listed : Contains [] place = subst (λ (f : FreePlaces). Contains f.own place) free_is on in let low = listed.1 in absurd (omega (arith, low));
    unopened = λ place _ own _. first-blank z lane place own;
    chained = λ place on. absurd (cc on);
    unrepeated = tt;
    first = subst (λ (f : FreePlaces). IsFirst f.chain []) (sym free_is) refl;
  }

  -- the rights of a lane that is endowed: all to its places, and no object waits there
  abbrev pub first_objects : Ptr → ObjectsOf T
  first_objects directory = record {
    directory = directory;
    first = shard_start z lane;
    items = replicate (shard_places z) None;
    rights = replicate (shard_places z) true;
  }

  first-rights : (directory : Ptr) → FitsRights z lane 0 (first_objects directory)
  first-rights directory = record {
    first_is = refl;
    narrow = length-replicate (shard_places z) true;
    has_right = λ place inside own high. repeated-at (shard_places z) (index_of z place) true (index_of-lt z place inside);
  }

  -- so are the rights after an endowment
  pub endowed : (directory : Ptr) (old new : ObjectsOf T)
      → old ≡ record { directory = directory; first = shard_start z lane; items = replicate (shard_places z) None; rights = replicate (shard_places z) false }
      → new ≡ record old { items = replicate (length old.items) None; rights = replicate (length old.items) true } → new ≡ first_objects directory
  endowed directory old new was now =
      let none : Option T = None in
      now ∙ (ap (λ (o : ObjectsOf T). record o { items = replicate (length o.items) None; rights = replicate (length o.items) true }) was
      ∙ ap (λ (n : ℕ). record (first_objects directory) { items = replicate n None; rights = replicate n true }) (length-replicate (shard_places z) none))

  -- no row has a share
  first-standing : (directory : Ptr) → AreStanding {T = T} directory (replicate (slot_row z) first_row)
  first-standing directory at row s is has =
      let none : row.share ≡ None = ap (λ (r : HeldKey T). r.share) (entry-is (slot_row z) at first_row row is) in
      absurd (cc (none, has))

  -- so all that the lane keeps fits
  pub first-fits : (directory : Ptr) (v : View) (s : LaneState T) (objects : ObjectsOf T) → v ≡ first_book lane → IsShape z → lane < z.lanes → IsFirstState z directory lane s
      → objects ≡ first_objects directory → Fits content room s.shape v (record s { objects = objects })
  first-fits directory v s objects book shape below is objects_are =
      let t : LaneState T = record s { objects = objects } in
      let items : objects.items ≡ replicate (shard_places z) None = ap (λ (o : ObjectsOf T). o.items) objects_are in
      let at : objects.directory ≡ directory = ap (λ (o : ObjectsOf T). o.directory) objects_are in
      let fits : Fits content room z (first_book lane) t = record {
        shape_is = is.shape_is;
        placed = is.places;
        seat = subst (FitsSeat z (first_book lane)) (sym is.number_is) (first-seat z lane shape below);
        last_pushed = subst (FitsTops z (first_book lane)) (sym is.last_pushed) (first-last_pushed z lane);
        rows = subst (λ (r : List (HeldKey T)). FitsRows content room z (first_book lane) r s.references) (sym is.rows)
            (subst (FitsRows content room z (first_book lane) (replicate (slot_row z) first_row)) (sym is.references) first-rows);
        stores = subst (FitsStores content room z (first_book lane) s.free s.pages) (sym items) (first-stores s.free s.pages is.free is.pages);
        rights = subst (λ (n : ℕ). FitsRights z n s.pages.opened objects) (sym is.number_is)
            (subst (λ (p : ShardPages). FitsRights z lane p.opened objects) (sym is.pages) (subst (FitsRights z lane 0) (sym objects_are) (first-rights directory)));
        standing = subst (AreStanding {T = T} objects.directory) (sym is.rows) (first-standing objects.directory);
      } in
      subst (λ (y : Shape). Fits content room y v t) (sym is.shape_is) (subst (λ (w : View). Fits content room z w t) (sym book) fits)

-- what a lane has of objects before it is endowed
pub unendowed-are : {T : Type 0} (z : Shape) (lane : ℕ) (directory : Ptr) (objects : ObjectsOf T) (places first : ℕ) → places ≡ shard_places z → first ≡ shard_start z lane
    → (objects.directory ≡ directory) × (objects.first ≡ first) × (objects.items ≡ replicate places None) × (objects.rights ≡ replicate places false)
    → objects ≡ record { directory = directory; first = shard_start z lane; items = replicate (shard_places z) None; rights = replicate (shard_places z) false }
unendowed-are {T} z lane directory objects places first places_are first_is is =
    let none : Option T = None in
    let items : objects.items ≡ replicate (shard_places z) none = is.2 ∙ ap (λ (n : ℕ). replicate n none) places_are in
    let rights : objects.rights ≡ replicate (shard_places z) false = is.3 ∙ ap (λ (n : ℕ). replicate n false) places_are in
    let begins : objects.first ≡ shard_start z lane = is.1 ∙ first_is in
    λ i. record { directory = is.0 i; first = begins i; items = items i; rights = rights i }

-- ---- the rights to the places of one shard after those of another

-- behind those of a shard those of the next begin
pub next-start : (z : Shape) (number : ℕ) → shard_start z number + shard_places z + SHARDS_APART ≡ shard_start z (number + 1)
next-start z number = let more = add-mul number 1 (shard_places z) in omega (arith, more)

-- and those of a lane of the pool are there
pub within-row : (z : Shape) (number : ℕ) → number < z.lanes → shard_start z number + shard_places z + SHARDS_APART ≤ slot_row z
within-row z number low =
    let more = add-mul number 1 (shard_places z) in
    let all = mul-le (number + 1) (shard_places z) z.lanes (shard_places z) (omega (arith, low)) (omega arith) in
    omega (arith, more, all, low)

-- ---- one after another

-- so many entries are those of the first numbers
pub record AreNumbered {A : Type 0} (Is : ℕ → A → Type 0) (count : ℕ) (entries : List A) : Type 0 where
  pub stand : length entries ≡ count
  pub each : (number : ℕ) (entry : A) → slice_get entries number ≡ Some entry → Is number entry

module _ {A : Type 0} (Is : ℕ → A → Type 0) where
  -- before the first there is none
  pub none-numbered : (entries : List A) → entries ≡ [] → AreNumbered Is 0 entries
  none-numbered entries empty = record {
    stand = ap length empty;
    each = λ number entry is. let nowhere : None ≡ Some entry = ap (λ (list : List A). slice_get list number) (sym empty) ∙ is in absurd (cc nowhere);
  }

  -- one more
  pub one-numbered : (count : ℕ) (entries more : List A) (next : A) → AreNumbered Is count entries → Is count next → more ≡ entries ++ next ∷ [] → AreNumbered Is (count + 1) more
  one-numbered count entries more next are first longer = record {
    stand = ap length longer ∙ (length_push entries next ∙ ap (λ (n : ℕ). n + 1) are.stand);
    each = λ number entry is. ⊎_elim
        (λ (old : slice_get entries number ≡ Some entry). are.each number entry old)
        (λ (new : (number ≡ length entries) × (next ≡ entry)).
        subst (λ (at : ℕ × A). Is at.0 at.1) (λ i. (sym (new.0 ∙ are.stand) i, new.1 i)) first)
        (entry-of entries next entry number (ap (λ (list : List A). slice_get list number) (sym longer) ∙ is));
  }

-- the entry between two lists
entry-between : {A : Type 0} → (before : List A) (entry : A) (behind : List A) → slice_get (before ++ entry ∷ behind) (length before) ≡ Some entry
entry-between [] entry behind = refl
entry-between (x ∷ before) entry behind = entry-between before entry behind

-- the next of those that are left, of a list
next-of : {A : Type 0} → (all yielded more rest : List A) (next : A) → yielded ++ more ≡ all → more ≡ next ∷ rest → slice_get all (length yielded) ≡ Some next
next-of {A} all yielded more rest next split is =
    subst (λ (list : List A). slice_get list (length yielded) ≡ Some next) (ap (λ (list : List A). yielded ++ list) (sym is) ∙ split) (entry-between yielded next rest)

-- and then the others are left
pub left-of : {A : Type 0} → (all yielded more rest : List A) (next : A) → yielded ++ more ≡ all → more ≡ next ∷ rest → (yielded ++ next ∷ []) ++ rest ≡ all
left-of {A} all yielded more rest next split is = append_assoc yielded (next ∷ []) rest ∙ (ap (λ (list : List A). yielded ++ list) (sym is) ∙ split)

-- at the end those are all
pub all-of : {A : Type 0} → (all yielded more : List A) → yielded ++ more ≡ all → more ≡ [] → length yielded ≡ length all
all-of {A} all yielded more split none = ap length (sym (append-nil yielded) ∙ (ap (λ (list : List A). yielded ++ list) (sym none) ∙ split))

module _ {T : Type 0} (grid : Grid T) where
  -- all hands are those from the first on
  pub first-hands : (hands : List (Seat (Option (Share T)) View)) → AreFirstHands grid hands → AreFurtherHands grid 0 hands
  first-hands hands are = record {
    count = let count = are.count in omega (arith, count);
    each = λ index hand at. subst (λ (n : ℕ). IsFirstHand grid n hand) (let same : index ≡ 0 + index = omega arith in same) (are.each index hand at);
  }

  -- of these hands the first is that of the next number
  pub next-hand : (number : ℕ) (hands rest : List (Seat (Option (Share T)) View)) (hand : Seat (Option (Share T)) View)
      → AreFurtherHands grid number hands → hands ≡ hand ∷ rest → (number < grid.shape.lanes) × IsFirstHand grid number hand
  next-hand number hands rest hand are is =
      let long = ap length is in
      let all = are.count in (
        omega (arith, long, all),
        subst (λ (n : ℕ). IsFirstHand grid n hand) (let same : number + 0 ≡ number = omega arith in same)
            (are.each 0 hand (ap (λ (l : List (Seat (Option (Share T)) View)). slice_get l 0) is)),
      )

  -- and then the others are left
  pub hands-left : (number : ℕ) (hands rest : List (Seat (Option (Share T)) View)) (hand : Seat (Option (Share T)) View)
      → AreFurtherHands grid number hands → hands ≡ hand ∷ rest → AreFurtherHands grid (number + 1) rest
  hands-left number hands rest hand are is = record {
    count = let long = ap length is in let all = are.count in omega (arith, long, all);
    each = λ index next at. subst (λ (n : ℕ). IsFirstHand grid n next) (let same : number + suc index ≡ number + 1 + index = omega arith in same)
        (are.each (suc index) next (ap (λ (l : List (Seat (Option (Share T)) View)). slice_get l (suc index)) is ∙ at));
  }

  -- a hand of several callers, without the first
  pub others-undealt : (next : ℕ) (before after : Seat (Option (Share T)) View) → HasUndealt grid next (Some before) → (next + 1 ≡ callers grid.shape → ⊥)
      → SameSeat before after → after.me ≡ (without_first before.me.0, before.me.1) → HasUndealt grid (next + 1) (Some after)
  others-undealt next before after is further same me =
      let low = is.0 in
      let more : ℕ = callers grid.shape - (next + 1) in
      let count : callers grid.shape - next ≡ suc more = omega (arith, low) in
      let before_is = is.1.1 ∙ ap (λ (n : ℕ). (record { lanes = first_records next n; seen = []; rooms = []; told = []; steps = 0; looks = 0 }, [])) count in (
        ⊎_elim (λ (less : next + 1 < callers grid.shape). less)
            (λ (high : callers grid.shape ≤ next + 1). absurd (further (omega (arith, low, high))))
            (cases_lt (next + 1) (callers grid.shape)),
        (same.0 ∙ is.1.0, me ∙ ap (λ (m : Me (Option (Share T)) View). (without_first m.0, m.1)) before_is),
      )

  -- the pool of the table
  abbrev pub pool_of : PoolOf
  pool_of = record { table = grid.table.shared.table_id; directory = grid.objects.ptr; shape = grid.shape }

module _ {T : Type 0} {G : Ghosts T} (grid : Grid T) where
  -- what the lane of a number begins with
  abbrev pub IsFirstPart : ℕ → Unendowed T G → Type 0
  IsFirstPart number part = IsFirstHand grid number part.hand × IsFirstState grid.shape grid.objects.ptr number part.state

  -- so is the part that was made
  pub part-made : (z : Shape) (directory : Ptr) (number count : ℕ) (hand : Seat (Option (Share T)) View) (part : Unendowed T G) → grid.shape ≡ z → grid.objects.ptr ≡ directory
      → number ≡ count → IsFirstHand grid count hand → part.hand ≡ hand → IsFirstState z directory number part.state → IsFirstPart count part
  part-made z directory number count hand part shape at same first is state = (
    subst (λ (h : Seat (Option (Share T)) View). IsFirstHand grid count h) (sym is) first,
    subst (λ (of : Shape × (Ptr × ℕ)). IsFirstState of.0 of.1.0 of.1.1 part.state) (λ i. (sym shape i, (sym at i, same i))) state,
  )

  -- of these parts the next is that of the lane of the next number
  pub next-part : (parts yielded more rest : List (Unendowed T G)) (part : Unendowed T G) → AreFirstParts grid parts → yielded ++ more ≡ parts → more ≡ part ∷ rest
      → (length yielded < grid.shape.lanes) × IsFirstPart (length yielded) part
  next-part parts yielded more rest part are split is =
      let at = next-of parts yielded more rest part split is in
      let below = slice_get_within parts (length yielded) part at in
      let all = are.count in (omega (arith, below, all), are.each (length yielded) part at)

  -- where no part is left, each lane of the pool is endowed
  pub all-lanes : (parts yielded more : List (Unendowed T G)) (lanes : List LaneOf) → AreFirstParts grid parts → yielded ++ more ≡ parts → more ≡ []
      → AreNumbered (IsFirstLane (pool_of grid)) (length yielded) lanes → AreFirstLanes (pool_of grid) lanes
  all-lanes parts yielded more lanes are split none opened = record { count = opened.stand ∙ (all-of parts yielded more split none ∙ are.count); each = opened.each }

  -- a part that is endowed is the lane of its number
  pub first-lane : (number : ℕ) (part : Unendowed T G) (objects : ObjectsOf T) → IsFirstPart number part → objects.directory ≡ grid.objects.ptr
      → IsFirstLane (pool_of grid) number (record {
        table = part.hand.table_id;
        directory = objects.directory;
        shape = part.state.shape;
        number = part.state.number;
        book = part.hand.me.0;
        free = part.state.free;
        pages = part.state.pages;
      })
  first-lane number part objects is at = let state = is.1 in record {
    owned = (is.0.0, state.shape_is, at);
    number_is = state.number_is;
    book = λ i. (is.0.1 i).0;
    list = ap (λ (f : FreePlaces). f.own) state.free;
    chain = ap (λ (f : FreePlaces). f.chain) state.free;
    pages = ap (λ (p : ShardPages). p.opened) state.pages;
  }
