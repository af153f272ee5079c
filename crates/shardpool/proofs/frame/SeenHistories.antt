-- What a lane keeps, and its fillings, stay as they are when it does what doesn't concern them; so they do over a look.
use Rattle.std.proofs.Common.{◌≡◌, ℕ, ◌≤◌, Bool, true, false, List, [], Option, refl, ap, sym, ◌∙◌, subst, arith, append-nil, inl}
use Rattle.std.specs.List.{All, Contains}
use Rattle.std.proofs.lemmas.List.Elements.{All-nil}
use mathlib.Core.Logic.{dite}
use native.Mathlib.Decide.{ℕ_discrete}
use Rattle.steplaws.proofs.HomePlaces.{has-some}
use Rattle.keybits.specs.Counts.{times}
use Rattle.atomic_table.specs.Table.{Me}
use Rattle.poolsteps.specs.Share.{Share}
use Rattle.keybits.specs.declared.shape.Shape.{Shape}
use Rattle.keybits.specs.declared.place.Place.{Place}
use Rattle.keybits.specs.Places.{number_of}
use Rattle.keybits.specs.Shapes.{is_place}
use Rattle.keybits.specs.Keys.{place_of}
use Rattle.freelists.specs.Queues.{FreePlaces}
use Rattle.freelists.specs.Shards.{ShardPages}
use Rattle.seqpool.specs.declared.act.Act.{Act}
use Rattle.seqpool.specs.Pool.{with, has, pool_after}
use Rattle.poolsteps.specs.PlaceLaws.{gives_away}
use Rattle.poolsteps.specs.declared.view.LaneRecord.{LaneRecord}
use Rattle.poolsteps.specs.declared.view.View.{View}
use Rattle.poolsteps.specs.Layout.{slot_start}
use Rattle.poolsteps.specs.Views.{head_record, the_lane}
use Rattle.poolsteps.specs.Told.{Sees, IsIdle, MayPublish, references_seen}
use Rattle.seatcalls.specs.Carried.{AreEmptied}
use Rattle.shardpool.specs.declared.pool.LaneState.{LaneState}
use Rattle.shardpool.specs.Tokens.{PoolOf, LaneOf, FillingOf}
use Rattle.shardpool.specs.Lanes.{SameLane, Made, Did}
use Rattle.shardpool.specs.LaneStates.{FitsSeat, Fits}
use Rattle.seatcalls.proofs.parts.Frames.{Passes}
use Rattle.shardpool.proofs.frame.LaneFrames.{passes-sees, passes-refs, onlyat-none}
use Rattle.shardpool.proofs.frame.Standing.{sees-on}
use Rattle.shardpool.proofs.frame.KeptPlaces.{seat-passes, last_pushed-same, still-with, may-passes}
use Rattle.shardpool.proofs.free.Stores.{stores-still}
use Rattle.shardpool.proofs.references.Rows.{rows-pass}

-- ---- fillings

-- a number that isn't in a list is there no time
pub has-not : (n : ℕ) (xs : List ℕ) → has xs n ≡ false → times n xs ≡ 0
has-not n xs none = dite (ℕ_discrete (times n xs) 0)
    (λ (is : times n xs ≡ 0). is)
    (λ some. let bad : true ≡ false = sym (has-some n xs (omega (arith, some))) ∙ none in absurd (cc bad))

-- a filling stays one over what the lane does elsewhere, where its place goes neither to the list nor to the taken chain
pub made-passes : {T : Type 0} {at : ℕ → Bool} {made : List Act} (old new : LaneOf) (filling : FillingOf T) → Passes old.shape at made old.book new.book
    → FitsSeat old.shape old.book old.number → SameLane old new → IsIdle new.book
    → at (place_of filling.key) ≡ false → All (λ act. gives_away act (place_of filling.key) ≡ false) made
    → ((place : Place) → Contains new.free.own place → number_of place ≡ place_of filling.key → ⊥)
    → has (the_lane new.book).chain (place_of filling.key) ≡ false → old.pages.opened ≤ new.pages.opened → Made old filling → Made new filling
made-passes old new filling passes seat same idle off kept unlisted unchained opened made =
    let place : ℕ = place_of filling.key in
    let was = made.place in
    let with_old : (pool_after old.shape old.book.seen place).phase ≡ with (the_lane old.book).lane = was.with_lane ∙ ap with seat.number_is in
    let number : (the_lane new.book).lane ≡ new.number = passes.acted.lane ∙ (sym seat.number_is ∙ sym same.2) in record {
      table = made.table ∙ sym same.0;
      directory = made.directory ∙ sym same.3;
      place = record {
        inside = ap (λ (z : Shape). is_place z place) same.1 ∙ was.inside;
        own = was.own ∙ sym same.2;
        opened = let low = was.opened in omega (arith, low, opened);
        with_lane = ap (λ (z : Shape). (pool_after z new.book.seen place).phase) same.1
            ∙ (still-with passes.acted seat.paired seat.own place with_old kept ∙ ap with number);
        unlisted = unlisted;
        unchained = unchained;
      };
      start = made.start ∙ ap (λ (z : Shape). slot_start z place) (sym same.1);
      may = subst (λ (z : Shape). MayPublish z new.book filling.key) (sym same.1)
          (may-passes passes seat.paired seat.own made.may kept idle (has-not place (the_lane new.book).chain unchained));
      emptied = subst (λ (z : Shape). AreEmptied z (the_lane new.book) place) (sym same.1) (λ n below. passes.deeds place n off ∙ made.emptied n below);
    }

-- ---- what a lane does that is nothing but looks

module _ {was new : LaneOf} (passes : Passes was.shape (λ p. false) [] was.book new.book) (seat : FitsSeat was.shape was.book was.number) (same : SameLane was new)
    (free : new.free ≡ was.free) (pages : new.pages ≡ was.pages) {old : LaneOf} (is : was ≡ old) where
  -- it made no act
  pub did-none : Did [] old new
  did-none =
      let did : Did [] was new = record {
        goes = sees-on was.shape was new same.1 passes.acted seat.own;
        same = same;
        mine = passes.acted.mine;
        held = λ key. ap (λ (z : Shape). references_seen z new.book key) same.1 ∙ passes-refs passes seat.own key;
        list = free ∙ ap (λ (own : List Place). record was.free { own = own }) (sym (append-nil was.free.own));
        pages = pages;
      } in subst (λ (l : LaneOf). Did [] l new) is did

  -- and its fillings stay
  pub made-still : {T : Type 0} (filling : FillingOf T) → IsIdle new.book → (the_lane new.book).chain ≡ (the_lane was.book).chain → Made old filling → Made new filling
  made-still filling idle chain made =
      let before : Made was filling = subst (λ (l : LaneOf). Made l filling) (sym is) made in
      made-passes was new filling passes seat same idle refl (All-nil (λ act. gives_away act (place_of filling.key) ≡ false))
      (λ place listed at. before.place.unlisted place (subst (λ (f : FreePlaces). Contains f.own place) free listed) at)
      (ap (λ (chain : List ℕ). has chain (place_of filling.key)) chain ∙ before.place.unchained)
      (let more = ap (λ (p : ShardPages). p.opened) pages in omega (arith, more)) before

-- ---- a look

-- a pool has the shape of its lanes
pub same-shape : {lane view : LaneOf} {pool grid : PoolOf} → view ≡ lane → lane.shape ≡ pool.shape → grid ≡ pool → grid.shape ≡ view.shape
same-shape seen owned pool = ap (λ (p : PoolOf). p.shape) pool ∙ (sym owned ∙ sym (ap (λ (l : LaneOf). l.shape) seen))

-- and the directory of its lanes
pub same-directory : {lane view : LaneOf} {pool grid : PoolOf} → view ≡ lane → lane.directory ≡ pool.directory → grid ≡ pool → view.directory ≡ grid.directory
same-directory seen owned pool = ap (λ (l : LaneOf). l.directory) seen ∙ (owned ∙ sym (ap (λ (p : PoolOf). p.directory) pool))

module _ {S : Type 0} {z : Shape} {a b : Me S View} (sees : Sees z a b) where
  -- the lane's record is as before
  same-record : the_lane b.0 ≡ the_lane a.0
  same-record = ap head_record sees.goes.lanes

  pub still-idle : IsIdle a.0 → IsIdle b.0
  still-idle idle = ap (λ (r : LaneRecord). r.under) same-record ∙ idle

  pub same-chain : (the_lane b.0).chain ≡ (the_lane a.0).chain
  same-chain = ap (λ (r : LaneRecord). r.chain) same-record

  pub same-pushed : (the_lane b.0).pushed ≡ (the_lane a.0).pushed
  same-pushed = ap (λ (r : LaneRecord). r.pushed) same-record

-- what the lane keeps beside its seat still fits
pub fits-sees : {T : Type 0} {content : T → List ℕ} {room : T → ℕ} {z : Shape} {a b : Me (Option (Share T)) View} {s : LaneState T} → Sees z a b
    → Fits content room z a.0 s → Fits content room z b.0 s
fits-sees sees fits =
    let passes = passes-sees sees in
    let seat = fits.seat in record {
      shape_is = fits.shape_is;
      placed = fits.placed;
      seat = seat-passes seat passes (still-idle sees seat.idle) (λ place inside other. refl) (λ place inside is. inl (refl, is));
      last_pushed = last_pushed-same fits.last_pushed (same-pushed sees);
      rows = rows-pass passes seat.own fits.rows (λ place row inside stands fit. ((λ some. refl), (λ key n here. refl))) refl;
      stores = stores-still fits.stores {place = 0} seat.paired seat.own (same-chain sees) (onlyat-none 0) passes (All-nil (λ act. gives_away act 0 ≡ false));
      rights = fits.rights;
      standing = fits.standing;
    }
