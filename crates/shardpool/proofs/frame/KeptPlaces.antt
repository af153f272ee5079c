-- What stays of a lane's places, and of what it keeps, while it makes steps and moves.
use Rattle.std.proofs.Common.{◌≡◌, ⊎_elim, ℕ, zero, suc, ◌+◌, ◌<◌, ◌≤◌, Bool, false, cond, ◌==◌, ◌&&◌, List, [], ◌∷◌, ◌++◌, length, slice_set, sym, ap, ◌∙◌, subst, arith, ne_eqb, eq-eqb, length-append, get_or-set_other}
use Rattle.std.specs.List.{All}
use Rattle.std.proofs.lemmas.Grind.{get_or-set_at}
use Rattle.std.proofs.lemmas.List.{append_cancel_left, length-set}
use mathlib.Core.Logic.{dite}
use mathlib.Core.List.{IsPrefix}
use native.Mathlib.Decide.{ℕ_discrete}
use Rattle.keybits.specs.declared.shape.Shape.{Shape}
use Rattle.keybits.specs.Counts.{times}
use Rattle.keybits.specs.Keys.{place_of, generation_of, is_key}
use Rattle.seqpool.specs.declared.act.Act.{Act}
use Rattle.seqpool.specs.declared.act.Act.TheVariants as acts
use Rattle.seqpool.specs.Pool.{with, Spot, pool_after, IsLegal}
use Rattle.seqpool.specs.Histories.{At, PublishedAt, acts_of}
use Rattle.seqpool.proofs.Growth.{acts-append}
use Rattle.poolsteps.specs.declared.view.Stored.{Stored}
use Rattle.poolsteps.specs.Shares.{room_of}
use Rattle.poolsteps.specs.PlaceLaws.{gives_away, brings}
use Rattle.poolsteps.proofs.shares.WithPlaces.{with-law}
use Rattle.poolsteps.specs.declared.view.View.{View}
use Rattle.poolsteps.specs.Views.{the_lane, pushed_in, known_of}
use Rattle.poolsteps.specs.Told.{MayPublish, IsIdle}
use Rattle.seatcalls.specs.Acted.{Acted}
use Rattle.seatcalls.proofs.parts.Going.{all-acts}
use Rattle.shardpool.specs.Places.{IsBlank, IsResting}
use Rattle.seatcalls.specs.Left.{left_with, has_retired}
use Rattle.shardpool.specs.LaneStates.{FitsSeat, FitsTops}
use Rattle.seatcalls.proofs.parts.OtherShards.{NoneAbroad, abroad-append}
use Rattle.seatcalls.proofs.parts.Frames.{Passes}
use Rattle.seatcalls.proofs.parts.RetiredPlaces.{Retires, retired-append}

-- ---- what the lane keeps beside its seat

pub seat-passes : {z : Shape} {at : ℕ → Bool} {made : List Act} {v w : View} {n : ℕ} → FitsSeat z v n → Passes z at made v w → IsIdle w → NoneAbroad z n made
    → Retires z at made v w → FitsSeat z w n
seat-passes {z = z} {made = made} {v = v} {n = n} seat passes idle alone retires = record {
  shape = seat.shape;
  one = passes.acted.one;
  number_is = seat.number_is ∙ sym passes.acted.lane;
  below = seat.below;
  idle = idle;
  legal = passes.acted.legal;
  owners = passes.acted.owners;
  quiet = passes.acted.quiet;
  own = passes.acted.own;
  paired = let rooms = passes.acted.rooms in ap (λ (xs : List ℕ). length xs) rooms.1
      ∙ (length-append v.rooms rooms.0 ∙ (ap (λ (m : ℕ). m + length rooms.0) seat.paired ∙ sym rooms.2));
  alone = λ place inside other. ap (λ (xs : List Act). left_with z place xs false) passes.acted.mine
      ∙ abroad-append z n (the_lane v).mine made seat.alone alone place inside other;
  retires = λ place inside is. ⊎_elim
      (λ still number below. passes.deeds place number still.0 ∙ seat.retires place inside still.1 number below)
      (λ rests. rests)
      (retires place inside (sym (retired-append z place (the_lane v).mine made false) ∙ (sym (ap (λ (xs : List Act). has_retired z place xs false) passes.acted.mine) ∙ is)));
}

pub last_pushed-same : {z : Shape} {v w : View} {last_pushed : List ℕ} → FitsTops z v last_pushed → (the_lane w).pushed ≡ (the_lane v).pushed → FitsTops z w last_pushed
last_pushed-same last_pushed same = record {
  wide = last_pushed.wide;
  each = λ shard below. last_pushed.each shard below ∙ ap (λ (pushed : List (ℕ × ℕ)). pushed_in pushed shard) (sym same);
}

-- the word that the lane pushed is the last of its shard
pub last_pushed-pushed : {z : Shape} {v w : View} {last_pushed : List ℕ} {shard word : ℕ} → FitsTops z v last_pushed → (the_lane w).pushed ≡ (shard, word) ∷ (the_lane v).pushed
    → shard < z.lanes → FitsTops z w (slice_set last_pushed shard word)
last_pushed-pushed {z = z} {v = v} {w = w} {last_pushed = last_pushed} {shard = shard} {word = word} fits pushed inside = record {
  wide = length-set last_pushed shard word ∙ fits.wide;
  each = λ s below.
      let now : pushed_in (the_lane w).pushed s ≡ cond (s == shard) word (pushed_in (the_lane v).pushed s) = ap (λ (xs : List (ℕ × ℕ)). pushed_in xs s) pushed in
      let wide = fits.wide in
      dite (ℕ_discrete s shard)
      (λ here. get_or-set_at last_pushed shard s word 0 here (omega arith)
      ∙ sym (now ∙ ap (λ (b : Bool). cond b word (pushed_in (the_lane v).pushed s)) (eq-eqb s shard here)))
      (λ other. get_or-set_other last_pushed shard s word 0 other
      ∙ (fits.each s below ∙ sym (now ∙ ap (λ (b : Bool). cond b word (pushed_in (the_lane v).pushed s)) (ne_eqb s shard other))));
}

-- ---- places that stay with the lane

-- what the law tells of a place that the lane doesn't give away
module _ {z : Shape} {made : List Act} {v w : View} (acted : Acted z made v w) (paired : length v.rooms ≡ length v.seen)
    (own : (the_lane v).mine ≡ acts_of (the_lane v).lane v.seen) (p : ℕ) (is : (pool_after z v.seen p).phase ≡ with (the_lane v).lane)
    (kept : All (λ act. gives_away act p ≡ false) made) where
  abbrev more : List Act
  more = acted.seen.0

  acts-between : acts_of (the_lane v).lane more ≡ made
  acts-between =
      let lane : ℕ = (the_lane v).lane in
      append_cancel_left (acts_of lane v.seen) (acts_of lane more) made (sym (acts-append lane v.seen more) ∙ (ap (acts_of lane) acted.seen.1 ∙ all-acts acted own))

  law-passes : (pool_after z (v.seen ++ more) p ≡ pool_after z v.seen p)
      × (room_of (v.seen ++ more) (v.rooms ++ acted.rooms.0) p ≡ room_of v.seen v.rooms p)
      × All (λ act. brings act p ≡ false) (acts_of (the_lane v).lane more)
  law-passes =
      let seen : w.seen ≡ v.seen ++ more = sym acted.seen.1 in
      let long = ap (λ (xs : List Act). length xs) acted.seen.1 in
      let two = length-append v.seen more in
      with-law z v.seen more v.rooms acted.rooms.0 (the_lane v).lane p paired (omega (arith, long, two, acted.rooms.2)) (subst (IsLegal z) seen acted.legal) is
      (subst (λ (xs : List Act). All (λ act. gives_away act p ≡ false) xs) (sym acts-between) kept)

  -- it stays as it is, with its room
  pub spot-passes : (pool_after z w.seen p ≡ pool_after z v.seen p) × (room_of w.seen w.rooms p ≡ room_of v.seen v.rooms p)
  spot-passes =
      let seen : w.seen ≡ v.seen ++ more = sym acted.seen.1 in (
        ap (λ (xs : List Act). pool_after z xs p) seen ∙ law-passes.0,
        ap (λ (xs : List Act). room_of xs w.rooms p) seen ∙ (ap (λ (xs : List ℕ). room_of (v.seen ++ more) xs p) acted.rooms.1 ∙ law-passes.1),
      )

  -- it is then still with the lane
  pub still-with : (pool_after z w.seen p).phase ≡ with (the_lane w).lane
  still-with = ap (λ (s : Spot). s.phase) spot-passes.0 ∙ (is ∙ ap with (sym acted.lane))

  -- and no act of the lane brings it
  pub none-brings : All (λ act. brings act p ≡ false) made
  none-brings = subst (λ (xs : List Act). All (λ act. brings act p ≡ false) xs) acts-between law-passes.2

module _ {z : Shape} {at : ℕ → Bool} {made : List Act} {v w : View} (passes : Passes z at made v w) (paired : length v.rooms ≡ length v.seen)
    (own : (the_lane v).mine ≡ acts_of (the_lane v).lane v.seen) where
  pub blank-passes : {p n : ℕ} → IsBlank z v p n → at p ≡ false → All (λ act. gives_away act p ≡ false) made → IsBlank z w p n
  blank-passes {p} {n} blank off kept = record {
    with_lane = still-with passes.acted paired own p blank.with_lane kept;
    emptied = λ number below. passes.deeds p number off ∙ blank.emptied number below;
    room = subst (λ (m : ℕ). m ≤ n) (sym (spot-passes passes.acted paired own p blank.with_lane kept).1) blank.room;
  }

  pub resting-passes : {p : ℕ} → IsResting z v p → at p ≡ false → All (λ act. gives_away act p ≡ false) made → IsResting z w p
  resting-passes {p} resting off kept =
      let same : known_of (the_lane w) p ≡ known_of (the_lane v) p = passes.cells p off in record {
        inside = resting.inside;
        own = resting.own ∙ sym passes.acted.lane;
        with_lane = still-with passes.acted paired own p resting.with_lane kept;
        rests = λ number below. passes.deeds p number off ∙ resting.rests number below;
        empty = ap (λ (c : Stored). c.content) same ∙ resting.empty;
        room = subst (λ (c : Stored). room_of w.seen w.rooms p ≤ c.room) (sym same)
            (subst (λ (m : ℕ). m ≤ (known_of (the_lane v) p).room) (sym (spot-passes passes.acted paired own p resting.with_lane kept).1) resting.room);
      }

  -- a key that the lane may publish it still may, where its place is not on the taken chain
  pub may-passes : {key : ℕ} → MayPublish z v key → All (λ act. gives_away act (place_of key) ≡ false) made → IsIdle w
      → times (place_of key) (the_lane w).chain ≡ 0 → MayPublish z w key
  may-passes {key} may kept idle unchained = record {
    idle = idle;
    own = may.own ∙ sym passes.acted.lane;
    current = ap (λ (s : Spot). is_key z key && (s.generation == generation_of key)) (spot-passes passes.acted paired own (place_of key) may.with_lane kept).0 ∙ may.current;
    with_lane = still-with passes.acted paired own (place_of key) may.with_lane kept;
    unchained = unchained;
  }

-- ---- histories

at-longer : (xs more : List Act) (j : ℕ) (act : Act) → At xs j act → At (xs ++ more) j act
at-longer [] more j act at = absurd (cc at)
at-longer (x ∷ xs) more zero act at = at
at-longer (x ∷ xs) more (suc j) act at = at-longer xs more j act at

-- what was published at a position still was in a longer history
pub published-passes : (xs ys : List Act) (j key : ℕ) (content : List ℕ) → IsPrefix xs ys → PublishedAt xs j key content → PublishedAt ys j key content
published-passes xs ys j key content grows published = (
  published.0,
  published.1,
  subst (λ (history : List Act). At history j (acts.Publish published.0 key content published.1)) grows.1
      (at-longer xs grows.0 j (acts.Publish published.0 key content published.1) published.2),
)
