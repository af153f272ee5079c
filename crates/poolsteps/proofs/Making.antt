-- A step through the table: what has to be shown of it at a moment at which the rule holds.
use Rattle.poolsteps.specs.Spot.{Spot as CellSpot}
use Rattle.std.proofs.Common.{◌≡◌, ◌≢◌, ℕ, ◌<◌, true, List, [], ◌∷◌, ◌++◌, slice_index, slice_set, Option, Some, None, refl, sym, subst, append-nil}
use Rattle.atomic_table.specs.Table as table
use Rattle.atomic_table.specs.Table.{Me, Allows}
use Rattle.keybits.specs.declared.shape.Shape.{Shape}
use Rattle.keybits.specs.declared.step.Kind.{Kind}
use Rattle.keybits.specs.declared.step.Word.{Word}
use Rattle.keybits.specs.declared.step.Word.TheVariants.{Life}
use Rattle.keybits.specs.Shapes.{is_place}
use Rattle.seqpool.specs.declared.act.Act.{Act}
use Rattle.seqpool.specs.declared.act.Act.TheVariants as acts
use Rattle.poolsteps.specs.Share.{Share}
use Rattle.poolsteps.specs.declared.view.Stored.{Stored}
use Rattle.poolsteps.specs.Shares.{Slots, Stock, Shared}
use Rattle.poolsteps.specs.ShareLaws.{IsQuiet}
use Rattle.poolsteps.proofs.shares.Acting.{acts-share-law}
use Rattle.steplaws.specs.declared.pending.Pending.{Pending}
use Rattle.steplaws.specs.Facts.{Words, Lanes, with_under, Moment, moment, value_of}
use Rattle.steplaws.specs.StepLaws.{with_act, IsAllowed, Keeps, KeepsBits}
use Rattle.steplaws.proofs.Updates.{at-here, at-else}
use Rattle.poolsteps.specs.declared.view.LaneRecord.{LaneRecord}
use Rattle.poolsteps.specs.declared.view.View.{View}
use Rattle.poolsteps.specs.Layout.{has_word, index_in, has_row, bits_index, words_in, slots_in}
use Rattle.poolsteps.specs.Views.{the_lane, IsOne, status_of, known_in, acts_in, rooms_in, after_step}
use Rattle.poolsteps.specs.Rule.{World, Stands, Kept}
use Rattle.poolsteps.specs.Told.{Steps, RowSteps, LifeSteps}
use Rattle.poolsteps.proofs.LayoutLemmas.{value-is, bits-is}
use Rattle.poolsteps.proofs.Owning.{IsOwned}
use Rattle.poolsteps.proofs.SeatLemmas.{step_view, world_after, IsBy, IsAt, IsPoint, Agrees, OthersStay, is-at, is-point, step-stands, bits-stands}

-- the words, the history and the lanes of a world
abbrev pub moment_of : Words → World → Moment
moment_of words w = moment words w.history w.lanes

-- the seat saw all of a world after a step with this act, of a lane that then has this record
abbrev pub SawAll : World → Option Act → LaneRecord → View → Type 0
SawAll w act r v = (v.seen ≡ with_act w.history act) × (v.rooms ≡ w.kept ++ rooms_in r act)

-- the act, if there is one, moves no share
abbrev pub IsStill : Shape → World → Option Act → Type 0
IsStill z w None = Unit {0}
IsStill z w (Some act) = IsQuiet z w.history w.stock act

-- which is then no publish
still-owned : (z : Shape) (w : World) (act : Option Act) → IsStill z w act → IsOwned act
still-owned z w None still = tt
still-owned z w (Some (acts.Publish lane key bytes with_ref)) still = absurd still
still-owned z w (Some (acts.Get lane key reply)) still = tt
still-owned z w (Some (acts.Release lane key)) still = tt
still-owned z w (Some (acts.Clear lane key reply)) still = tt
still-owned z w (Some (acts.Reclaim lane key)) still = tt
still-owned z w (Some (acts.Home lane place)) still = tt
still-owned z w (Some (acts.Collect lane places)) still = tt

module _ {T : Type 0} (content : T → List ℕ) (room : T → ℕ) (spots : ℕ → CellSpot) (z : Shape) (words : Words) (w : World) (slots : Slots T) where
  -- the shares stay where an act moves none
  shared-quiet : IsPoint content room spots z words w slots → (act : Act) (r : LaneRecord) → IsAllowed z w.history (Some act) → IsQuiet z w.history w.stock act
      → Shared content room spots z (w.history ++ act ∷ []) (w.kept ++ rooms_in r (Some act)) slots w.stock
  shared-quiet point (acts.Publish lane key bytes with_ref) r ok quiet = absurd quiet
  shared-quiet point (acts.Get lane key reply) r ok quiet =
      acts-share-law content room spots z w.history w.kept slots w.stock (acts.Get lane key reply) point.paired point.rule.legal point.shared ok.0 ok.1 quiet
  shared-quiet point (acts.Release lane key) r ok quiet =
      acts-share-law content room spots z w.history w.kept slots w.stock (acts.Release lane key) point.paired point.rule.legal point.shared ok.0 ok.1 quiet
  shared-quiet point (acts.Clear lane key reply) r ok quiet =
      acts-share-law content room spots z w.history w.kept slots w.stock (acts.Clear lane key reply) point.paired point.rule.legal point.shared ok.0 ok.1 quiet
  shared-quiet point (acts.Reclaim lane key) r ok quiet = absurd quiet
  shared-quiet point (acts.Home lane place) r ok quiet = absurd quiet
  shared-quiet point (acts.Collect lane places) r ok quiet = absurd quiet

  pub shared-still : IsPoint content room spots z words w slots → (act : Option Act) (r : LaneRecord) → IsAllowed z w.history act → IsStill z w act
      → Shared content room spots z (with_act w.history act) (w.kept ++ rooms_in r act) slots w.stock
  shared-still point None r ok quiet = subst (λ (kept : List ℕ). Shared content room spots z w.history kept slots w.stock) (sym (append-nil w.kept)) point.shared
  shared-still point (Some act) r ok quiet = shared-quiet point act r ok quiet

module _ {S T : Type 0} (content : T → List ℕ) (room : T → ℕ) (spots : ℕ → CellSpot) (z : Shape) (words : Words) (w : World) (slots : Slots T) where
  -- the lane makes a step that leaves this value in the word, and is told this
  pub record MakesAt (word : Word) (me : Me S View) (left : ℕ) (then : ℕ → Me S View → Type 0) : Type 0 where
    pub kind : Kind
    pub act : Option Act
    -- the lanes, the shares and the lane's record after it
    pub after : Lanes
    pub stock : Stock
    pub r : LaneRecord
    pub keeps : Keeps z (moment_of words w) kind word left act after
    pub shared : Shared content room spots z (with_act w.history act) (w.kept ++ rooms_in r act) slots stock
    pub by : IsBy (the_lane me.0).lane act
    pub owned : IsOwned act
    pub lane_is : r.lane ≡ (the_lane me.0).lane
    pub mine : r.mine ≡ (the_lane me.0).mine ++ acts_in act
    pub agrees : Agrees r after stock
    pub others : OthersStay (the_lane me.0).lane w.lanes after w.stock stock
    -- the view after it has seen the whole history, with its act
    pub told : (v : Me S View) → SawAll w act r v.0 → Steps z kind (value_of words word) left me v act r → then (value_of words word) v

  -- the lane makes a step that leaves this value in the word of a row, and is told this
  pub record MakesBits (shard row : ℕ) (me : Me S View) (left : ℕ) (then : ℕ → Me S View → Type 0) : Type 0 where
    pub act : Option Act
    pub after : Lanes
    pub stock : Stock
    pub r : LaneRecord
    pub keeps : KeepsBits z (moment_of words w) shard row left act after
    pub shared : Shared content room spots z (with_act w.history act) (w.kept ++ rooms_in r act) slots stock
    pub by : IsBy (the_lane me.0).lane act
    pub owned : IsOwned act
    pub lane_is : r.lane ≡ (the_lane me.0).lane
    pub mine : r.mine ≡ (the_lane me.0).mine ++ acts_in act
    pub agrees : Agrees r after stock
    pub others : OthersStay (the_lane me.0).lane w.lanes after w.stock stock
    pub told : (v : Me S View) → SawAll w act r v.0 → RowSteps z me v act r → then (words.bits shard row) v

  -- the lane makes a step that leaves this value in the lifecycle word of the place, and is told this
  pub record Makes (place : ℕ) (me : Me S View) (left : ℕ) (then : ℕ → Me S View → Type 0) : Type 0 where
    pub kind : Kind
    pub act : Option Act
    pub under : Pending
    -- the shares and what the lane knows of cells after it
    pub stock : Stock
    pub cells : List (ℕ × Stored)
    pub keeps : Keeps z (moment_of words w) kind (Life place) left act (with_under w.lanes (the_lane me.0).lane under)
    pub shared : Shared content room spots z (with_act w.history act) (w.kept ++ rooms_in (record (after_step (the_lane me.0) act under) { cells = cells }) act) slots stock
    pub by : IsBy (the_lane me.0).lane act
    pub owned : IsOwned act
    pub deeds_are : (p k : ℕ) → status_of (the_lane me.0) p k ≡ stock.status (the_lane me.0).lane p k
    pub cells_are : (p : ℕ) → known_in cells p ≡ stock.knows (the_lane me.0).lane p
    pub statuses : (l : ℕ) → l ≢ (the_lane me.0).lane → (p k : ℕ) → stock.status l p k ≡ w.stock.status l p k
    pub knows : (l : ℕ) → l ≢ (the_lane me.0).lane → (p : ℕ) → stock.knows l p ≡ w.stock.knows l p
    pub told : (v : Me S View) → SawAll w act (record (after_step (the_lane me.0) act under) { cells = cells }) v.0
        → Steps z kind (words.life place) left me v act (record (after_step (the_lane me.0) act under) { cells = cells }) → then (words.life place) v

  -- a step of a lifecycle word that moves no share and changes no cell
  pub record MakesQuietly (place : ℕ) (me : Me S View) (left : ℕ) (then : ℕ → Me S View → Type 0) : Type 0 where
    pub kind : Kind
    pub act : Option Act
    pub under : Pending
    pub keeps : Keeps z (moment_of words w) kind (Life place) left act (with_under w.lanes (the_lane me.0).lane under)
    pub by : IsBy (the_lane me.0).lane act
    pub quiet : IsStill z w act
    pub told : (v : Me S View) → LifeSteps z kind (words.life place) left me v act under → then (words.life place) v

  -- which is a step as any other
  pub quietly : {place : ℕ} {me : Me S View} {left : ℕ} {then : ℕ → Me S View → Type 0} → IsPoint content room spots z words w slots → IsAt z w me.0
      → MakesQuietly place me left then → Makes place me left then
  quietly {place} {me} {left} {then} point at made = record {
    kind = made.kind;
    act = made.act;
    under = made.under;
    stock = w.stock;
    cells = (the_lane me.0).cells;
    keeps = made.keeps;
    shared = shared-still content room spots z words w slots point made.act (after_step (the_lane me.0) made.act made.under) made.keeps.allowed made.quiet;
    by = made.by;
    owned = still-owned z w made.act made.quiet;
    deeds_are = at.record_is.deeds;
    cells_are = at.record_is.cells;
    statuses = λ l other p k. refl;
    knows = λ l other p. refl;
    told = λ v saw steps. made.told v steps;
  }

-- through the table, of slots for shares
module _ {T : Type 0} (content : T → List ℕ) (room : T → ℕ) (spots : ℕ → CellSpot) (z : Shape) (slot_count id : ℕ) (me : Me (Option (Share T)) View) (one : IsOne me.0) where
  -- a step that a lane makes at any moment at which the rule holds is one that the table allows
  pub word-allows : (word : Word) → has_word z word ≡ true → (f : ℕ → ℕ) (then : ℕ → Me (Option (Share T)) View → Type 0)
      → ((words : Words) (w : World) (slots : Slots T) → IsPoint content room spots z words w slots → IsAt z w me.0 → value_of words word < 18446744073709551616
      → MakesAt content room spots z words w slots word me (f (value_of words word)) then)
      → Allows (Kept content room spots z) slot_count id me (index_in z word) f then
  word-allows word inside f then makes s kept homes at small =
      let w : World = kept.0 in
      let st = kept.1 in
      let words : Words = words_in z s.words in
      let i : ℕ = index_in z word in
      let is : value_of words word ≡ slice_index s.words i = value-is z s.words word inside in
      let point = is-point content room spots z id me one w s.homes s.words s.views st at in
      let here = is-at content room spots z id me one w s.homes s.words s.views st at in
      let made = makes words w (slots_in z s.homes) point here (subst (λ (n : ℕ). n < 18446744073709551616) (sym is) small) in
      let left : ℕ = f (value_of words word) in
      let n : World = world_after w made.act made.after made.stock made.r in
      let view : View = step_view me.0 made.r n in
      let e = step-stands content room spots z id me one w s.homes s.words s.views st at made.kind word left made.act made.after made.stock made.r inside
      made.keeps made.shared made.by made.owned made.lane_is made.mine made.agrees made.others in
      let told = made.told (view, me.1) (refl, refl) (subst (λ (x : ℕ). Steps z made.kind x left me (view, me.1) made.act made.r) (sym is) e.1) in (
        view,
        table.keeps,
        tt,
        (n, subst (λ (x : ℕ). Stands content room spots z n s.homes (slice_set s.words i (f x)) (slice_set s.views id view)) is e.0),
        subst (λ (x : ℕ). then x (view, me.1)) is told,
      )

  -- and so is a step of the word of a row
  pub bits-allows : (shard row : ℕ) → has_row z shard row ≡ true → (f : ℕ → ℕ) (then : ℕ → Me (Option (Share T)) View → Type 0)
      → ((words : Words) (w : World) (slots : Slots T) → IsPoint content room spots z words w slots → IsAt z w me.0 → words.bits shard row < 18446744073709551616
      → MakesBits content room spots z words w slots shard row me (f (words.bits shard row)) then)
      → Allows (Kept content room spots z) slot_count id me (bits_index z shard row) f then
  bits-allows shard row inside f then makes s kept homes at small =
      let w : World = kept.0 in
      let st = kept.1 in
      let words : Words = words_in z s.words in
      let i : ℕ = bits_index z shard row in
      let is : words.bits shard row ≡ slice_index s.words i = bits-is z s.words shard row inside in
      let point = is-point content room spots z id me one w s.homes s.words s.views st at in
      let here = is-at content room spots z id me one w s.homes s.words s.views st at in
      let made = makes words w (slots_in z s.homes) point here (subst (λ (n : ℕ). n < 18446744073709551616) (sym is) small) in
      let left : ℕ = f (words.bits shard row) in
      let n : World = world_after w made.act made.after made.stock made.r in
      let view : View = step_view me.0 made.r n in
      let e = bits-stands content room spots z id me one w s.homes s.words s.views st at shard row left made.act made.after made.stock made.r inside
      made.keeps made.shared made.by made.owned made.lane_is made.mine made.agrees made.others in
      let told = made.told (view, me.1) (refl, refl) e.1 in (
        view,
        table.keeps,
        tt,
        (n, subst (λ (x : ℕ). Stands content room spots z n s.homes (slice_set s.words i (f x)) (slice_set s.views id view)) is e.0),
        subst (λ (x : ℕ). then x (view, me.1)) is told,
      )

  -- the same of a step of a lifecycle word
  pub life-allows : (place : ℕ) → is_place z place ≡ true → (f : ℕ → ℕ) (then : ℕ → Me (Option (Share T)) View → Type 0)
      → ((words : Words) (w : World) (slots : Slots T) → IsPoint content room spots z words w slots → IsAt z w me.0 → words.life place < 18446744073709551616
      → Makes content room spots z words w slots place me (f (words.life place)) then)
      → Allows (Kept content room spots z) slot_count id me (index_in z (Life place)) f then
  life-allows place inside f then makes = word-allows (Life place) inside f then (λ words w slots point at small.
      let made = makes words w slots point at small in
      let r : LaneRecord = the_lane me.0 in record {
        kind = made.kind;
        act = made.act;
        after = with_under w.lanes r.lane made.under;
        stock = made.stock;
        r = record (after_step r made.act made.under) { cells = made.cells };
        keeps = made.keeps;
        shared = made.shared;
        by = made.by;
        owned = made.owned;
        lane_is = refl;
        mine = refl;
        agrees = record {
          under = sym (at-here w.lanes.under r.lane made.under r.lane refl);
          pushed = at.record_is.pushed;
          chain = at.record_is.chain;
          deeds = made.deeds_are;
          cells = made.cells_are;
        };
        others = λ l other. record {
          under = at-else w.lanes.under r.lane made.under l other;
          pushed = λ shard. refl;
          chain = refl;
          status = made.statuses l other;
          knows = made.knows l other;
        };
        told = λ v saw steps. made.told v saw steps;
      })
