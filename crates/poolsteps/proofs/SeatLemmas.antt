-- One lane's seat steps: the table's rule goes on, and what the seat is told.
use Rattle.poolsteps.specs.Spot.{Spot as CellSpot}
use Rattle.keybits.specs.Shapes.{callers}
use Rattle.std.proofs.Common.{◌≡◌, ◌≢◌, inl, ⊎_elim, ℕ, zero, suc, ◌+◌, ◌<◌, true, cond, eqb, List, [], ◌∷◌, ◌++◌, length, length-append, length-set, take, drop, take-append-drop, Option, Some, None, slice_index, slice_index_or, slice_set, refl, ap, sym, ◌∙◌, subst, arith, append-nil}
use Rattle.std.specs.List.{All}
use Rattle.std.proofs.lemmas.List.{length-take-le}
use Rattle.std.proofs.lemmas.List.Elements.{All-nil, All-same}
use mathlib.Core.Option as maybe
use mathlib.Core.Option.{some}
use mathlib.Core.List.{IsPrefix}
use lib.ListN.{get_elem?}
use Rattle.atomic_table.specs.Table.{Me}
use Rattle.atomic_table.proofs.Lists.{at_set}
use Rattle.keybits.specs.declared.shape.Shape.{Shape}
use Rattle.keybits.specs.declared.step.Kind.{Kind}
use Rattle.keybits.specs.declared.step.Word.{Word}
use Rattle.keybits.specs.Steps.{Changes}
use Rattle.seqpool.specs.declared.act.Act.{Act}
use Rattle.seqpool.specs.Pool.{lane_of, fresh, IsLegal}
use Rattle.seqpool.specs.Histories.{acts_of}
use Rattle.seqpool.proofs.Growth.{legal-front, acts-mine, acts-others}
use Rattle.poolsteps.specs.Share.{Share}
use Rattle.poolsteps.specs.Shares.{Slots, Stock, Shared}
use Rattle.steplaws.specs.Facts.{Words, Lanes, moment, Rule}
use Rattle.steplaws.specs.StepLaws.{with_act, Keeps, KeepsBits}
use Rattle.poolsteps.specs.declared.view.LaneRecord.{LaneRecord}
use Rattle.poolsteps.specs.declared.view.Heard.{Heard}
use Rattle.poolsteps.specs.declared.view.View.{View}
use Rattle.poolsteps.specs.Layout.{has_word, index_in, has_row, bits_index, words_in, slot_count, slots_in}
use Rattle.poolsteps.specs.Views.{the_lane, IsOne, pushed_in, status_of, known_of, In, times_in, acts_in, rooms_in}
use Rattle.poolsteps.specs.Rule.{World, IsRecord, IsBeginning, HasSeen, AreSeats, Stands}
use Rattle.poolsteps.specs.Seats.{heard_of}
use Rattle.poolsteps.specs.Owners.{ArePublishedByOwners}
use Rattle.poolsteps.specs.Told.{GoesOn, Steps, RowSteps}
use Rattle.poolsteps.proofs.LayoutLemmas.{value-is, set-word, set-bits}
use Rattle.poolsteps.proofs.Owning.{IsOwned, owners-with, owners-front}
use Rattle.poolsteps.proofs.Solo.{only-lane, quiet-now}
use Rattle.poolsteps.proofs.ViewLemmas.{times-some, in-one, among-set, among-two, prefix-self, prefix-trans, act-behind, none-behind, acts-between, shorter-begins}

-- the view of a seat with this lane, which saw all of a world
abbrev pub view_of : LaneRecord → World → ℕ → ℕ → View
view_of r w steps looks = record { lanes = r ∷ []; seen = w.history; rooms = w.kept; told = []; steps = steps; looks = looks }

-- the seat's view after a step, and after a look
abbrev pub step_view : View → LaneRecord → World → View
step_view v r w = view_of r w (v.steps + 1) v.looks

abbrev pub look_view : View → LaneRecord → World → View
look_view v r w = view_of r w v.steps (v.looks + 1)

-- the seat's view after a look that sees no further than this
abbrev pub short_view : View → World → List Act → View
short_view v w seen =
    record { lanes = the_lane v ∷ []; seen = seen; rooms = take (length seen) w.kept; told = []; steps = v.steps; looks = v.looks + 1 }

-- the world after a step of a lane that then has this record, where the lanes and the shares are then these
abbrev pub world_after : World → Option Act → Lanes → Stock → LaneRecord → World
world_after w act lanes stock r = record { history = with_act w.history act; kept = w.kept ++ rooms_in r act; lanes = lanes; stock = stock }

-- the world after a look, where the shares are then these
abbrev pub restocked_world : World → Stock → World
restocked_world w stock = record { history = w.history; kept = w.kept; lanes = w.lanes; stock = stock }

-- the act, if there is one, is by the lane
abbrev pub IsBy : ℕ → Option Act → Type 0
IsBy lane None = Unit {0}
IsBy lane (Some act) = lane_of act ≡ lane

-- a seat's lane is in the world as its record says, and its seat saw all of the lane's acts
pub record IsAt (z : Shape) (w : World) (v : View) : Type 0 where
  pub record_is : IsRecord z w (the_lane v)
  pub between : List Act
  pub seen : w.history ≡ v.seen ++ between
  pub others : acts_of (the_lane v).lane between ≡ []
  pub rooms_between : List ℕ
  pub rooms : w.kept ≡ v.rooms ++ rooms_between
  pub paired : (length v.rooms ≡ length v.seen) × (length rooms_between ≡ length between)

-- a lane is in one world as in another
pub record Stays (lane : ℕ) (old new : Lanes) (old_stock new_stock : Stock) : Type 0 where
  pub under : new.under lane ≡ old.under lane
  pub pushed : (shard : ℕ) → new.pushed shard lane ≡ old.pushed shard lane
  pub chain : new.chain lane ≡ old.chain lane
  pub status : (place number : ℕ) → new_stock.status lane place number ≡ old_stock.status lane place number
  pub knows : (place : ℕ) → new_stock.knows lane place ≡ old_stock.knows lane place

pub stays-same : (lane : ℕ) (lanes : Lanes) (stock : Stock) → Stays lane lanes lanes stock stock
stays-same lane lanes stock = record { under = refl; pushed = λ shard. refl; chain = refl; status = λ place number. refl; knows = λ place. refl }

-- the lanes but this one are as they were
abbrev pub OthersStay : ℕ → Lanes → Lanes → Stock → Stock → Type 0
OthersStay lane old new old_stock new_stock = (l : ℕ) → l ≢ lane → Stays l old new old_stock new_stock

-- the record says what these lanes and shares are at its lane
pub record Agrees (r : LaneRecord) (lanes : Lanes) (stock : Stock) : Type 0 where
  pub under : r.under ≡ lanes.under r.lane
  pub pushed : (shard : ℕ) → pushed_in r.pushed shard ≡ lanes.pushed shard r.lane
  pub chain : r.chain ≡ lanes.chain r.lane
  pub deeds : (place number : ℕ) → status_of r place number ≡ stock.status r.lane place number
  pub cells : (place : ℕ) → known_of r place ≡ stock.knows r.lane place

-- what a step or a look is made from: the rule and Share hold of these words and slots
pub record IsPoint {T : Type 0} (content : T → List ℕ) (room : T → ℕ) (spots : ℕ → CellSpot) (z : Shape) (words : Words) (w : World) (slots : Slots T) : Type 0 where
  pub rule : Rule z (moment words w.history w.lanes)
  pub paired : length w.kept ≡ length w.history
  pub shared : Shared content room spots z w.history w.kept slots w.stock

-- after a step of a lane, its acts and those of another lane
acts-own : (lane : ℕ) (history : List Act) (act : Option Act) → IsBy lane act → acts_of lane (with_act history act) ≡ acts_of lane history ++ acts_in act
acts-own lane history None by = sym (append-nil (acts_of lane history))
acts-own lane history (Some act) by = acts-mine lane history act by

acts-stay : (lane : ℕ) (history : List Act) (act : Option Act) → IsBy lane act → (l : ℕ) → l ≢ lane → acts_of l (with_act history act) ≡ acts_of l history
acts-stay lane history None by l other = refl
acts-stay lane history (Some act) by l other = acts-others l history act (λ is. other (sym is ∙ by))

-- the rooms stay as many as the acts
still-paired : (kept : List ℕ) (history : List Act) (act : Option Act) (r : LaneRecord) → length kept ≡ length history
    → length (kept ++ rooms_in r act) ≡ length (with_act history act)
still-paired kept history None r same = ap length (append-nil kept) ∙ same
still-paired kept history (Some act) r same =
    let one = length-append kept (rooms_in r (Some act)) in
    let other = length-append history (act ∷ []) in omega arith

-- a list in which a word becomes what it was
still : (words : List ℕ) (index : ℕ) → slice_set words index (slice_index words index) ≡ words
still [] index = refl
still (x ∷ more) zero = refl
still (x ∷ more) (suc index) = ap (λ (rest : List ℕ). x ∷ rest) (still more index)

-- a seat of one lane
module _ (z : Shape) (w : World) (views : List View) (seats : AreSeats z w views) (id : ℕ) (v : View)
    (at : get_elem? views id ≡ some v) (one : IsOne v) where
  own-in : In (the_lane v) v.lanes
  own-in = subst (In (the_lane v)) (sym one) (inl refl)

  own-record : IsRecord z w (the_lane v)
  own-record = seats.records (the_lane v) (id, v, at, own-in)

  -- the record of another seat is of another lane
  other-lane : (seat : ℕ) (u : View) (r : LaneRecord) → seat ≢ id → get_elem? views seat ≡ some u → In r u.lanes → r.lane ≢ (the_lane v).lane
  other-lane seat u r other there among same =
      let theirs : 0 < times_in (the_lane v).lane u.lanes = subst (λ (lane : ℕ). 0 < times_in lane u.lanes) same (times-some r u.lanes among) in
      let ours = times-some (the_lane v) v.lanes own-in in
      let both = among-two (the_lane v).lane views seat id u v other there at in
      let once = seats.once (the_lane v).lane in omega arith

  -- behind what the seat saw no act is of its lane
  none-since : (between : List Act) → v.seen ++ between ≡ w.history → acts_of (the_lane v).lane between ≡ []
  none-since between is = none-behind (the_lane v).lane v.seen between w.history is (sym (seats.own id v (the_lane v) at own-in) ∙ own-record.mine)

  seat-at : length w.kept ≡ length w.history → IsAt z w v
  seat-at paired =
      let begins = seats.seen id v at in
      let acts = ap length begins.acts.1 in
      let rooms = ap length begins.rooms.1 in
      let split = length-append v.seen begins.acts.0 in
      let rooms_split = length-append v.rooms begins.rooms.0 in record {
        record_is = own-record;
        between = begins.acts.0;
        seen = sym begins.acts.1;
        others = none-since begins.acts.0 begins.acts.1;
        rooms_between = begins.rooms.0;
        rooms = sym begins.rooms.1;
        paired = (begins.paired, omega (arith, begins.paired));
      }

  -- the world is then this one, which has these acts more and the rooms beside them, and the seat's lane has this record
  module _ (n : World) (made : List Act) (rooms_made : List ℕ) (grows : n.history ≡ w.history ++ made) (more : n.kept ≡ w.kept ++ rooms_made)
      (r : LaneRecord) (is : IsRecord z n r) (same : r.lane ≡ (the_lane v).lane) (steps looks : ℕ) where
    abbrev u : View
    u = view_of r n steps looks

    -- what the seat is told of its acts
    goes-on : length w.kept ≡ length w.history → (words : Words) → Rule z (moment words n.history n.lanes) → ArePublishedByOwners n.history
        → GoesOn z v u made rooms_made r
    goes-on paired words rule owners = let here = seat-at paired in record {
      lanes = refl;
      between = here.between;
      seen = grows ∙ ap (λ (acts : List Act). acts ++ made) here.seen;
      rooms_between = here.rooms_between;
      rooms = more ∙ ap (λ (rooms : List ℕ). rooms ++ rooms_made) here.rooms;
      paired = here.paired;
      others = ap (λ (lane : ℕ). acts_of lane here.between) same ∙ here.others;
      legal = rule.legal;
      owners = owners;
      mine = is.mine;
      quiet = quiet-now z words n.history n.lanes r n.history n.kept steps looks rule is.inside is.under (λ one. refl);
    }

    -- a beginning of the world before is one of this
    begins-still : (heard : Heard) → IsBeginning w heard → IsBeginning n heard
    begins-still heard begins = record {
      acts = prefix-trans heard.seen w.history n.history begins.acts (made, sym grows);
      rooms = prefix-trans heard.rooms w.kept n.kept begins.rooms (rooms_made, sym more);
      paired = begins.paired;
    }

    -- where the other lanes did nothing, and are as they were, and the seat then has a view that saw all acts of its lane
    seats-with : (u : View) → u.lanes ≡ r ∷ [] → HasSeen n u → u.told ≡ [] → r.mine ≡ acts_of r.lane u.seen
        → ((l : ℕ) → l ≢ (the_lane v).lane → acts_of l n.history ≡ acts_of l w.history)
        → OthersStay (the_lane v).lane w.lanes n.lanes w.stock n.stock → AreSeats z n (slice_set views id u)
    seats-with u lone_lane sees untold own acts_stay lanes_stay = record {
      records = λ y has. ⊎_elim
          (λ (here : (has.0 ≡ id) × (u ≡ has.1)).
          let lone : y ≡ r = in-one y r has.1.lanes (ap (λ (x : View). x.lanes) (sym here.1) ∙ lone_lane) has.3 in subst (IsRecord z n) (sym lone) is)
          (λ (there : (has.0 ≢ id) × (get_elem? views has.0 ≡ some has.1)).
          let old = seats.records y (has.0, has.1, there.1, has.3) in
          let other = other-lane has.0 has.1 y there.0 there.1 has.3 in
          let stay = lanes_stay y.lane other in record {
            inside = old.inside;
            mine = old.mine ∙ sym (acts_stay y.lane other);
            under = old.under ∙ sym stay.under;
            pushed = λ shard. old.pushed shard ∙ sym (stay.pushed shard);
            chain = old.chain ∙ sym stay.chain;
            deeds = λ place number. old.deeds place number ∙ sym (stay.status place number);
            cells = λ place. old.cells place ∙ sym (stay.knows place);
          })
          (at_set views id has.0 u has.1 has.2);
      seen = λ seat y e. ⊎_elim
          (λ (here : (seat ≡ id) × (u ≡ y)). subst (HasSeen n) here.1 sees)
          (λ (there : (seat ≢ id) × (get_elem? views seat ≡ some y)). begins-still (heard_of y) (seats.seen seat y there.1))
          (at_set views id seat u y e);
      told = λ seat y e. ⊎_elim
          (λ (here : (seat ≡ id) × (u ≡ y)). subst (λ (x : View). All (IsBeginning n) x.told) here.1
          (All-same (IsBeginning n) u.told [] untold (All-nil (IsBeginning n))))
          (λ (there : (seat ≢ id) × (get_elem? views seat ≡ some y)). λ k heard below.
          begins-still (slice_index_or y.told k heard) (seats.told seat y there.1 k heard below))
          (at_set views id seat u y e);
      own = λ seat y x e among. ⊎_elim
          (λ (here : (seat ≡ id) × (u ≡ y)).
          let lone : x ≡ r = in-one x r y.lanes (ap (λ (a : View). a.lanes) (sym here.1) ∙ lone_lane) among in
          subst (λ (a : LaneRecord). a.mine ≡ acts_of a.lane y.seen) (sym lone) (own ∙ ap (λ (a : View). acts_of r.lane a.seen) here.1))
          (λ (there : (seat ≢ id) × (get_elem? views seat ≡ some y)). seats.own seat y x there.1 among)
          (at_set views id seat u y e);
      once = λ lane.
          let set = among-set lane views id v u at in
          let most = seats.once lane in
          let before = ap (times_in lane) one in
          let now = ap (times_in lane) lone_lane in
          let like = ap (λ (l : ℕ). let n : ℕ = cond (eqb l lane) 1 0 in n) same in omega arith;
    }

    -- a view that saw all of it
    seats-after : length n.kept ≡ length n.history → ((l : ℕ) → l ≢ (the_lane v).lane → acts_of l n.history ≡ acts_of l w.history)
        → OthersStay (the_lane v).lane w.lanes n.lanes w.stock n.stock → AreSeats z n (slice_set views id u)
    seats-after paired = seats-with u refl record { acts = prefix-self n.history; rooms = prefix-self n.kept; paired = paired } refl is.mine

module _ {T : Type 0} (content : T → List ℕ) (room : T → ℕ) (spots : ℕ → CellSpot) (z : Shape) (id : ℕ) (me : Me (Option (Share T)) View) (one : IsOne me.0) (w : World)
    (homes : List (maybe.Option (Option (Share T)))) (words : List ℕ) (views : List View) (st : Stands content room spots z w homes words views)
    (at : get_elem? views id ≡ some me.0) where
  pub is-point : IsPoint content room spots z (words_in z words) w (slots_in z homes)
  is-point = record { rule = st.rule; paired = st.paired; shared = st.shared }

  pub is-at : IsAt z w me.0
  is-at = seat-at z w views st.seats id me.0 at one st.paired

  -- a step on a word of the pool that keeps the rule, after which the seat's lane has this record
  pub step-stands : (kind : Kind) (word : Word) (value : ℕ) (act : Option Act) (after : Lanes) (stock : Stock) (r : LaneRecord) → has_word z word ≡ true
      → Keeps z (moment (words_in z words) w.history w.lanes) kind word value act after
      → Shared content room spots z (with_act w.history act) (w.kept ++ rooms_in r act) (slots_in z homes) stock → IsBy (the_lane me.0).lane act → IsOwned act
      → r.lane ≡ (the_lane me.0).lane → r.mine ≡ (the_lane me.0).mine ++ acts_in act → Agrees r after stock
      → OthersStay (the_lane me.0).lane w.lanes after w.stock stock
      → Stands content room spots z (world_after w act after stock r) homes (slice_set words (index_in z word) value)
      (slice_set views id (step_view me.0 r (world_after w act after stock r)))
      × Steps z kind (slice_index words (index_in z word)) value me (step_view me.0 r (world_after w act after stock r), me.1) act r
  step-stands kind word value act after stock r inside keeps shared by owned same mine agrees stay =
      let lane : ℕ = (the_lane me.0).lane in
      let n : World = world_after w act after stock r in
      let own = own-record z w views st.seats id me.0 at one in
      let is : IsRecord z n r = record {
        inside = subst (λ (l : ℕ). l < (callers z)) (sym same) own.inside;
        mine = mine ∙ (ap (λ (acts : List Act). acts ++ acts_in act) own.mine
            ∙ (sym (acts-own lane w.history act by) ∙ ap (λ (l : ℕ). acts_of l n.history) (sym same)));
        under = agrees.under;
        pushed = agrees.pushed;
        chain = agrees.chain;
        deeds = agrees.deeds;
        cells = agrees.cells;
      } in
      let grows = act-behind w.history act in
      let paired = still-paired w.kept w.history act r st.paired in
      let owners = owners-with w.history act st.owners owned in (
        record {
          count = length-set words (index_in z word) value ∙ st.count;
          deep = st.deep;
          paired = paired;
          rule = subst (λ (ws : Words). Rule z (moment ws n.history after)) (sym (set-word z st.rule.limits words st.count word inside value)) keeps.rule;
          owners = owners;
          shared = shared;
          seats = seats-after z w views st.seats id me.0 at one n (acts_in act) (rooms_in r act) grows refl r is same (me.0.steps + 1) me.0.looks
              paired (acts-stay lane w.history act by) stay;
        },
        record {
          changes = subst (λ (found : ℕ). Changes z.last_generation kind found value) (value-is z words word inside) keeps.changes;
          goes = goes-on z w views st.seats id me.0 at one n (acts_in act) (rooms_in r act) grows refl r is same (me.0.steps + 1) me.0.looks
              st.paired _ keeps.rule owners;
          held = refl;
          steps = refl;
          looks = refl;
        },
      )

  -- a step on the word of a row that keeps the rule, after which the seat's lane has this record
  pub bits-stands : (shard row value : ℕ) (act : Option Act) (after : Lanes) (stock : Stock) (r : LaneRecord) → has_row z shard row ≡ true
      → KeepsBits z (moment (words_in z words) w.history w.lanes) shard row value act after
      → Shared content room spots z (with_act w.history act) (w.kept ++ rooms_in r act) (slots_in z homes) stock → IsBy (the_lane me.0).lane act → IsOwned act
      → r.lane ≡ (the_lane me.0).lane → r.mine ≡ (the_lane me.0).mine ++ acts_in act → Agrees r after stock
      → OthersStay (the_lane me.0).lane w.lanes after w.stock stock
      → Stands content room spots z (world_after w act after stock r) homes (slice_set words (bits_index z shard row) value)
      (slice_set views id (step_view me.0 r (world_after w act after stock r)))
      × RowSteps z me (step_view me.0 r (world_after w act after stock r), me.1) act r
  bits-stands shard row value act after stock r inside keeps shared by owned same mine agrees stay =
      let lane : ℕ = (the_lane me.0).lane in
      let n : World = world_after w act after stock r in
      let own = own-record z w views st.seats id me.0 at one in
      let is : IsRecord z n r = record {
        inside = subst (λ (l : ℕ). l < (callers z)) (sym same) own.inside;
        mine = mine ∙ (ap (λ (acts : List Act). acts ++ acts_in act) own.mine
            ∙ (sym (acts-own lane w.history act by) ∙ ap (λ (l : ℕ). acts_of l n.history) (sym same)));
        under = agrees.under;
        pushed = agrees.pushed;
        chain = agrees.chain;
        deeds = agrees.deeds;
        cells = agrees.cells;
      } in
      let grows = act-behind w.history act in
      let paired = still-paired w.kept w.history act r st.paired in
      let owners = owners-with w.history act st.owners owned in (
        record {
          count = length-set words (bits_index z shard row) value ∙ st.count;
          deep = st.deep;
          paired = paired;
          rule = subst (λ (ws : Words). Rule z (moment ws n.history after)) (sym (set-bits z st.rule.limits words st.count shard row inside value)) keeps.rule;
          owners = owners;
          shared = shared;
          seats = seats-after z w views st.seats id me.0 at one n (acts_in act) (rooms_in r act) grows refl r is same (me.0.steps + 1) me.0.looks
              paired (acts-stay lane w.history act by) stay;
        },
        record {
          goes = goes-on z w views st.seats id me.0 at one n (acts_in act) (rooms_in r act) grows refl r is same (me.0.steps + 1) me.0.looks
              st.paired _ keeps.rule owners;
          held = refl;
          steps = refl;
          looks = refl;
        },
      )

  -- a look at any word, after which the slots and the shares are these, and the seat's lane has this record
  pub look-stands : (index : ℕ) (homes_now : List (maybe.Option (Option (Share T)))) (stock : Stock) (r : LaneRecord) → length homes_now ≡ slot_count z
      → Shared content room spots z w.history w.kept (slots_in z homes_now) stock
      → r.lane ≡ (the_lane me.0).lane → r.mine ≡ (the_lane me.0).mine → Agrees r w.lanes stock
      → OthersStay (the_lane me.0).lane w.lanes w.lanes w.stock stock
      → Stands content room spots z (restocked_world w stock) homes_now (slice_set words index (slice_index words index))
      (slice_set views id (look_view me.0 r (restocked_world w stock)))
      × GoesOn z me.0 (look_view me.0 r (restocked_world w stock)) [] [] r
  look-stands index homes_now stock r deep shared same mine agrees stay =
      let n : World = restocked_world w stock in
      let own = own-record z w views st.seats id me.0 at one in
      let is : IsRecord z n r = record {
        inside = subst (λ (l : ℕ). l < (callers z)) (sym same) own.inside;
        mine = mine ∙ (own.mine ∙ ap (λ (l : ℕ). acts_of l w.history) (sym same));
        under = agrees.under;
        pushed = agrees.pushed;
        chain = agrees.chain;
        deeds = agrees.deeds;
        cells = agrees.cells;
      } in
      let grows : w.history ≡ w.history ++ [] = sym (append-nil w.history) in
      let more : w.kept ≡ w.kept ++ [] = sym (append-nil w.kept) in (
        record {
          count = length-set words index (slice_index words index) ∙ st.count;
          deep = deep;
          paired = st.paired;
          rule = subst (λ (ws : List ℕ). Rule z (moment (words_in z ws) w.history w.lanes)) (sym (still words index)) st.rule;
          owners = st.owners;
          shared = shared;
          seats = seats-after z w views st.seats id me.0 at one n [] [] grows more r is same me.0.steps (me.0.looks + 1)
              st.paired (λ l other. refl) stay;
        },
        goes-on z w views st.seats id me.0 at one n [] [] grows more r is same me.0.steps (me.0.looks + 1) st.paired (words_in z words) st.rule st.owners,
      )

  -- a look at any word that moves nothing, after which the seat saw this beginning of the history, which begins with what it saw before
  pub short-stands : (index : ℕ) (seen : List Act) → IsPrefix me.0.seen seen → IsPrefix seen w.history
      → Stands content room spots z w homes (slice_set words index (slice_index words index)) (slice_set views id (short_view me.0 w seen))
      × GoesOn z me.0 (short_view me.0 w seen) [] [] (the_lane me.0)
  short-stands index seen further begins =
      let v : View = me.0 in
      let r : LaneRecord = the_lane v in
      let u : View = short_view v w seen in
      let own = own-record z w views st.seats id v at one in
      let old = st.seats.seen id v at in
      let mine = st.seats.own id v r at (own-in z w views st.seats id v at one) in
      let all_seen : acts_of r.lane v.seen ≡ acts_of r.lane seen = acts-between r.lane v.seen seen w.history further begins (sym mine ∙ own.mine) in
      let none = none-behind r.lane v.seen further.0 seen further.1 all_seen in
      let length_begins = ap length begins.1 in
      let begins_split = length-append seen begins.0 in
      let length_further = ap length further.1 in
      let further_split = length-append v.seen further.0 in
      let many : length u.rooms ≡ length seen = length-take-le (length seen) w.kept (omega (arith, st.paired)) in
      let rooms_begin : IsPrefix u.rooms w.kept = (drop (length seen) w.kept, take-append-drop (length seen) w.kept) in
      let rooms_further = shorter-begins v.rooms u.rooms w.kept old.rooms rooms_begin (omega (arith, old.paired)) in
      let rooms_split = length-append v.rooms rooms_further.0 in
      let rooms_length = ap length rooms_further.1 in
      let legal : IsLegal z seen = legal-front z fresh seen begins.0 (subst (IsLegal z) (sym begins.1) st.rule.legal) in (
        record {
          count = length-set words index (slice_index words index) ∙ st.count;
          deep = st.deep;
          paired = st.paired;
          rule = subst (λ (ws : List ℕ). Rule z (moment (words_in z ws) w.history w.lanes)) (sym (still words index)) st.rule;
          owners = st.owners;
          shared = st.shared;
          seats = seats-with z w views st.seats id v at one w [] [] (sym (append-nil w.history)) (sym (append-nil w.kept)) r own refl v.steps (v.looks + 1)
              u refl record { acts = begins; rooms = rooms_begin; paired = many } refl (mine ∙ all_seen) (λ l other. refl) (λ l other. stays-same l w.lanes w.stock);
        },
        record {
          lanes = refl;
          between = further.0;
          seen = sym further.1 ∙ sym (append-nil (v.seen ++ further.0));
          rooms_between = rooms_further.0;
          rooms = sym rooms_further.1 ∙ sym (append-nil (v.rooms ++ rooms_further.0));
          paired = (old.paired, omega (arith, old.paired));
          others = none;
          legal = legal;
          owners = owners-front seen begins.0 (subst ArePublishedByOwners (sym begins.1) st.owners);
          mine = mine ∙ all_seen;
          quiet = quiet-now z (words_in z words) w.history w.lanes r seen u.rooms v.steps (v.looks + 1) st.rule own.inside own.under (λ one.
              sym (only-lane z r.lane seen one own.inside legal) ∙ (sym (mine ∙ all_seen) ∙ (own.mine ∙ only-lane z r.lane w.history one own.inside st.rule.legal)));
        },
      )
