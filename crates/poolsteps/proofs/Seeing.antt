-- SEE, through the table.
use Rattle.poolsteps.specs.Spot.{Spot as CellSpot}
use Rattle.std.proofs.Common.{◌≡◌, Bool, true, false, cond, ltb, [], ◌∷◌, length, take, ap, sym, ◌∙◌, ℕ, List, Option, refl, subst}
use Rattle.std.proofs.lemmas.List.{take_at}
use Rattle.atomic_table.specs.Table as table
use Rattle.atomic_table.specs.Table.{Me, Allows}
use Rattle.keybits.specs.declared.shape.Shape.{Shape}
use Rattle.poolsteps.specs.Share.{Share}
use Rattle.poolsteps.specs.declared.view.LaneRecord.{LaneRecord}
use Rattle.poolsteps.specs.declared.view.Heard.{Heard}
use Rattle.poolsteps.specs.declared.view.View.{View}
use Rattle.poolsteps.specs.Views.{the_lane, IsOne}
use Rattle.poolsteps.specs.Rule.{World, IsRecord, IsBeginning, HasSeen, Kept}
use Rattle.poolsteps.specs.Told.{Sees, SeesLife}
use Rattle.std.specs.List.{All}
use Rattle.std.proofs.lemmas.List.Elements.{All-head}
use mathlib.Core.List.{IsPrefix}
use Rattle.keybits.specs.declared.step.Word.TheVariants.{Life}
use Rattle.keybits.specs.Shapes.{is_place}
use Rattle.keybits.specs.Words.{generation_in}
use Rattle.seqpool.specs.declared.act.Act.{Act}
use Rattle.poolsteps.specs.Layout.{index_in}
use Rattle.poolsteps.specs.Seats.{heard_of, longer, HasHeard, SawLonger}
use Rattle.poolsteps.specs.Returned.{SeesNoFurther}
use Rattle.poolsteps.proofs.LayoutLemmas.{value-is}
use Rattle.poolsteps.proofs.ViewLemmas.{prefix-self, longer-begins}
use Rattle.poolsteps.proofs.SeatLemmas.{short_view, stays-same, short-stands, look_view, Agrees, is-at, look-stands}

-- ---- a look that sees no further than what was told last

-- the rooms beside a beginning of the history
rooms-beside : (w : World) (heard : Heard) → IsBeginning w heard → take (length heard.seen) w.kept ≡ heard.rooms
rooms-beside w heard begins = ap (take (length heard.seen)) (sym begins.rooms.1) ∙ take_at heard.rooms begins.rooms.0 (length heard.seen) begins.paired

rooms-of : (less : Bool) (w : World) (one other : Heard) → IsBeginning w one → IsBeginning w other
    → take (length (cond less other.seen one.seen)) w.kept ≡ cond less other.rooms one.rooms
rooms-of true w one other first second = rooms-beside w other second
rooms-of false w one other first second = rooms-beside w one first

-- beside the longer of two beginnings stand the longer of their rooms
longer-rooms : (w : World) (one other : Heard) → IsBeginning w one → IsBeginning w other
    → take (length (longer one.seen other.seen)) w.kept ≡ longer one.rooms other.rooms
longer-rooms w one other first second =
    let same : ltb (length one.rooms) (length other.rooms) ≡ ltb (length one.seen) (length other.seen)
    = ap (λ (n : ℕ). ltb n (length other.rooms)) first.paired ∙ ap (ltb (length one.seen)) second.paired in
    rooms-of (ltb (length one.seen) (length other.seen)) w one other first second ∙ ap (λ (b : Bool). cond b other.rooms one.rooms) (sym same)

-- a seat that then saw the longer of what it saw and of what it was told has heard that
saw-longer : (w : World) (v : View) (heard : Heard) → HasSeen w v → IsBeginning w heard
    → SawLonger v heard (short_view v w (longer v.seen heard.seen)) × HasHeard (short_view v w (longer v.seen heard.seen)) heard
saw-longer w v heard own told =
    let seen = longer-begins v.seen heard.seen w.history own.acts told.acts in
    let rooms = longer-begins v.rooms heard.rooms w.kept own.rooms told.rooms in
    let beside = longer-rooms w (heard_of v) heard own told in
    ((refl, beside), record { acts = seen.2; rooms = subst (IsPrefix heard.rooms) (sym beside) rooms.2; paired = told.paired })

-- what is seen then: the longer of what was seen and what was told last, if anything was
furthest : (told : List Heard) (v : View) (w : World) → HasSeen w v → All (IsBeginning w) told
    → (far : List Act) × IsPrefix v.seen far × IsPrefix far w.history
    × ((heard : Heard) (more : List Heard) → told ≡ heard ∷ more → SawLonger v heard (short_view v w far) × HasHeard (short_view v w far) heard)
furthest [] v w own all = (v.seen, prefix-self v.seen, own.acts, λ heard more is. absurd (cc is))
furthest (heard ∷ more) v w own all =
    let told = All-head (IsBeginning w) heard more all in
    let far : List Act = longer v.seen heard.seen in
    let most = longer-begins v.seen heard.seen w.history own.acts told.acts in (
      far,
      most.1,
      most.0,
      λ other rest is. let same : heard ≡ other = cc is in
          subst (λ (h : Heard). SawLonger v h (short_view v w far) × HasHeard (short_view v w far) h) same (saw-longer w v heard own told),
    )

-- ---- what the table allows

-- a record that is so agrees with its world
pub agrees-now : (z : Shape) (w : World) (r : LaneRecord) → IsRecord z w r → Agrees r w.lanes w.stock
agrees-now z w r is = record { under = is.under; pushed = is.pushed; chain = is.chain; deeds = is.deeds; cells = is.cells }

-- a look at any word that moves nothing is one that the table allows
pub see-allows : {T : Type 0} (content : T → List ℕ) (room : T → ℕ) (spots : ℕ → CellSpot) (z : Shape) (slots id : ℕ) (me : Me (Option (Share T)) View) → IsOne me.0 → (index : ℕ)
    → Allows (Kept content room spots z) slots id me index (λ n. n) (λ found after. Sees z me after)
see-allows content room spots z slots id me one index s kept homes at small =
    let w : World = kept.0 in
    let st = kept.1 in
    let here = is-at content room spots z id me one w s.homes s.words s.views st at in
    let looks = look-stands content room spots z id me one w s.homes s.words s.views st at index s.homes w.stock (the_lane me.0) st.deep st.shared refl refl
    (agrees-now z w (the_lane me.0) here.record_is) (λ l other. stays-same l w.lanes w.stock) in
    (look_view me.0 (the_lane me.0) w, table.keeps, tt, (w, looks.0), record { goes = looks.1; held = refl; steps = refl; looks = refl })

-- a look at the lifecycle word of a place
pub see-life-allows : {T : Type 0} (content : T → List ℕ) (room : T → ℕ) (spots : ℕ → CellSpot) (z : Shape) (slots id : ℕ) (me : Me (Option (Share T)) View) → IsOne me.0 → (place : ℕ)
    → is_place z place ≡ true → Allows (Kept content room spots z) slots id me (index_in z (Life place)) (λ n. n) (SeesLife z place me)
unfolding see-allows
see-life-allows content room spots z slots id me one place inside s kept homes at small =
    let sees = see-allows content room spots z slots id me one (index_in z (Life place)) s kept homes at small in
    let w : World = kept.0 in
    let told = ap generation_in (sym (value-is z s.words (Life place) inside)) ∙ (kept.1.rule.state place inside).1 in
    (sees.0, sees.1, sees.2, sees.3, (sees.4, told))

-- a look at any word that sees no further than what was told last
pub see-no-further-allows : {T : Type 0} (content : T → List ℕ) (room : T → ℕ) (spots : ℕ → CellSpot) (z : Shape) (slots id : ℕ) (me : Me (Option (Share T)) View) → IsOne me.0 → (index : ℕ)
    → Allows (Kept content room spots z) slots id me index (λ n. n) (λ found after. SeesNoFurther z me after)
see-no-further-allows content room spots z slots id me one index s kept homes at small =
    let w : World = kept.0 in
    let st = kept.1 in
    let far = furthest me.0.told me.0 w (st.seats.seen id me.0 at) (st.seats.told id me.0 at) in
    let looks = short-stands content room spots z id me one w s.homes s.words s.views st at index far.0 far.1 far.2 in
    (short_view me.0 w far.0, table.keeps, tt, (w, looks.0), (record { goes = looks.1; held = refl; steps = refl; looks = refl }, far.3))
