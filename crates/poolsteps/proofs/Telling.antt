-- A note is cut from a seat, another seat is told what it has, and looks.
use Rattle.poolsteps.specs.Spot.{Spot as CellSpot}
use Rattle.std.proofs.Common.{◌≡◌, ◌∷◌, ◌∙◌, ℕ, List, Option, refl, ap, sym, inl, inr, arith}
use Rattle.std.proofs.lemmas.List.Elements.{All-cons, All-head, All-same}
use Rattle.atomic_table.specs.Table as table
use Rattle.atomic_table.specs.Table.{Me, Allows, Splits, Joins}
use Rattle.keybits.specs.declared.shape.Shape.{Shape}
use Rattle.poolsteps.specs.Share.{Share}
use Rattle.poolsteps.specs.declared.view.View.{View}
use Rattle.poolsteps.specs.Views.{the_lane, IsOne}
use Rattle.poolsteps.specs.Rule.{World, IsBeginning, Kept}
use Rattle.poolsteps.specs.Seats.{note_of, looked_once, heard_of, told_by, longer, spent, HasHeard, SawLonger}
use Rattle.poolsteps.specs.Told.{Sees}
use Rattle.poolsteps.specs.Returned.{SeesTold, SeesNoFurther}
use Rattle.poolsteps.proofs.SeatLemmas.{look_view, is-at, look-stands}
use Rattle.poolsteps.proofs.Seeing.{agrees-now}
use Rattle.poolsteps.proofs.Joints.{IsSound, cut, join}

-- what a note has is a beginning of the history
told-sound : (z : Shape) (v u : View) (w : World) → IsSound z w v → IsSound z w u → IsSound z w (told_by v u)
told-sound z v u w one two = record {
  records = one.records;
  seen = record { acts = one.seen.acts; rooms = one.seen.rooms; paired = one.seen.paired };
  told = All-cons (IsBeginning w) (heard_of u) v.told two.seen one.told;
  own = one.own;
}

module _ {T : Type 0} (content : T → List ℕ) (room : T → ℕ) (spots : ℕ → CellSpot) (z : Shape) where
  -- a note has no lane
  pub noted : (id : ℕ) (v : View) → Splits (Kept content room spots z) id v (looked_once v) (note_of v)
  noted id v = cut content room spots z id v (looked_once v) (note_of v)
      record { inside = λ r among. among; seen = refl; rooms = refl; told = inl refl }
      record { inside = λ r among. absurd among; seen = refl; rooms = refl; told = inr refl }
      (λ lane. omega arith)

  pub hears : (id other : ℕ) (v u : View) → Joins (Kept content room spots z) id v other u (told_by v u) spent
  hears id other v u = join content room spots z id other v u (told_by v u) (told-sound z v u) (λ lane. omega arith)

  -- a look at any word, at which the seat takes in all that it was told
  pub see-told-allows : (slots id : ℕ) (me : Me (Option (Share T)) View) → IsOne me.0 → (index : ℕ)
      → Allows (Kept content room spots z) slots id me index (λ n. n) (λ found after. SeesTold z me after)
  see-told-allows slots id me one index s kept homes at small =
      let w : World = kept.0 in
      let st = kept.1 in
      let here = is-at content room spots z id me one w s.homes s.words s.views st at in
      let looks = look-stands content room spots z id me one w s.homes s.words s.views st at index s.homes w.stock (the_lane me.0) st.deep st.shared refl refl
      (agrees-now z w (the_lane me.0) here.record_is) (λ l other. record { under = refl; pushed = λ shard. refl; chain = refl; status = λ place number. refl; knows = λ place. refl }) in
      let sees : Sees z me (look_view me.0 (the_lane me.0) w, me.1) = record { goes = looks.1; held = refl; steps = refl; looks = refl } in (
        look_view me.0 (the_lane me.0) w,
        table.keeps,
        tt,
        (w, looks.0),
        (
          sees,
          λ k heard below.
              let begins = st.seats.told id me.0 at k heard below in record { acts = begins.acts; rooms = begins.rooms; paired = begins.paired },
        ),
      )

-- ---- what a look shows of a note that was taken in

module _ {S : Type 0} (z : Shape) (before told after : Me S View) (note : View) (is : told ≡ (told_by before.0 note, before.1)) where
  -- the note is what the seat was told last
  told-note : told.0.told ≡ heard_of note ∷ before.0.told
  told-note = ap (λ (m : Me S View). m.0.told) is

  pub heard-note : SeesTold z told after → HasHeard after.0 (heard_of note)
  heard-note sees =
      All-head (HasHeard after.0) (heard_of note) before.0.told
      (All-same (HasHeard after.0) (heard_of note ∷ before.0.told) told.0.told (sym told-note) sees.1)

  pub met-note : SeesNoFurther z told after → SawLonger before.0 (heard_of note) after.0 × HasHeard after.0 (heard_of note)
  met-note sees =
      let met = sees.1 (heard_of note) before.0.told told-note in
      let seen = met.0.0 ∙ ap (λ (m : Me S View). longer m.0.seen note.seen) is in
      let rooms = met.0.1 ∙ ap (λ (m : Me S View). longer m.0.rooms note.rooms) is in ((seen, rooms), met.1)
