-- What a call that makes no reference and gives none back leaves of a lane: a clear, and a get that misses.
use Rattle.std.proofs.Common.{ap, ◌≡◌, ℕ, ◌<◌, Bool, true, false, List, [], ◌∷◌, ◌++◌, Option, None, IfSome, refl, sym, ◌∙◌, subst}
use Rattle.std.proofs.lemmas.List.Elements.{All-nil, All-cons}
use Rattle.std.specs.List.{All}
use Rattle.atomic_table.specs.Table.{Me}
use Rattle.atomic_table.specs.Seated.{TableId}
use Rattle.keybits.specs.declared.shape.Shape.{Shape}
use Rattle.keybits.specs.Shapes.{is_place}
use Rattle.keybits.specs.Keys.{place_of}
use Rattle.seqpool.specs.declared.act.Act.{Act}
use Rattle.seqpool.specs.declared.act.Act.TheVariants as acts
use Rattle.poolsteps.specs.PlaceLaws.{gives_away}
use Rattle.poolsteps.specs.declared.view.View.{View}
use Rattle.poolsteps.specs.Views.{the_lane}
use Rattle.poolsteps.specs.Told.{IsIdle}
use Rattle.poolsteps.specs.ViewLaws.{references_made}
use Rattle.seatcalls.specs.declared.at.Reclaimed.{Reclaimed}
use Rattle.seatcalls.specs.Called.{Did as DidSo, IsReclaimed, EndsWithActs, MovedNothing, end_acts}
use Rattle.shardpool.specs.declared.pool.Places.{Places}
use Rattle.shardpool.specs.declared.pool.LaneState.{LaneState}
use Rattle.seatcalls.specs.Left.{held_after, has_retired}
use Rattle.shardpool.specs.Tokens.{FillingOf}
use Rattle.shardpool.specs.Stores.{Keeps}
use Rattle.shardpool.specs.LaneStates.{FitsRows, Fits}
use Rattle.shardpool.specs.Lanes.{Made, Did, freed}
use Rattle.seatcalls.proofs.parts.OtherShards.{NoneAbroad}
use Rattle.seatcalls.proofs.parts.Frames.{OnlyAt}
use Rattle.shardpool.proofs.frame.LaneFrames.{onlyat-clear, onlyat-get}
use Rattle.shardpool.proofs.calls.Ends.{Ended, ended, rows-ended, some-lane}
use Rattle.shardpool.proofs.references.Standings.{standing-same}
use Rattle.shardpool.proofs.frame.LaneFacts.{lane_of, made-passes, did-lane, filling-off, filling-kept}

-- acts of a place that leave the references of all keys, the places of the lane and its list
pub record IsQuiet (z : Shape) (lane place : ℕ) (first : List Act) : Type 0 where
  pub only : OnlyAt place first
  pub keeps : All (λ act. gives_away act place ≡ false) first
  pub freed_none : freed z lane first ≡ []
  pub alone : NoneAbroad z lane first
  pub still : (p : ℕ) (was : Bool) → has_retired z p first was ≡ was
  pub references : (key n : ℕ) → references_made first key n ≡ n
  pub held : (n : ℕ) → held_after first n ≡ n

-- what such a call leaves of a lane: it fits as before, did these acts and those that ended the place, has as many references, and its fillings are still its
pub record Quieted {T : Type 0} (content : T → List ℕ) (room : T → ℕ) (z : Shape) (first : List Act) (v w : View) (s t : LaneState T) : Type 0 where
  pub fits : Fits content room z w t
  pub did : (table table_now : TableId) → table_now ≡ table → (rest : List Act) × Did (first ++ rest) (lane_of table v s) (lane_of table_now w t)
  pub refs : held_after (the_lane w).mine 0 ≡ held_after (the_lane v).mine 0
  pub fillings : (table table_now : TableId) → table_now ≡ table → (filling : FillingOf T) → Made (lane_of table v s) filling → Made (lane_of table_now w t) filling

module _ {S T : Type 0} {content : T → List ℕ} {room : T → ℕ} {z : Shape} {place steps looks : ℕ} {made : List Act} {a b : Me S View} (s t : LaneState T) (first : List Act)
    (reclaimed : Option (Reclaimed T)) (fits : Fits content room z a.0 s) (did : DidSo z place made steps looks a b) (idle : IsIdle b.0)
    (acts_so : EndsWithActs z place first a.0 b.0 reclaimed) (told : IfSome reclaimed (IsReclaimed content room z place s.number b.0)) (inside : is_place z place ≡ true)
    (quiet : IsQuiet z s.number place first) (kept : Keeps place reclaimed s t) where
  quiet-ended : Ended content room z place reclaimed (first ++ end_acts z (the_lane a.0).lane place acts_so.0.0 reclaimed) a.0 b.0 s t
  quiet-ended = ended first reclaimed fits did idle acts_so told inside quiet.only quiet.keeps quiet.freed_none quiet.alone quiet.still kept

  -- what the lane keeps fits
  quiet-fits : Fits content room z b.0 t
  quiet-fits =
      let e = quiet-ended in
      let rows = rows-ended {v = a.0} {w = b.0} place (the_lane a.0).lane acts_so.0.0 first reclaimed fits e.moved e.passes quiet.references quiet.held in record {
        shape_is = e.same.2 ∙ fits.shape_is;
        placed = ap (λ (x : Places). x.shape) e.same.5 ∙ fits.placed;
        seat = e.seat;
        last_pushed = e.last_pushed;
        rows = subst (λ (n : ℕ). FitsRows content room z b.0 t.rows.items n) (sym e.same.1)
            (subst (λ x. FitsRows content room z b.0 x.items s.references) (sym e.same.0) rows);
        stores = e.stores;
        rights = e.rights;
        standing = standing-same (ap (λ x. x.items) e.same.0) e.same.6 fits.standing;
      }

  -- what it did
  quiet-did : (table table_now : TableId) → table_now ≡ table → Did (first ++ end_acts z (the_lane a.0).lane place acts_so.0.0 reclaimed) (lane_of table a.0 s) (lane_of table_now b.0 t)
  quiet-did table table_now same =
      let e = quiet-ended in
      did-lane z (lane_of table a.0 s) (lane_of table_now b.0 t) fits.shape_is (e.same.2 ∙ fits.shape_is) e.same.3 same e.same.6 e.passes fits.seat.own e.list e.same.4

  -- its references are as many
  quiet-refs : held_after (the_lane b.0).mine 0 ≡ held_after (the_lane a.0).mine 0
  quiet-refs = let e = quiet-ended in let now = quiet-fits in sym now.rows.by_acts ∙ (e.same.1 ∙ fits.rows.by_acts)

  -- and its fillings are still its
  quiet-fillings : (table table_now : TableId) → table_now ≡ table → (filling : FillingOf T) → Made (lane_of table a.0 s) filling → Made (lane_of table_now b.0 t) filling
  quiet-fillings table table_now same filling was =
      let e = quiet-ended in
      let some : 0 < s.shape.lanes = subst (λ (y : Shape). 0 < y.lanes) (sym fits.shape_is) (some-lane fits.seat) in
      let off = filling-off s.shape a.0 b.0 place (place_of filling.key) reclaimed some (subst (λ (y : Shape). MovedNothing y place (the_lane a.0) (the_lane b.0) reclaimed) (sym fits.shape_is) e.moved) was.emptied in
      made-passes z (lane_of table a.0 s) (lane_of table_now b.0 t) filling fits.shape_is (e.same.2 ∙ fits.shape_is) (sym fits.seat.number_is) e.same.3 same e.same.6 e.passes fits.seat.paired fits.seat.own
      idle e.chain e.list e.same.4 off (filling-kept place (place_of filling.key) reclaimed e off) was

  pub quieted : Quieted content room z first a.0 b.0 s t
  quieted = record { fits = quiet-fits; did = λ table table_now same. (_, quiet-did table table_now same); refs = quiet-refs; fillings = quiet-fillings }

-- a clear is quiet, and so is a get that misses
pub quiet-clear : (z : Shape) (own lane key : ℕ) (reply : Bool) → IsQuiet z own (place_of key) (acts.Clear lane key reply ∷ [])
quiet-clear z own lane key reply = record {
  only = onlyat-clear lane key reply;
  keeps = All-cons (λ act. gives_away act (place_of key) ≡ false) (acts.Clear lane key reply) [] refl (All-nil (λ act. gives_away act (place_of key) ≡ false));
  freed_none = refl;
  alone = λ p inside other. refl;
  still = λ p was. refl;
  references = λ k n. refl;
  held = λ n. refl;
}

pub quiet-miss : (z : Shape) (own lane key : ℕ) → IsQuiet z own (place_of key) (acts.Get lane key None ∷ [])
quiet-miss z own lane key = record {
  only = onlyat-get lane key None;
  keeps = All-cons (λ act. gives_away act (place_of key) ≡ false) (acts.Get lane key None) [] refl (All-nil (λ act. gives_away act (place_of key) ≡ false));
  freed_none = refl;
  alone = λ p inside other. refl;
  still = λ p was. refl;
  references = λ k n. refl;
  held = λ n. refl;
}
