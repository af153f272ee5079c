-- What steps, looks and moves of shares leave of a lane's view, one after another.
use Rattle.std.proofs.Common.{◌≡◌, ℕ, ◌+◌, List, [], ◌∷◌, ◌++◌, length, Option, Some, None, refl, sym, ap, ◌∙◌, subst, arith, append_assoc, append-nil, length-append}
use Rattle.atomic_table.specs.Table.{Me}
use Rattle.keybits.specs.declared.shape.Shape.{Shape}
use Rattle.keybits.specs.declared.step.Kind.{Kind}
use Rattle.seqpool.specs.declared.act.Act.{Act}
use Rattle.seqpool.specs.Histories.{acts_of}
use Rattle.poolsteps.specs.declared.view.LaneRecord.{LaneRecord}
use Rattle.poolsteps.specs.declared.view.View.{View}
use Rattle.poolsteps.specs.Views.{head_record, the_lane, acts_in, rooms_in, IsOne}
use Rattle.poolsteps.specs.Told.{GoesOn, Steps}
use Rattle.poolsteps.proofs.ViewLemmas.{prefix-self, prefix-trans}
use Rattle.seatcalls.specs.Acted.{Acted}
use Rattle.seatcalls.specs.Carried.{Carries}
use Rattle.seatcalls.specs.Called.{IsLawful}
use Rattle.seatcalls.specs.Taken.{Went}

-- ---- the acts of a lane

-- at first it made none
pub none-acted : {z : Shape} {v : View} → IsOne v → IsLawful z v → Acted z [] v v
none-acted {v = v} one seen = record {
  one = one;
  lane = refl;
  mine = sym (append-nil (the_lane v).mine);
  seen = prefix-self v.seen;
  rooms = ([], sym (append-nil v.rooms), omega arith);
  legal = seen.0;
  owners = seen.3;
  quiet = seen.2;
  own = seen.1;
}

-- it goes on with these acts, and rooms beside them
pub acted-goes : {z : Shape} {a b : View} {made : List Act} {rooms : List ℕ} {r : LaneRecord} → GoesOn z a b made rooms r → length rooms ≡ length made
    → r.lane ≡ (the_lane a).lane → r.mine ≡ (the_lane a).mine ++ made → Acted z made a b
acted-goes {a = a} {b = b} {made = made} {rooms = rooms} {r = r} goes even lane mine =
    let now : the_lane b ≡ r = ap head_record goes.lanes in
    let acts : length b.seen ≡ length a.seen + length goes.between + length made
    = ap length goes.seen ∙ (length-append (a.seen ++ goes.between) made ∙ ap (λ (n : ℕ). n + length made) (length-append a.seen goes.between)) in
    let beside = length-append goes.rooms_between rooms in
    let paired = goes.paired.1 in record {
      one = goes.lanes ∙ ap (λ (x : LaneRecord). x ∷ []) (sym now);
      lane = ap (λ (x : LaneRecord). x.lane) now ∙ lane;
      mine = ap (λ (x : LaneRecord). x.mine) now ∙ mine;
      seen = (goes.between ++ made, sym (goes.seen ∙ append_assoc a.seen goes.between made));
      rooms = (goes.rooms_between ++ rooms, goes.rooms ∙ append_assoc a.rooms goes.rooms_between rooms, omega arith);
      legal = goes.legal;
      owners = goes.owners;
      quiet = goes.quiet;
      own = subst (λ (x : LaneRecord). x.mine ≡ acts_of x.lane b.seen) (sym now) goes.mine;
    }

-- and then with more
pub acted-more : {z : Shape} {made more : List Act} {a b c : View} → Acted z made a b → Acted z more b c → Acted z (made ++ more) a c
acted-more {made = made} {more = more} {a = a} {b = b} {c = c} first second =
    let one = first.rooms.2 in
    let two = second.rooms.2 in
    let both = length-append first.rooms.0 second.rooms.0 in record {
      one = second.one;
      lane = second.lane ∙ first.lane;
      mine = second.mine ∙ (ap (λ (xs : List Act). xs ++ more) first.mine ∙ append_assoc (the_lane a).mine made more);
      seen = prefix-trans a.seen b.seen c.seen first.seen second.seen;
      rooms = (
        first.rooms.0 ++ second.rooms.0,
        second.rooms.1 ∙ (ap (λ (xs : List ℕ). xs ++ second.rooms.0) first.rooms.1 ∙ append_assoc a.rooms first.rooms.0 second.rooms.0),
        omega arith,
      );
      legal = second.legal;
      owners = second.owners;
      quiet = second.quiet;
      own = second.own;
    }

-- they are the lane's acts in what it has then seen, behind those that it had made
pub all-acts : {z : Shape} {made : List Act} {v w : View} → Acted z made v w → (the_lane v).mine ≡ acts_of (the_lane v).lane v.seen
    → acts_of (the_lane v).lane w.seen ≡ acts_of (the_lane v).lane v.seen ++ made
all-acts {made = made} {w = w} acted own =
    ap (λ (l : ℕ). acts_of l w.seen) (sym acted.lane) ∙ (sym acted.own ∙ (acted.mine ∙ ap (λ (xs : List Act). xs ++ made) own))

-- a room is kept beside the act of a step
pub even-in : (r : LaneRecord) (act : Option Act) → length (rooms_in r act) ≡ length (acts_in act)
even-in r None = refl
even-in r (Some act) = refl

-- ---- with what it pushed, and what it has under way

pub none-went : (z : Shape) (v : View) → IsOne v → IsLawful z v → Went z [] v v
none-went z v one seen = record { acted = none-acted one seen; pushed = refl; under = refl }

pub went-goes : {z : Shape} {a b : View} {made : List Act} {rooms : List ℕ} {r : LaneRecord} → GoesOn z a b made rooms r → length rooms ≡ length made
    → r.lane ≡ (the_lane a).lane → r.mine ≡ (the_lane a).mine ++ made → r.pushed ≡ (the_lane a).pushed → r.under ≡ (the_lane a).under → Went z made a b
went-goes {b = b} {r = r} goes even lane mine pushed under =
    let now : the_lane b ≡ r = ap head_record goes.lanes in record {
      acted = acted-goes goes even lane mine;
      pushed = ap (λ (x : LaneRecord). x.pushed) now ∙ pushed;
      under = ap (λ (x : LaneRecord). x.under) now ∙ under;
    }

pub went-more : {z : Shape} {made more : List Act} {a b c : View} → Went z made a b → Went z more b c → Went z (made ++ more) a c
went-more first second = record { acted = acted-more first.acted second.acted; pushed = second.pushed ∙ first.pushed; under = second.under ∙ first.under }

module _ {S : Type 0} {z : Shape} {a b : Me S View} where
  -- by one step
  pub went-step : {kind : Kind} {found left : ℕ} {act : Option Act} {r : LaneRecord} → Steps z kind found left a b act r
      → r.lane ≡ (the_lane a.0).lane → r.mine ≡ (the_lane a.0).mine ++ acts_in act → r.pushed ≡ (the_lane a.0).pushed → r.under ≡ (the_lane a.0).under
      → Went z (acts_in act) a.0 b.0
  went-step {act = act} {r = r} steps = went-goes steps.goes (even-in r act)

  -- by moves of a place's shares
  pub went-carries : {place n : ℕ} → Carries z place n a b → Went z [] a.0 b.0
  went-carries carries = let same = carries.elsewhere in
      went-goes carries.goes refl same.lane (same.mine ∙ sym (append-nil (the_lane a.0).mine)) same.pushed same.under
