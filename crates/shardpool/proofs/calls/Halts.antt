-- What a lane's last call leaves, by its parts: the calls over its hand, the share that goes back in front of a release, and no step at all.
use Rattle.std.proofs.Common.{◌≡◌, ◌⊎◌, ℕ, ◌<◌, ◌≤◌, Bool, true, false, cond, eqb, List, [], ◌∷◌, map, length, Option, Some, None, refl, sym, ap, ◌∙◌, subst, arith}
use Rattle.atomic_table.specs.Table.{Me}
use Rattle.atomic_table.specs.declared.shared.Seat.{Seat}
use Rattle.poolsteps.specs.Share.{Share}
use Rattle.keybits.specs.declared.shape.Shape.{Shape}
use Rattle.keybits.specs.declared.place.Place.{Place}
use Rattle.keybits.specs.declared.step.Kind.TheVariants as kinds
use Rattle.keybits.specs.declared.step.Word.TheVariants.{Life}
use Rattle.keybits.specs.Places.{number_of}
use Rattle.keybits.specs.Keys.{place_of, is_key}
use Rattle.steplaws.specs.Calls.{Call, Caller, aim, first_lane, take_next, next_step, AreSteps}
use Rattle.steplaws.specs.Calls.Call.{Getting, Clearing, Creating}
use Rattle.poolsteps.specs.declared.grid.Spot.{Spot}
use Rattle.poolsteps.specs.declared.view.View.{View}
use Rattle.poolsteps.specs.Grids.{IsSpot}
use Rattle.poolsteps.specs.Views.{the_lane, IsOne}
use Rattle.poolsteps.specs.Told.{references_seen}
use Rattle.seatcalls.specs.Called.{caller_of, Make, Did, IsLawful}
use Rattle.seatcalls.proofs.parts.Doing.{same-caller}
use Rattle.seatcalls.proofs.parts.Going.{none-acted, acted-more}
use Rattle.shardpool.specs.Halted.{CalledWithin}
use Rattle.shardpool.proofs.parts.Within.{at-end}
use Rattle.shardpool.specs.declared.pool.LaneState.{LaneState}
use Rattle.shardpool.specs.LaneStates.{Fits}
use Rattle.shardpool.specs.Tokens.{PoolOf, LaneOf}
use Rattle.shardpool.specs.declared.halt.LastCall.{LastCall}
use Rattle.shardpool.specs.Halts.{HaltedOf, HaltsIn, IsOutside, AreParts, last_call}
use Rattle.shardpool.proofs.calls.KeyCalls.{Ready}
use Rattle.shardpool.proofs.calls.Releases.{Refers}

-- ---- the calls over a hand

-- a call that has no first step makes none
pub halts-none : {S : Type 0} {z : Shape} {a : Me S View} (call : Call) (limit : ℕ) → IsOne a.0 → IsLawful z a.0 → next_step (caller_of z a.0) call [] ≡ None
    → CalledWithin z call limit a a
halts-none {z = z} {a = a} call limit one seen none = record {
  steps = [];
  made = [];
  are = tt;
  ends = at-end 0 limit (next_step (caller_of z a.0) call [] ≡ None) (omega arith) none;
  make = refl;
  acted = none-acted one seen;
  held = refl;
  stepped = omega arith;
}

-- moves of a place's shares in front of a call
pub halts-behind : {S : Type 0} {z : Shape} {call : Call} {place looks limit : ℕ} {a b c : Me S View} → Did z place [] 0 looks a b
    → (the_lane b.0).pushed ≡ (the_lane a.0).pushed → CalledWithin z call limit b c → CalledWithin z call limit a c
halts-behind {z = z} {call = call} {limit = limit} {a = a} {b = b} moves pushed called =
    let same : caller_of z b.0 ≡ caller_of z a.0 = same-caller z a.0 b.0 moves.acted.lane pushed in record {
      steps = called.steps;
      made = called.made;
      are = subst (λ (x : Caller). AreSteps x call [] called.steps) same called.are;
      ends = subst (λ (x : Caller). (length called.steps ≡ limit) ⊎ ((length called.steps < limit) × (next_step x call called.steps ≡ None))) same called.ends;
      make = subst (λ (x : Caller). Make z x call called.steps called.made) same called.make;
      acted = acted-more moves.acted called.acted;
      held = called.held ∙ moves.held;
      stepped = let first = moves.stepped in let then = called.stepped in omega (arith, first, then);
    }

-- what is told without what the hand holds
pub halts-bare : {S : Type 0} {z : Shape} {call : Call} {limit : ℕ} {a b : Me S View} → CalledWithin z call limit a b
    → CalledWithin {S = Unit {0}} z call limit (a.0, []) (b.0, [])
halts-bare called = record {
  steps = called.steps;
  made = called.made;
  are = called.are;
  ends = called.ends;
  make = called.make;
  acted = called.acted;
  held = refl;
  stepped = called.stepped;
}

-- ---- what a halt leaves, by the call over its hand

module _ {S T : Type 0} {lane : LaneOf} {halted : HaltedOf} {limit : ℕ} {z : Shape} {a b : Me S View} (shape : lane.shape ≡ z) (before : a.0 ≡ lane.book)
    (after : halted.book ≡ b.0) where
  pub halts-by : (call : LastCall T) → (IsOutside z call → b ≡ a) → CalledWithin z (last_call lane call) limit a b → HaltsIn lane call limit halted
  halts-by call outside called = record {
    outside = λ out. after ∙ (ap (λ (m : Me S View). m.0) (outside (subst (λ (y : Shape). IsOutside y call) shape out)) ∙ before);
    called = subst (λ (y : Shape). CalledWithin {S = Unit {0}} y (last_call lane call) limit (lane.book, []) (halted.book, [])) (sym shape)
        (subst (λ (v : View). CalledWithin {S = Unit {0}} z (last_call lane call) limit (v, []) (halted.book, [])) before
        (subst (λ (v : View). CalledWithin {S = Unit {0}} z (last_call lane call) limit (a.0, []) (v, [])) (sym after) (halts-bare called)));
  }

-- ---- a call that has no first step

-- a get or a clear of a number that is no key of the shape
none-first : (b : Bool) (key : ℕ) → (b ≡ true → ⊥) → cond b (Some (aim kinds.Enter (Life (place_of key)))) None ≡ None
none-first true key outside = absurd (outside refl)
none-first false key outside = refl

pub outside-none : (c : Caller) (key : ℕ) → (is_key c.shape key ≡ true → ⊥) → (next_step c (Getting key) [] ≡ None) × (next_step c (Clearing key) [] ≡ None)
outside-none c key outside = (none-first (is_key c.shape key) key outside, none-first (is_key c.shape key) key outside)

-- a create of a lane whose list has a place
pub listed-none : (c : Caller) (own : List Place) (chain : List ℕ) (opened : ℕ) → 0 < length own → next_step c (Creating (map number_of own) chain opened) [] ≡ None
listed-none c [] chain opened some = absurd (omega (arith, some))
listed-none c (place ∷ own) chain opened some = refl

-- and of one that has nothing free, and no page
pub closed-none : (c : Caller) (own : List Place) (chain : List ℕ) (opened : ℕ) → length own ≤ 0 → chain ≡ [] → opened ≡ 0
    → next_step c (Creating (map number_of own) chain opened) [] ≡ None
closed-none c [] chain opened none bare closed =
    ap (λ (ps : List ℕ). next_step c (Creating [] ps opened) []) bare
    ∙ ap (λ (n : ℕ). cond (eqb n 0) None (take_next c (first_lane c.lane) [])) closed
closed-none c (place ∷ own) chain opened none bare closed = absurd (omega (arith, none))

-- ---- the parts of a lane

-- what the lane keeps fits at its own shape
pub fits-own : {T : Type 0} {content : T → List ℕ} {room : T → ℕ} {z : Shape} {v : View} {s : LaneState T} → Fits content room z v s → Fits content room s.shape v s
fits-own {content = content} {room = room} {v = v} {s = s} fits = subst (λ (y : Shape). Fits content room y v s) (sym fits.shape_is) fits

-- the parts of a lane, where a key's place stands
pub ready-parts : {T : Type 0} {content : T → List ℕ} {room : T → ℕ} {view pool : PoolOf} {hand : Seat (Option (Share T)) View} {s : LaneState T} {key : ℕ} {spot : Spot} → view ≡ pool
    → AreParts content room pool hand s → IsSpot pool.shape spot (place_of key) → Ready content room view.shape key spot hand.me.0 s
ready-parts {content = content} {room = room} {hand = hand} {s = s} {key = key} {spot = spot} of_pool parts there = record {
  fits = subst (λ (p : PoolOf). Fits content room p.shape hand.me.0 s) (sym of_pool) parts.fits;
  there = subst (λ (p : PoolOf). IsSpot p.shape spot (place_of key)) (sym of_pool) there;
}

-- what its calls ask of its hand
pub lawful-parts : {T : Type 0} {content : T → List ℕ} {room : T → ℕ} {view pool : PoolOf} {hand : Seat (Option (Share T)) View} {s : LaneState T} → view ≡ pool
    → AreParts content room pool hand s → IsLawful view.shape hand.me.0
lawful-parts {hand = hand} of_pool parts =
    let seat = parts.fits.seat in subst (λ (p : PoolOf). IsLawful p.shape hand.me.0) (sym of_pool) (seat.legal, seat.own, seat.quiet, seat.owners)

-- the parts of a lane that refers to a key
pub refers-parts : {T : Type 0} {content : T → List ℕ} {room : T → ℕ} {view pool : PoolOf} {hand : Seat (Option (Share T)) View} {s : LaneState T} {key : ℕ} → view ≡ pool
    → AreParts content room pool hand s → 1 ≤ references_seen pool.shape hand.me.0 key → Refers content room view.shape key hand.me.0 s
refers-parts {content = content} {room = room} {hand = hand} {s = s} {key = key} of_pool parts held = record {
  fits = subst (λ (p : PoolOf). Fits content room p.shape hand.me.0 s) (sym of_pool) parts.fits;
  some = let there = subst (λ (p : PoolOf). 1 ≤ references_seen p.shape hand.me.0 key) (sym of_pool) held in omega (arith, there);
}
