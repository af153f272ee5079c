-- A clear whose steps were one operation, as a call; and a call behind a look.
use Rattle.std.proofs.Common.{false, ◌≡◌, inl, inr, ⊎_elim, ℕ, ◌+◌, ◌≤◌, Bool, true, List, [], ◌∷◌, ◌++◌, append-nil, Option, Some, None, refl, sym, ap, ◌∙◌, subst, arith}
use Rattle.atomic_table.specs.Table.{Me}
use Rattle.poolsteps.specs.Spot.{Spot as CellSpot}
use Rattle.keybits.specs.declared.shape.Shape.{Shape}
use Rattle.keybits.specs.Keys.{place_of, generation_of, is_key}
use Rattle.keybits.specs.Words.{count_in}
use Rattle.seqpool.specs.declared.act.Act.{Act}
use Rattle.seqpool.specs.declared.act.Act.TheVariants as acts
use Rattle.steplaws.specs.StepLaws.{reclaim}
use Rattle.poolsteps.specs.declared.view.LaneRecord.{LaneRecord}
use Rattle.poolsteps.specs.Views.{head_record}
use Rattle.seatcalls.proofs.parts.SweptWords.{first, hit, owes, of, won, present, marks-present, owes-nothing}
use Rattle.seatcalls.proofs.parts.Doing.{did-sees, did-most, did-more, same-caller}
use Rattle.steplaws.specs.Calls.{Call, Caller, key_in, next_step, AreSteps, is_hit, owes_claim}
use Rattle.steplaws.specs.Calls.Call.{Clearing}
use Rattle.poolsteps.specs.declared.view.View.{View}
use Rattle.poolsteps.specs.Views.{the_lane, IsOne}
use Rattle.poolsteps.specs.Told.{Sees, claimed_under}
use Rattle.poolsteps.specs.AtOnce.{MakesSweep, MakesStrike, MakesMiss}
use Rattle.seatcalls.specs.declared.at.Reclaimed.{Reclaimed}
use Rattle.seatcalls.specs.Called.{caller_of, Make, Did, Called, end_acts, end_pushed, FitsGeneration, MovedNothing, EndsWithActs, Ends, Tails, TailActs}
use Rattle.shardpool.specs.Clears.{Clears, LooksTwice}
use Rattle.seatcalls.proofs.parts.Calling.{Opened, called-after, acts-behind, clear-marks, clear-misses}
use Rattle.seatcalls.proofs.parts.Standing.{HasLeft, HasClaimed, has-left, has-claimed, lawful}
use Rattle.seatcalls.proofs.parts.Ending.{ends-none, still-acts, ends-won, won-acts}

-- a call, allowed more looks; and one with a look in front of it
pub called-most : {S : Type 0} {z : Shape} {call : Call} {looks most : ℕ} {a c : Me S View} → Called z call looks a c → looks ≤ most → Called z call most a c
called-most called few = record {
  steps = called.steps;
  made = called.made;
  are = called.are;
  all = called.all;
  make = called.make;
  did = did-most called.did few;
  few = called.few;
  idle = called.idle;
}

pub called-looked : {S : Type 0} {z : Shape} {call : Call} {looks most : ℕ} {a b c : Me S View} → Sees z a b → Called z call looks b c → 1 + looks ≤ most → Called z call most a c
called-looked {z = z} {call = call} {looks = looks} {most = most} {a = a} {b = b} {c = c} sees called few =
    let still : the_lane b.0 ≡ the_lane a.0 = ap head_record sees.goes.lanes in
    let same : caller_of z b.0 ≡ caller_of z a.0 = same-caller z a.0 b.0 (ap (λ (r : LaneRecord). r.lane) still) (ap (λ (r : LaneRecord). r.pushed) still) in record {
      steps = called.steps;
      made = called.made;
      are = subst (λ (x : Caller). AreSteps x call [] called.steps) same called.are;
      all = subst (λ (x : Caller). next_step x call called.steps ≡ None) same called.all;
      make = subst (λ (x : Caller). Make z x call called.steps called.made) same called.make;
      did = did-most (subst (λ (n : ℕ). Did z (place_of (key_in call)) called.made n (1 + looks) a c) (omega arith) (did-more (did-sees sees) called.did)) few;
      few = called.few;
      idle = called.idle;
    }

-- the acts of a lane with this record, as `EndsWithActs` says them
abbrev ActsFrom : {T : Type 0} → Shape → ℕ → List Act → LaneRecord → View → Option (Reclaimed T) → Type 0
ActsFrom z place made r after reclaimed =
    ((generation : ℕ) × ((the_lane after).mine ≡ r.mine ++ (made ++ end_acts z r.lane place generation reclaimed)) × FitsGeneration z generation reclaimed)
    × ((the_lane after).pushed ≡ end_pushed r.pushed place reclaimed) × MovedNothing z place r (the_lane after) reclaimed

pub acts-looked : {S T : Type 0} {z : Shape} {a b : Me S View} (place : ℕ) (made : List Act) (c : View) (reclaimed : Option (Reclaimed T)) → Sees z a b
    → EndsWithActs z place made b.0 c reclaimed → EndsWithActs z place made a.0 c reclaimed
acts-looked {z = z} {a = a} {b = b} place made c reclaimed sees ends =
    let still : the_lane b.0 ≡ the_lane a.0 = ap head_record sees.goes.lanes in
    subst (λ (r : LaneRecord). ActsFrom z place made r c reclaimed) still ends

module _ {S : Type 0} {z : Shape} {key : ℕ} {a b : Me S View} (inside : is_key z key ≡ true) (sweeps : MakesSweep z key a b) where
  abbrev marked : Me S View
  marked = sweeps.2.0

  abbrev left : Me S View
  left = sweeps.2.2.0

  -- the clear up to its LEAVE
  opened : Opened z (Clearing key) (acts.Clear (the_lane a.0).lane key true) a marked
  opened = subst (λ (reply : Bool). Opened z (Clearing key) (acts.Clear (the_lane a.0).lane key reply) a marked) (present key)
      (clear-marks inside sweeps.1 (hit key) (inl sweeps.2.1))

  leave : HasLeft z key (first key + 6) marked left
  leave = has-left (inr (opened.hit, opened.under)) sweeps.2.2.1

  -- what the lane then has
  pub swept : HasClaimed z (place_of key) (generation_of key) left b
  swept = has-claimed sweeps.2.2.2 (won key)

  pub swept-held : b.1 ≡ a.1
  swept-held = swept.held ∙ (leave.held ∙ opened.opens.did.held)

  pub swept-lane : (the_lane b.0).lane ≡ (the_lane a.0).lane
  swept-lane = swept.acted.lane ∙ (leave.acted.lane ∙ opened.opens.did.acted.lane)

  pub swept-before : (the_lane left.0).lane ≡ (the_lane a.0).lane
  swept-before = leave.acted.lane ∙ opened.opens.did.acted.lane

  pub swept-under : (the_lane b.0).under ≡ claimed_under z (the_lane a.0).lane (place_of key) (generation_of key)
  swept-under = swept.under ∙ ap (λ (l : ℕ). claimed_under z l (place_of key) (generation_of key)) swept-before

  pub swept-pushed : (the_lane b.0).pushed ≡ (the_lane a.0).pushed
  swept-pushed = swept.pushed ∙ (leave.pushed ∙ opened.opens.pushed)

  -- the acts that it made
  pub swept-mine : (the_lane left.0).mine ≡ (the_lane a.0).mine ++ acts.Clear (the_lane a.0).lane key true ∷ []
  swept-mine = ap (λ (lanes : List LaneRecord). (head_record lanes).mine) (sweeps.2.2.1.1 opened.hit opened.under).goes.lanes
      ∙ (append-nil (the_lane marked.0).mine ∙ opened.opens.did.acted.mine)

  pub swept-reclaims : (the_lane b.0).mine ≡ (the_lane left.0).mine ++ reclaim z (the_lane left.0).lane (place_of key) (generation_of key) ∷ []
  swept-reclaims = ap (λ (lanes : List LaneRecord). (head_record lanes).mine) (sweeps.2.2.2.0 (won key)).4.goes.lanes

  -- with what follows, it is the clear
  module _ {c : Me S View} where
    pub swept-called : Tails z (place_of key) (generation_of key) b c → Called z (Clearing key) 34 a c
    swept-called tails = called-after opened refl sweeps.2.2.1 refl (ends-won (owes key) (of key) sweeps.2.2.2 (won key) tails)

    pub swept-acts : {T : Type 0} (reclaimed : Reclaimed T) → Tails z (place_of key) (generation_of key) b c → TailActs z (place_of key) (generation_of key) b.0 c.0 reclaimed
        → EndsWithActs z (place_of key) (acts.Clear (the_lane a.0).lane key true ∷ []) a.0 c.0 (Some reclaimed)
    swept-acts reclaimed tails made =
        let told = sweeps.2.2.2.0 (won key) in
        acts-behind opened refl sweeps.2.2.1 refl (ends-won (owes key) (of key) sweeps.2.2.2 (won key) tails) (Some reclaimed)
        (won-acts z (place_of key) (generation_of key) left.0 b.0 c.0 _ reclaimed told.4.goes.lanes refl refl refl made told.3)

-- ---- a clear of a key that someone refers to, up to its LEAVE as one operation

module _ {S : Type 0} {z : Shape} {key word : ℕ} {a b : Me S View} (inside : is_key z key ≡ true) (hits : is_hit key word ≡ true) (some : 1 ≤ count_in word) (strikes : MakesStrike z key word a b) where
  abbrev mid : Me S View
  mid = strikes.2.0

  struck-opened : Opened z (Clearing key) (acts.Clear (the_lane a.0).lane key true) a mid
  struck-opened = subst (λ (reply : Bool). Opened z (Clearing key) (acts.Clear (the_lane a.0).lane key reply) a mid) (marks-present key word hits)
      (clear-marks inside strikes.1 hits (inl strikes.2.1))

  struck-left : HasLeft z key (word + 6) mid b
  struck-left = has-left (inr (struck-opened.hit, struck-opened.under)) strikes.2.2

  struck-ends : Ends z (place_of key) (word + 6) b b
  struck-ends = ends-none struck-left.acted.one (lawful {made = struck-left.made} struck-left.acted) struck-left.owes (owes-nothing key word hits some)

  pub struck-called : Called z (Clearing key) 34 a b
  struck-called = called-after struck-opened refl strikes.2.2 refl struck-ends

  pub struck-mine : (the_lane b.0).mine ≡ (the_lane a.0).mine ++ acts.Clear (the_lane a.0).lane key true ∷ []
  struck-mine = ap (λ (lanes : List LaneRecord). (head_record lanes).mine) (strikes.2.2.1 struck-opened.hit struck-opened.under).goes.lanes
      ∙ (append-nil (the_lane mid.0).mine ∙ struck-opened.opens.did.acted.mine)

  pub struck-acts : (T : Type 0) → EndsWithActs {T = T} z (place_of key) (acts.Clear (the_lane a.0).lane key true ∷ []) a.0 b.0 None
  struck-acts T = acts-behind struck-opened refl strikes.2.2 refl struck-ends {T = T} None (still-acts T z (place_of key) b.0)

  -- behind a look
  pub struck-looked : {before : Me S View} → Sees z before a → (T : Type 0) → EndsWithActs {T = T} z (place_of key) (acts.Clear (the_lane before.0).lane key true ∷ []) before.0 b.0 None
  struck-looked {before = before} sees T =
      let still : the_lane a.0 ≡ the_lane before.0 = ap head_record sees.goes.lanes in
      subst (λ (l : ℕ). EndsWithActs {T = T} z (place_of key) (acts.Clear l key true ∷ []) before.0 b.0 None) (ap (λ (r : LaneRecord). r.lane) still)
      (acts-looked {T = T} (place_of key) (acts.Clear (the_lane a.0).lane key true ∷ []) b.0 None sees (struck-acts T))

-- ---- a clear that missed, as one operation

module _ {S : Type 0} {z : Shape} {key word : ℕ} {a b : Me S View} (inside : is_key z key ≡ true) (miss : is_hit key word ≡ false) (none : owes_claim (word + 4) ≡ false)
    (misses : MakesMiss z key word a b) where
  missed-opened : Opened z (Clearing key) (acts.Clear (the_lane a.0).lane key false) a misses.0
  missed-opened = clear-misses inside misses.1 miss

  missed-left : HasLeft z key (word + 4) misses.0 b
  missed-left = has-left (inr (missed-opened.hit, missed-opened.under)) misses.2

  missed-ends : Ends z (place_of key) (word + 4) b b
  missed-ends = ends-none missed-left.acted.one (lawful {made = missed-left.made} missed-left.acted) missed-left.owes none

  pub missed-called : Called z (Clearing key) 34 a b
  missed-called = called-after missed-opened refl misses.2 refl missed-ends

  pub missed-mine : (the_lane b.0).mine ≡ (the_lane a.0).mine ++ acts.Clear (the_lane a.0).lane key false ∷ []
  missed-mine = ap (λ (lanes : List LaneRecord). (head_record lanes).mine) (misses.2.1 missed-opened.hit missed-opened.under).goes.lanes
      ∙ (append-nil (the_lane misses.0.0).mine ∙ missed-opened.opens.did.acted.mine)

  pub missed-acts : (T : Type 0) → EndsWithActs {T = T} z (place_of key) (acts.Clear (the_lane a.0).lane key false ∷ []) a.0 b.0 None
  missed-acts T = acts-behind missed-opened refl misses.2 refl missed-ends {T = T} None (still-acts T z (place_of key) b.0)

-- ---- a clear, allowed more looks; and one with looks in front of it

module _ {S T : Type 0} {content : T → List ℕ} {room : T → ℕ} {z : Shape} {spot : CellSpot} {key lane : ℕ} {marked : Bool} {reclaimed : Option (Reclaimed T)} where
  pub clears-most : {looks most : ℕ} {a b : Me S View} → Clears content room z spot key lane looks a b marked reclaimed → looks ≤ most
      → Clears content room z spot key lane most a b marked reclaimed
  clears-most clears few = record { called = called-most clears.called few; acts = clears.acts; told = clears.told; at = clears.at }

  clears-looked : {looks most : ℕ} {a b c : Me S View} → Sees z a b → Clears content room z spot key lane looks b c marked reclaimed → 1 + looks ≤ most
      → Clears content room z spot key lane most a c marked reclaimed
  clears-looked {c = c} sees clears few = record {
    called = called-looked sees clears.called few;
    acts = acts-looked (place_of key) (acts.Clear lane key marked ∷ []) c.0 reclaimed sees clears.acts;
    told = clears.told;
    at = clears.at;
  }

  pub clears-behind : {looks : ℕ} {a b c : Me S View} → LooksTwice z a b → Clears content room z spot key lane looks b c marked reclaimed
      → Clears content room z spot key lane (2 + looks) a c marked reclaimed
  clears-behind {looks = looks} behind clears = ⊎_elim
      (λ sees. clears-looked sees clears (omega arith))
      (λ both. clears-looked both.1 (clears-looked {most = 1 + looks} both.2 clears (omega arith)) (omega arith))
      behind

-- a seat that looked, and did nothing, is as it was
pub record IsStill {S : Type 0} (a b : Me S View) : Type 0 where
  pub lane : the_lane b.0 ≡ the_lane a.0
  pub held : b.1 ≡ a.1
  pub one : IsOne b.0

sees-still : {S : Type 0} {z : Shape} {a b : Me S View} → Sees z a b → IsStill a b
sees-still sees = record {
  lane = ap head_record sees.goes.lanes;
  held = sees.held;
  one = sees.goes.lanes ∙ ap (λ (lanes : List LaneRecord). head_record lanes ∷ []) (sym sees.goes.lanes);
}

pub looks-still : {S : Type 0} {z : Shape} {a b : Me S View} → LooksTwice z a b → IsStill a b
looks-still looks = ⊎_elim sees-still
    (λ both. let first = sees-still both.1 in
    let second = sees-still both.2 in record { lane = second.lane ∙ first.lane; held = second.held ∙ first.held; one = second.one }) looks
