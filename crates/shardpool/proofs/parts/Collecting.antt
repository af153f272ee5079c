-- The TAKEs of a create: of one stack after another, each empty, up to the first that isn't.
use Rattle.std.proofs.Common.{◌≡◌, ◌≢◌, ⊎_elim, ◌==◌, ℕ, ◌+◌, ◌-◌, ◌<◌, ◌≤◌, Bool, true, false, cond, ltb, List, [], ◌∷◌, ◌++◌, length, Option, Some, None, refl, sym, ap, ◌∙◌, subst, arith, eq-eqb, ne_eqb, append_assoc, append-nil, length-append, if◌then◌else◌}
use Rattle.std.proofs.lemmas.Bool.{cases_Bool, ltb-true, ltb-false, lt-ltb, le-ltb}
use mathlib.Core.Logic.{dite}
use native.Mathlib.Decide.{ℕ_discrete}
use Rattle.atomic_table.specs.Table.{Me}
use Rattle.keybits.specs.declared.shape.Shape.{Shape}
use Rattle.keybits.specs.declared.step.Kind.TheVariants as kinds
use Rattle.keybits.specs.declared.step.Step.{Step}
use Rattle.keybits.specs.declared.step.Word.TheVariants.{Stack}
use Rattle.keybits.specs.Places.{shard_of}
use Rattle.keybits.specs.Shapes.{is_place}
use Rattle.seqpool.specs.declared.act.Act.{Act}
use Rattle.seqpool.specs.declared.act.Act.TheVariants as acts
use Rattle.seqpool.specs.Pool.{with, Spot, Pool, has, AllHome, Allowed, fresh, pool_after, IsLegal}
use Rattle.seqpool.specs.Histories.{acts_of}
use Rattle.seqpool.proofs.Growth.{pool-snoc, legal-rest, after-here}
use Rattle.poolsteps.specs.declared.view.Stored.{Stored}
use Rattle.poolsteps.specs.Shares.{room_of}
use Rattle.steplaws.specs.Facts.{home_in, lane_home, returner}
use Rattle.steplaws.proofs.HomePlaces.{lane-part}
use Rattle.steplaws.specs.Calls.{Call, Caller, aim, next_lane, first_lane, follow_next, take_next, next_step, AreSteps, TakeMakes}
use Rattle.steplaws.specs.Calls.Call.{Creating}
use Rattle.steplaws.specs.MomentLaws.{HomeStaysLaw}
use Rattle.poolsteps.specs.declared.view.LaneRecord.{LaneRecord}
use Rattle.poolsteps.specs.declared.view.View.{View}
use Rattle.poolsteps.specs.Views.{head_record, the_lane, acts_in, IsOne}
use Rattle.poolsteps.specs.Told.{Steps, HasPlace}
use Rattle.poolsteps.specs.Returned.{taken_record, LeadsTo, NoneFrom, Takes}
use Rattle.poolsteps.proofs.ViewLemmas.{prefix-self, none-behind}
use Rattle.seatcalls.specs.Called.{caller_of, Make, IsLawful}
use Rattle.seatcalls.proofs.parts.Doing.{make-one, make-more}
use Rattle.seatcalls.proofs.parts.Calling.{no-links, steps-more}
use Rattle.seatcalls.specs.Taken.{Went, IsCollected, Collects}
use Rattle.seatcalls.proofs.parts.Going.{all-acts, none-went, went-step, went-more}
use Rattle.shardpool.proofs.parts.Chaining.{links_of, chain-leads}
use Rattle.shardpool.proofs.parts.Returners.{home-returned}

-- ---- the lanes, one after another

-- this lane, or the next where it is the caller's own
abbrev pub skip : ℕ → ℕ → ℕ
skip own lane = if lane == own then lane + 1 else lane

skip-own : (own lane : ℕ) → lane ≡ own → skip own lane ≡ lane + 1
skip-own own lane is = ap (λ (b : Bool). cond b (lane + 1) lane) (eq-eqb lane own is)

skip-other : (own lane : ℕ) → lane ≢ own → skip own lane ≡ lane
skip-other own lane isnt = ap (λ (b : Bool). cond b (lane + 1) lane) (ne_eqb lane own isnt)

first-skip : (own : ℕ) → first_lane own ≡ skip own 0
first-skip own = dite (ℕ_discrete own 0)
    (λ is. ap (λ (b : Bool). cond b 1 0) (eq-eqb own 0 is) ∙ sym (skip-own own 0 (sym is)))
    (λ isnt. ap (λ (b : Bool). cond b 1 0) (ne_eqb own 0 isnt) ∙ sym (skip-other own 0 (λ e. isnt (sym e))))

next-skip : (own lane : ℕ) → next_lane own lane ≡ skip own (lane + 1)
next-skip own lane = let same : lane + 2 ≡ lane + 1 + 1 = omega arith in ap (λ (n : ℕ). cond ((lane + 1) == own) n (lane + 1)) same

-- past its own lane it goes on with the next
own-skip : (own lane : ℕ) → lane ≡ own → skip own lane ≡ skip own (lane + 1)
own-skip own lane is = skip-own own lane is ∙ sym (skip-other own (lane + 1) (λ e. absurd (omega arith)))

-- ---- places that were taken

-- what a TAKE tells that found places, where the lane had this record
abbrev pub TakesSome : {S : Type 0} → Shape → LaneRecord → ℕ → Me S View → Me S View → Type 0
TakesSome z r found now after = (places : List ℕ) × (stored : ℕ → Stored) × (0 < length places) × LeadsTo z r.lane found places
    × ((place : ℕ) → has places place ≡ true → HasPlace z after.0 place × ((stored place).content ≡ []) × (room_of after.0.seen after.0.rooms place ≤ (stored place).room))
    × Steps z kinds.Take found 0 now after (Some (acts.Collect r.lane places)) (taken_record r places stored)

-- each of the places that a lane may collect is one of its shard
pub all-here : (z : Shape) (P : Pool) (shard : ℕ) (places : List ℕ) (place : ℕ) → AllHome z P shard places → has places place ≡ true
    → (is_place z place ≡ true) × (shard_of place ≡ shard)
all-here z P shard [] place all is = absurd (cc is)
all-here z P shard (one ∷ more) place all is = dite (ℕ_discrete place one)
    (λ same. (ap (is_place z) same ∙ all.0, ap shard_of same ∙ all.1))
    (λ other. all-here z P shard more place all.3 (sym (ap (λ (b : Bool). cond b true (has more place)) (ne_eqb place one other)) ∙ is))

-- ---- what was tried

-- the TAKE of a stack of the lane's shard, which found this word
abbrev pub take_step : ℕ → ℕ → ℕ → Step
take_step own from found = record { kind = kinds.Take; word = Stack own from; before = found; after = 0 }

-- TAKEs of the stacks of the lanes below this number but the lane's own found 0: none of those lanes returned a place of the shard that was home
pub record Tried {S : Type 0} (z : Shape) (opened from : ℕ) (before after : Me S View) : Type 0 where
  pub steps : List Step
  pub are : AreSteps (caller_of z before.0) (Creating [] [] opened) [] steps
  pub follows : (more : List Step) → next_step (caller_of z before.0) (Creating [] [] opened) (steps ++ more)
      ≡ take_next (caller_of z before.0) (skip (the_lane before.0).lane from) more
  pub make : Make z (caller_of z before.0) (Creating [] [] opened) steps []
  pub few : length steps ≤ from
  pub fewer : (the_lane before.0).lane < from → length steps + 1 ≤ from
  pub went : Went z [] before.0 after.0
  pub same : the_lane after.0 ≡ the_lane before.0
  pub held : after.1 ≡ before.1
  pub stepped : after.0.steps ≡ before.0.steps + length steps
  pub looked : after.0.looks ≡ before.0.looks
  pub others : (place : ℕ) → home_in z before.0.seen (the_lane before.0).lane place ≡ true
      → (number : ℕ) → number < from → number ≢ (the_lane before.0).lane → returner before.0.seen place ≢ number

-- at first none was
pub none-tried : {S : Type 0} (z : Shape) (opened : ℕ) (me : Me S View) → 0 < opened → IsOne me.0 → IsLawful z me.0 → Tried z opened 0 me me
none-tried z opened me some one seen =
    let c : Caller = caller_of z me.0 in
    let isnt : opened ≢ 0 = λ e. absurd (omega arith) in record {
      steps = [];
      are = tt;
      follows = λ more. ap (λ (b : Bool). cond b None (take_next c (first_lane c.lane) more)) (ne_eqb opened 0 isnt)
          ∙ ap (λ (n : ℕ). take_next c n more) (first-skip c.lane);
      make = refl;
      few = omega arith;
      fewer = λ below. absurd (omega arith);
      went = none-went z me.0 one seen;
      same = refl;
      held = refl;
      stepped = omega arith;
      looked = refl;
      others = λ place home number below. absurd (omega arith);
    }

module _ {S : Type 0} {z : Shape} {opened from : ℕ} {before now : Me S View} (tried : Tried z opened from before now) where
  abbrev own : ℕ
  own = (the_lane before.0).lane

  abbrev c : Caller
  c = caller_of z before.0

  abbrev call : Call
  call = Creating [] [] opened

  -- the seat is still that of the lane
  pub tried-one : IsOne now.0
  tried-one = tried.went.acted.one

  pub tried-lane : (the_lane now.0).lane ≡ own
  tried-lane = ap (λ (r : LaneRecord). r.lane) tried.same

  -- past the lane's own number
  pub past-own : from ≡ own → Tried z opened (from + 1) before now
  past-own is = record {
    steps = tried.steps;
    are = tried.are;
    follows = λ more. tried.follows more ∙ ap (λ (n : ℕ). take_next c n more) (own-skip own from is);
    make = tried.make;
    few = let few = tried.few in omega arith;
    fewer = λ below. let few = tried.few in omega arith;
    went = tried.went;
    same = tried.same;
    held = tried.held;
    stepped = tried.stepped;
    looked = tried.looked;
    others = λ place home number below other. tried.others place home number (let n : number ≢ from = λ e. other (e ∙ is) in omega arith) other;
  }

  -- what comes next: a TAKE of the lane's stack
  next-take : from ≢ own → from < z.lanes → next_step c call tried.steps ≡ Some (aim kinds.Take (Stack own from))
  next-take isnt below =
      ap (next_step c call) (sym (append-nil tried.steps))
      ∙ (tried.follows [] ∙ (ap (λ (n : ℕ). take_next c n []) (skip-other own from isnt)
      ∙ ap (λ (b : Bool). cond b (Some (aim kinds.Take (Stack own from))) None) (lt-ltb from z.lanes below)))

  -- and after it, by what it found, the next one or a FOLLOW
  pub next-after : (found : ℕ) → from ≢ own → (more : List Step) → next_step c call (tried.steps ++ take_step own from found ∷ more)
      ≡ (if found == 0 then take_next c (next_lane own from) more else follow_next own found more)
  next-after found isnt more =
      tried.follows (take_step own from found ∷ more) ∙ ap (λ (n : ℕ). take_next c n (take_step own from found ∷ more)) (skip-other own from isnt)

  -- one TAKE behind the others
  module _ {found : ℕ} {act : Option Act} {r : LaneRecord} {after : Me S View} (steps : Steps z kinds.Take found 0 now after act r) where
    pub take-are : from ≢ own → from < z.lanes → AreSteps c call [] (tried.steps ++ take_step own from found ∷ [])
    take-are isnt below = steps-more c call [] tried.steps (take_step own from found ∷ []) tried.are (next-take isnt below, tt)

    pub take-make : (links : ℕ → ℕ) → TakeMakes c links found act → Make z c call (tried.steps ++ take_step own from found ∷ []) (acts_in act)
    take-make links makes = make-more z c call tried.steps (take_step own from found ∷ []) [] (acts_in act) tried.make
        (make-one z c call (take_step own from found) act links steps.changes makes)

    pub take-went : r.lane ≡ own → r.mine ≡ (the_lane before.0).mine ++ acts_in act → r.pushed ≡ (the_lane before.0).pushed → r.under ≡ (the_lane before.0).under
        → Went z (acts_in act) before.0 after.0
    take-went lane mine pushed under =
        let was : LaneRecord = the_lane before.0 in
        went-more tried.went (went-step steps (lane ∙ ap (λ (x : LaneRecord). x.lane) (sym tried.same))
        (mine ∙ ap (λ (x : LaneRecord). x.mine ++ acts_in act) (sym tried.same))
        (pushed ∙ ap (λ (x : LaneRecord). x.pushed) (sym tried.same)) (under ∙ ap (λ (x : LaneRecord). x.under) (sym tried.same)))

    take-count : length (tried.steps ++ take_step own from found ∷ []) ≡ length tried.steps + 1
    take-count = length-append tried.steps (take_step own from found ∷ [])

    pub take-stepped : after.0.steps ≡ before.0.steps + length (tried.steps ++ take_step own from found ∷ [])
    take-stepped = let one = steps.steps in let earlier = tried.stepped in let count = take-count in omega arith

    take-few : from ≢ own → from < z.lanes → own < z.lanes → length (tried.steps ++ take_step own from found ∷ []) ≤ z.lanes - 1
    take-few isnt below inside = let count = take-count in let few = tried.few in ⊎_elim
        (λ (is : ltb own from ≡ true). let fewer = tried.fewer (ltb-true own from is) in omega arith)
        (λ (no : ltb own from ≡ false). let above = ltb-false own from no in omega arith)
        (cases_Bool (ltb own from))

  -- the stack was found empty
  module _ {found : ℕ} {after : Me S View} (takes : Takes z from now found after) (zero : found ≡ 0) where
    steps-none : Steps z kinds.Take found 0 now after None (the_lane now.0)
    steps-none = (takes.0 zero).1

    none-after : Went z [] before.0 after.0
    none-after = take-went steps-none tried-lane (ap (λ (r : LaneRecord). r.mine) tried.same ∙ sym (append-nil (the_lane before.0).mine))
        (ap (λ (r : LaneRecord). r.pushed) tried.same) (ap (λ (r : LaneRecord). r.under) tried.same)

    none-from : NoneFrom z after.0.seen own from
    none-from = subst (λ (lane : ℕ). NoneFrom z after.0.seen lane from) tried-lane (takes.0 zero).0

    -- a home place of the shard was returned by another lane than that of the stack
    none-there : HomeStaysLaw → IsLawful z before.0 → (place : ℕ) → home_in z before.0.seen own place ≡ true → returner before.0.seen place ≢ from
    none-there law seen place home is =
        let acted = none-after.acted in
        let more : List Act = acted.seen.0 in
        let grown : before.0.seen ++ more ≡ after.0.seen = acted.seen.1 in
        let acts : acts_of own before.0.seen ≡ acts_of own after.0.seen
        = sym (append-nil (acts_of own before.0.seen)) ∙ sym (all-acts acted seen.1) in
        let stays = law z before.0.seen more own place (subst (IsLegal z) (sym grown) acted.legal)
        (none-behind own before.0.seen more after.0.seen grown acts) home in
        let still : home_in z after.0.seen own place ≡ true = ap (λ (h : List Act). home_in z h own place) (sym grown) ∙ stays.0 in
        let same : returner after.0.seen place ≡ returner before.0.seen place = ap (λ (h : List Act). returner h place) (sym grown) ∙ stays.1 in
        (none-from place still).2 (same ∙ is)

    pub one-more : HomeStaysLaw → IsLawful z before.0 → from ≢ own → from < z.lanes → Tried z opened (from + 1) before after
    one-more law seen isnt below = record {
      steps = tried.steps ++ take_step own from found ∷ [];
      are = take-are steps-none isnt below;
      follows = λ more. ap (next_step c call) (append_assoc tried.steps (take_step own from found ∷ []) more)
          ∙ (next-after found isnt more ∙ (ap (λ (b : Bool). if b then take_next c (next_lane own from) more else follow_next own found more) (eq-eqb found 0 zero)
          ∙ ap (λ (n : ℕ). take_next c n more) (next-skip own from)));
      make = take-make steps-none no-links ((λ e. refl), λ isnt. absurd (isnt zero));
      few = let count = take-count steps-none in let few = tried.few in omega arith;
      fewer = λ past. let count = take-count steps-none in let fewer = tried.fewer (omega arith) in omega arith;
      went = none-after;
      same = ap head_record steps-none.goes.lanes ∙ tried.same;
      held = steps-none.held ∙ tried.held;
      stepped = take-stepped steps-none;
      looked = steps-none.looks ∙ tried.looked;
      others = λ place home number under other. dite (ℕ_discrete number from)
          (λ at. subst (λ (n : ℕ). returner before.0.seen place ≢ n) (sym at) (none-there law seen place home))
          (λ off. tried.others place home number (omega arith) other);
    }

  -- the stack has places
  module _ {found : ℕ} {after : Me S View} (some : found ≢ 0) (taken : TakesSome z (the_lane before.0) found now after) where
    abbrev places : List ℕ
    places = taken.0

    abbrev act : Act
    act = acts.Collect own places

    pub steps-some : Steps z kinds.Take found 0 now after (Some act) (taken_record (the_lane before.0) places taken.1)
    steps-some = taken.5

    -- what stood before the act
    abbrev earlier : List Act
    earlier = now.0.seen ++ steps-some.goes.between

    abbrev pool : Pool
    pool = pool_after z earlier

    act-allowed : Allowed z pool act
    act-allowed = (legal-rest z fresh earlier (act ∷ []) (subst (IsLegal z) steps-some.goes.seen steps-some.goes.legal)).1

    pub record-after : the_lane after.0 ≡ taken_record (the_lane before.0) places taken.1
    record-after = ap head_record steps-some.goes.lanes

    lane-after : own ≡ (the_lane after.0).lane
    lane-after = sym (ap (λ (r : LaneRecord). r.lane) record-after)

    pub some-leads : TakeMakes c (links_of places) found (Some act)
    some-leads = (
      λ zero. absurd (some zero),
      λ isnt. (places, chain-leads z own found places act-allowed.1 (λ place is. (all-here z pool own places place act-allowed.2 is).1) taken.3, refl),
    )

    -- a place of it is then with the lane
    with-lane : (place : ℕ) → has places place ≡ true → (pool_after z after.0.seen place).phase ≡ with own
    with-lane place is = ap (λ (h : List Act). (pool_after z h place).phase) steps-some.goes.seen
        ∙ (ap (λ (P : Pool). (P place).phase) (pool-snoc z fresh earlier act) ∙ ap (λ (s : Spot). s.phase) (after-here z pool act place is))

    -- its places are collected
    collected : (place : ℕ) → has places place ≡ true → IsCollected z after.0 (taken.1 place) place
    collected place is =
        let here = all-here z pool own places place act-allowed.2 is in
        (here.0, here.1 ∙ lane-after, with-lane place is ∙ ap with lane-after, (taken.4 place is).1, (taken.4 place is).2)

    pub some-collects : from ≢ own → from < z.lanes → own < z.lanes → Collects z opened found before after
    some-collects isnt below inside =
        let was : LaneRecord = the_lane before.0 in record {
          steps = tried.steps ++ take_step own from found ∷ [];
          made = act ∷ [];
          are = take-are steps-some isnt below;
          next = next-after found isnt [] ∙ (ap (λ (b : Bool). if b then take_next c (next_lane own from) [] else follow_next own found []) (ne_eqb found 0 some)
              ∙ sym (ap (λ (b : Bool). if b then None else follow_next own found []) (ne_eqb found 0 some)));
          make = take-make steps-some (links_of places) some-leads;
          few = take-few steps-some isnt below inside;
          went = take-went steps-some refl refl refl refl;
          held = steps-some.held ∙ tried.held;
          stepped = take-stepped steps-some;
          looked = steps-some.looks ∙ tried.looked;
          none = λ zero. absurd (some zero);
          some = λ other. (places, taken.1, refl, taken.2, act-allowed.1, taken.3, collected, record-after);
        }

-- a TAKE that found places, by the record that the lane had before the first TAKE
pub taken-some : {S : Type 0} {z : Shape} {opened from found : ℕ} {before now after : Me S View} → Tried z opened from before now → Takes z from now found after → found ≢ 0
    → TakesSome z (the_lane before.0) found now after
taken-some {z = z} {found = found} {now = now} {after = after} tried takes some = subst (λ (r : LaneRecord). TakesSome z r found now after) tried.same (takes.1 some)

-- each stack was found empty
pub none-collects : {S : Type 0} {z : Shape} {opened : ℕ} {before after : Me S View} → Tried z opened z.lanes before after → IsLawful z before.0
    → (the_lane before.0).lane < z.lanes → Collects z opened 0 before after
none-collects {z = z} {opened = opened} {before = before} tried seen inside =
    let own : ℕ = (the_lane before.0).lane in
    let c : Caller = caller_of z before.0 in
    let last : z.lanes ≢ own = λ e. absurd (omega arith) in
    let history : List Act = before.0.seen in
    let nowhere : (place : ℕ) → lane_home z history own place ≡ false = λ place. ⊎_elim
    (λ (by : lane_home z history own place ≡ true).
    let parts = lane-part z history own place by in
    let home = parts.0 in
    let told : (returner history place < z.lanes) × (returner history place ≢ own) = (parts.1, (home-returned z history own place seen.0 home).1) in
    absurd (tried.others place home (returner history place) told.0 told.1 refl))
    (λ (isnt : lane_home z history own place ≡ false). isnt)
    (cases_Bool (lane_home z history own place)) in record {
      steps = tried.steps;
      made = [];
      are = tried.are;
      next = ap (next_step c (Creating [] [] opened)) (sym (append-nil tried.steps))
          ∙ (tried.follows [] ∙ (ap (λ (n : ℕ). take_next c n []) (skip-other own z.lanes last)
          ∙ ap (λ (b : Bool). cond b (Some (aim kinds.Take (Stack own z.lanes))) None) (le-ltb z.lanes z.lanes (omega arith))));
      make = tried.make;
      few = let fewer = tried.fewer inside in omega arith;
      went = tried.went;
      held = tried.held;
      stepped = tried.stepped;
      looked = tried.looked;
      none = λ zero. (refl, tried.same, (history, prefix-self history, tried.went.acted.seen, nowhere));
      some = λ isnt. absurd (isnt refl);
    }
