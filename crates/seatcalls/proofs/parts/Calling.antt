-- The calls of a key: steps up to a LEAVE, and the end that follows it.
use Rattle.std.proofs.Common.{◌≡◌, ◌==◌, ⊎_elim, ℕ, ◌+◌, ◌-◌, ◌≤◌, Bool, true, false, cond, List, [], ◌∷◌, ◌++◌, length, Option, Some, None, refl, sym, ap, ◌∙◌, subst, arith, append_assoc, append-nil, length-append}
use Rattle.atomic_table.specs.Table.{Me}
use Rattle.keybits.specs.declared.shape.Shape.{Shape}
use Rattle.keybits.specs.declared.step.Kind.{Kind}
use Rattle.keybits.specs.declared.step.Kind.TheVariants as kinds
use Rattle.keybits.specs.declared.step.Word.TheVariants.{Life}
use Rattle.keybits.specs.declared.step.Step.{Step}
use Rattle.keybits.specs.Keys.{place_of, is_key}
use Rattle.keybits.specs.Words.{state_in}
use Rattle.seqpool.specs.declared.act.Act.{Act}
use Rattle.seqpool.specs.declared.act.Act.TheVariants as acts
use Rattle.steplaws.specs.declared.pending.Pending.{Pending}
use Rattle.steplaws.specs.declared.pending.Pending.TheVariants.{Undo}
use Rattle.steplaws.specs.Calls.{Call, Caller, aim, end_next, mark_next, next_step, is_hit, key_in, AreSteps, Makes, LeaveMakes}
use Rattle.steplaws.specs.Calls.Call.{Getting, Releasing, Clearing}
use Rattle.poolsteps.specs.declared.view.LaneRecord.{LaneRecord}
use Rattle.poolsteps.specs.declared.view.View.{View}
use Rattle.poolsteps.specs.Views.{head_record, the_lane, status_of, known_of, acts_in, after_step}
use Rattle.poolsteps.specs.Told.{LifeSteps, EntersGet, EntersClear, Leaves, Marks, Sees, IsIdle}
use Rattle.seatcalls.specs.Called.{caller_of, Make, MarksAtLast, IsUnmoved, Did, AreEnd, GoesToEnd, Ends, Called, EndsWithActs, MovedNothing, GetHits, end_acts, end_pushed}
use Rattle.seatcalls.specs.declared.at.Reclaimed.{Reclaimed}
use Rattle.seatcalls.proofs.parts.Doing.{unmoved-now, unmoved-more, life-next, did-step, did-sees, did-most, did-more, make-one, make-more, same-caller}

-- ---- the steps of a call, one after another

pub steps-more : (c : Caller) (call : Call) (done front behind : List Step) → AreSteps c call done front → AreSteps c call (done ++ front) behind
    → AreSteps c call done (front ++ behind)
steps-more c call done [] behind first second = subst (λ (xs : List Step). AreSteps c call xs behind) (append-nil done) second
steps-more c call done (step ∷ front) behind first second = (
  first.0,
  steps-more c call (done ++ step ∷ []) front behind first.1
      (subst (λ (xs : List Step). AreSteps c call xs behind) (sym (append_assoc done (step ∷ []) front)) second),
)

-- after these steps the call goes on as an end
abbrev pub GoesOnAsEnd : Caller → Call → List Step → Type 0
GoesOnAsEnd c call done = (s : List Step) → next_step c call (done ++ s) ≡ end_next c (place_of (key_in call)) s

-- so the steps of the end are those of the call
pub end-steps : (c : Caller) (call : Call) (done : List Step) → GoesOnAsEnd c call done → (front behind : List Step)
    → AreEnd c (place_of (key_in call)) front behind → AreSteps c call (done ++ front) behind
end-steps c call done follows front [] are = tt
end-steps c call done follows front (step ∷ behind) are = (
  follows front ∙ are.0,
  subst (λ (xs : List Step). AreSteps c call xs behind) (sym (append_assoc done front (step ∷ [])))
      (end-steps c call done follows (front ++ step ∷ []) behind are.1),
)

-- ---- the first steps of a call

-- a call began with these steps, which made these acts, and with a look at most
pub record Opens {S : Type 0} (z : Shape) (call : Call) (steps : List Step) (made : List Act) (a b : Me S View) : Type 0 where
  pub are : AreSteps (caller_of z a.0) call [] steps
  pub make : Make z (caller_of z a.0) call steps made
  pub did : Did z (place_of (key_in call)) made (length steps) 1 a b
  pub pushed : (the_lane b.0).pushed ≡ (the_lane a.0).pushed
  pub same : caller_of z b.0 ≡ caller_of z a.0
  pub unmoved : IsUnmoved (place_of (key_in call)) (the_lane a.0) (the_lane b.0)

-- a step of the lifecycle word of a key's place
abbrev pub life-step : Kind → ℕ → ℕ → ℕ → Step
life-step kind key found left = record { kind = kind; word = Life (place_of key); before = found; after = left }

pub no-links : ℕ → ℕ
no-links place = 0

-- a step of a lifecycle word
module _ {S : Type 0} {z : Shape} {kind : Kind} {found left : ℕ} {act : Option Act} {under : Pending} {a b : Me S View}
    (steps : LifeSteps z kind found left a b act under) where
  now : the_lane b.0 ≡ after_step (the_lane a.0) act under
  now = ap head_record steps.goes.lanes

  pub life-under : (the_lane b.0).under ≡ under
  life-under = ap (λ (r : LaneRecord). r.under) now

  life-caller : caller_of z b.0 ≡ caller_of z a.0
  life-caller = same-caller z a.0 b.0 (ap (λ (r : LaneRecord). r.lane) now) (ap (λ (r : LaneRecord). r.pushed) now)

  pub life-unmoved : (place : ℕ) → IsUnmoved place (the_lane a.0) (the_lane b.0)
  life-unmoved place = unmoved-now place (the_lane a.0) (the_lane b.0) act under now

  did-life : (place : ℕ) → Did z place (acts_in act) 1 0 a b
  did-life place = did-step steps (life-next (the_lane a.0) place act under)

  -- the first
  pub opens-first : (call : Call) → next_step (caller_of z a.0) call [] ≡ Some (aim kind (Life (place_of (key_in call))))
      → Makes (caller_of z a.0) call no-links (life-step kind (key_in call) found left) act
      → Opens z call (life-step kind (key_in call) found left ∷ []) (acts_in act) a b
  opens-first call next makes = record {
    are = (next, tt);
    make = make-one z (caller_of z a.0) call (life-step kind (key_in call) found left) act no-links steps.changes makes;
    did = did-most (did-life (place_of (key_in call))) (omega arith);
    pushed = ap (λ (r : LaneRecord). r.pushed) now;
    same = life-caller;
    unmoved = life-unmoved (place_of (key_in call));
  }

  -- the first, with a look behind it that moves nothing
  pub opens-look : {c : Me S View} (call : Call) → next_step (caller_of z a.0) call [] ≡ Some (aim kind (Life (place_of (key_in call))))
      → Makes (caller_of z a.0) call no-links (life-step kind (key_in call) found left) act → Sees z b c
      → Opens z call (life-step kind (key_in call) found left ∷ []) (acts_in act) a c
  opens-look {c = c} call next makes sees =
      let place : ℕ = place_of (key_in call) in
      let first = opens-first call next makes in
      let still : the_lane c.0 ≡ the_lane b.0 = ap head_record sees.goes.lanes in record {
        are = first.are;
        make = first.make;
        did = subst (λ (made : List Act). Did z place made 1 1 a c) (append-nil (acts_in act)) (did-more (did-life place) (did-sees sees));
        pushed = ap (λ (r : LaneRecord). r.pushed) still ∙ first.pushed;
        same = same-caller z b.0 c.0 (ap (λ (r : LaneRecord). r.lane) still) (ap (λ (r : LaneRecord). r.pushed) still) ∙ first.same;
        unmoved = unmoved-more first.unmoved
            (record { deeds = λ number. ap (λ (r : LaneRecord). status_of r place number) still; cell = ap (λ (r : LaneRecord). known_of r place) still });
      }

  -- one after others
  pub opens-more : {first : Me S View} {call : Call} {done : List Step} {made : List Act} → Opens z call done made first a
      → next_step (caller_of z first.0) call done ≡ Some (aim kind (Life (place_of (key_in call))))
      → Makes (caller_of z first.0) call no-links (life-step kind (key_in call) found left) act
      → Opens z call (done ++ life-step kind (key_in call) found left ∷ []) (made ++ acts_in act) first b
  opens-more {first = first} {call = call} {done = done} {made = made} opens next makes =
      let step : Step = life-step kind (key_in call) found left in
      let c : Caller = caller_of z first.0 in
      let place : ℕ = place_of (key_in call) in record {
        are = steps-more c call [] done (step ∷ []) opens.are (next, tt);
        make = make-more z c call done (step ∷ []) made (acts_in act) opens.make (make-one z c call step act no-links steps.changes makes);
        did = subst (λ (n : ℕ). Did z place (made ++ acts_in act) n 1 first b) (sym (length-append done (step ∷ []))) (did-more opens.did (did-life place));
        pushed = ap (λ (r : LaneRecord). r.pushed) now ∙ opens.pushed;
        same = life-caller ∙ opens.same;
        unmoved = unmoved-more opens.unmoved (life-unmoved place);
      }

-- ---- whole calls

module _ {S : Type 0} {z : Shape} {call : Call} {made : List Act} {a b : Me S View} where
  -- one of these steps only
  pub called-at-once : {steps : List Step} → Opens z call steps made a b → next_step (caller_of z a.0) call steps ≡ None → length steps ≤ 8 → IsIdle b.0
      → Called z call 34 a b
  called-at-once {steps = steps} opens last few idle =
      record { steps = steps; made = made; are = opens.are; all = last; make = opens.make; did = did-most opens.did (omega arith); few = few; idle = idle }

  -- one that goes on as an end after these, from its LEAVE
  pub called-by-end : {c : Me S View} (done : List Step) (leave : Step) → Opens z call (done ++ leave ∷ []) made a b → length done ≤ 2
      → GoesOnAsEnd (caller_of z a.0) call done → GoesToEnd z (place_of (key_in call)) (leave ∷ []) 5 33 b c → Called z call 34 a c
  called-by-end {c = c} done leave opens few follows rest =
      let front : List Step = done ++ leave ∷ [] in
      let place : ℕ = place_of (key_in call) in
      let caller : Caller = caller_of z a.0 in record {
        steps = front ++ rest.steps;
        made = made ++ rest.made;
        are = steps-more caller call [] front rest.steps opens.are
            (end-steps caller call done follows (leave ∷ []) rest.steps (subst (λ (x : Caller). AreEnd x place (leave ∷ []) rest.steps) opens.same rest.are));
        all = ap (next_step caller call) (append_assoc done (leave ∷ []) rest.steps)
            ∙ (follows (leave ∷ rest.steps) ∙ subst (λ (x : Caller). end_next x place (leave ∷ rest.steps) ≡ None) opens.same rest.all);
        make = make-more z caller call front rest.steps made rest.made opens.make
            (subst (λ (x : Caller). Make z x call rest.steps rest.made) opens.same (rest.make call refl));
        did = did-most (subst (λ (n : ℕ). Did z place (made ++ rest.made) n 34 a c) (sym (length-append front rest.steps)) (did-more opens.did rest.did)) (omega arith);
        few = let all = length-append front rest.steps in let first = length-append done (leave ∷ []) in let last = rest.few in omega arith;
        idle = rest.idle;
      }

-- where no place was reclaimed, the lane moved nothing in front of its end either
moved-after : {T : Type 0} (z : Shape) (place : ℕ) (r s t : LaneRecord) (reclaimed : Option (Reclaimed T)) → IsUnmoved place r s → MovedNothing z place s t reclaimed
    → MovedNothing z place r t reclaimed
moved-after z place r s t None first second = unmoved-more first second
moved-after z place r s t (Some reclaimed) first second = λ number below. sym (first.deeds number) ∙ second number below

-- acts before an end, and those of it
acts-after : {T : Type 0} (z : Shape) (place : ℕ) (first : List Act) (a c d : View) (reclaimed : Option (Reclaimed T)) → (the_lane c).lane ≡ (the_lane a).lane
    → (the_lane c).mine ≡ (the_lane a).mine ++ first → (the_lane c).pushed ≡ (the_lane a).pushed → IsUnmoved place (the_lane a) (the_lane c)
    → EndsWithActs z place [] c d reclaimed → EndsWithActs z place first a d reclaimed
acts-after z place first a c d reclaimed lane mine pushed unmoved made =
    let behind : ℕ → List Act = λ l. end_acts z l place made.0.0 reclaimed in (
      (
        made.0.0,
        made.0.1 ∙ (ap (λ (xs : List Act). xs ++ behind (the_lane c).lane) mine
            ∙ (append_assoc (the_lane a).mine first (behind (the_lane c).lane) ∙ ap (λ (l : ℕ). (the_lane a).mine ++ (first ++ behind l)) lane)),
        made.0.2,
      ),
      made.1 ∙ ap (λ (pushes : List (ℕ × ℕ)). end_pushed pushes place reclaimed) pushed,
      moved-after z place (the_lane a) (the_lane c) (the_lane d) reclaimed unmoved made.2,
    )

-- a call made its own act, and is to undo its ENTER
pub record Opened {S : Type 0} (z : Shape) (call : Call) (act : Act) (a b : Me S View) : Type 0 where
  pub done : List Step
  pub opens : Opens z call done (act ∷ []) a b
  pub few : length done ≤ 2
  pub follows : GoesOnAsEnd (caller_of z a.0) call done
  pub hit : Bool
  pub under : (the_lane b.0).under ≡ Undo (key_in call) hit

-- the end of such a call
module _ {S : Type 0} {z : Shape} {call : Call} {act : Act} {a b c d : Me S View} {left place : ℕ} (opened : Opened z call act a b)
    (none : LeaveMakes (caller_of z a.0) call None) (leaves : Leaves z (key_in call) b left c) (at : place ≡ place_of (key_in call))
    (ends : Ends z place left c d) where
  abbrev leave : Step
  leave = life-step kinds.Leave (key_in call) left (left - 4)

  rest : GoesToEnd z (place_of (key_in call)) (leave ∷ []) 5 33 c d
  rest = subst (λ (p : ℕ). GoesToEnd z p (leave ∷ []) 5 33 c d) at (ends leave refl)

  pub called-after : Called z call 34 a d
  called-after =
      let next : next_step (caller_of z a.0) call opened.done ≡ Some (aim kinds.Leave (Life (place_of (key_in call))))
      = ap (next_step (caller_of z a.0) call) (sym (append-nil opened.done)) ∙ opened.follows [] in
      called-by-end opened.done leave (opens-more (leaves.1 opened.hit opened.under) opened.opens next none) opened.few opened.follows rest

  pub acts-behind : {T : Type 0} (reclaimed : Option (Reclaimed T)) → EndsWithActs z place [] c.0 d.0 reclaimed → EndsWithActs z place (act ∷ []) a.0 d.0 reclaimed
  acts-behind reclaimed made =
      let left_so = leaves.1 opened.hit opened.under in
      let now = ap head_record left_so.goes.lanes in
      let first = subst (λ (p : ℕ). IsUnmoved p (the_lane a.0) (the_lane b.0)) (sym at) opened.opens.unmoved in
      acts-after z place (act ∷ []) a.0 c.0 d.0 reclaimed (ap (λ (r : LaneRecord). r.lane) now ∙ opened.opens.did.acted.lane)
      (ap (λ (r : LaneRecord). r.mine) now ∙ (append-nil (the_lane b.0).mine ∙ opened.opens.did.acted.mine)) (ap (λ (r : LaneRecord). r.pushed) now ∙ opened.opens.pushed)
      (unmoved-more first (life-unmoved left_so place)) made

-- ---- each call

-- a release
pub release-called : {S : Type 0} {z : Shape} {key left place : ℕ} {a b c : Me S View} → IsIdle a.0 → Leaves z key a left b → place ≡ place_of key → Ends z place left b c
    → Called z (Releasing key) 34 a c
release-called {z = z} {key = key} {left = left} {b = b} {c = c} idle leaves at ends =
    let leave : Step = life-step kinds.Leave key left (left - 4) in
    called-by-end [] leave (opens-first (leaves.0 idle) (Releasing key) refl refl) (omega arith) (λ s. refl)
    (subst (λ (p : ℕ). GoesToEnd z p (leave ∷ []) 5 33 b c) at (ends leave refl))

pub release-acts : {S T : Type 0} {z : Shape} {key left : ℕ} {a b : Me S View} (place : ℕ) (c : View) (reclaimed : Option (Reclaimed T)) → IsIdle a.0 → Leaves z key a left b
    → EndsWithActs z place [] b.0 c reclaimed → EndsWithActs z place (acts.Release (the_lane a.0).lane key ∷ []) a.0 c reclaimed
release-acts {z = z} {key = key} {a = a} {b = b} place c reclaimed idle leaves made =
    let left_so = leaves.0 idle in
    let now = ap head_record left_so.goes.lanes in
    acts-after z place (acts.Release (the_lane a.0).lane key ∷ []) a.0 b.0 c reclaimed (ap (λ (r : LaneRecord). r.lane) now) (ap (λ (r : LaneRecord). r.mine) now)
    (ap (λ (r : LaneRecord). r.pushed) now) (life-unmoved left_so place) made

-- the ENTER of a key
abbrev pub enter-step : ℕ → ℕ → Step
enter-step key found = life-step kinds.Enter key found (found + 4)

-- the MARK of a key
abbrev pub mark-step : ℕ → ℕ → Step
mark-step key word = life-step kinds.Mark key word (word + 3 - state_in word)

-- the ENTER comes first
enter-next : (key : ℕ) (inside : Bool) → inside ≡ true → cond inside (Some (aim kinds.Enter (Life (place_of key)))) None ≡ Some (aim kinds.Enter (Life (place_of key)))
enter-next key inside is = ap (λ (b : Bool). cond b (Some (aim kinds.Enter (Life (place_of key)))) None) is

-- what follows it, by whether it hits: no step of a get, a MARK of a clear, and else an end
module _ (c : Caller) (key found : ℕ) where
  pub get-ends : is_hit key found ≡ true → next_step c (Getting key) (enter-step key found ∷ []) ≡ None
  get-ends hit = ap (λ (b : Bool). cond b None (end_next c (place_of key) [])) hit

  pub get-follows : is_hit key found ≡ false → GoesOnAsEnd c (Getting key) (enter-step key found ∷ [])
  get-follows miss s = ap (λ (b : Bool). cond b None (end_next c (place_of key) s)) miss

  pub clear-follows : is_hit key found ≡ false → GoesOnAsEnd c (Clearing key) (enter-step key found ∷ [])
  clear-follows miss s = ap (λ (b : Bool). cond b (mark_next c (place_of key) s) (end_next c (place_of key) s)) miss

  mark-follows : is_hit key found ≡ true → (s : List Step) → next_step c (Clearing key) (enter-step key found ∷ s) ≡ mark_next c (place_of key) s
  mark-follows hit s = ap (λ (b : Bool). cond b (mark_next c (place_of key) s) (end_next c (place_of key) s)) hit

  -- and after the MARK
  pub clear-ends : (word : ℕ) → is_hit key found ≡ true → GoesOnAsEnd c (Clearing key) (enter-step key found ∷ mark-step key word ∷ [])
  clear-ends word hit s = mark-follows hit (mark-step key word ∷ s)

module _ {S : Type 0} {z : Shape} {key found word : ℕ} {a b c : Me S View} (entered : Opens z (Clearing key) (enter-step key found ∷ []) [] a b) (hit : is_hit key found ≡ true)
    (marks : Marks z key b word c) where
  -- a clear that hit, and its MARK
  pub clear-marked : Opens z (Clearing key) (enter-step key found ∷ mark-step key word ∷ []) (acts.Clear (the_lane a.0).lane key (state_in word == 1) ∷ []) a c
  clear-marked =
      let marked = opens-more marks entered (mark-follows (caller_of z a.0) key found hit []) (ap (λ (l : ℕ). Some (acts.Clear l key (state_in word == 1))) entered.did.acted.lane) in
      subst (λ (l : ℕ). Opens z (Clearing key) (enter-step key found ∷ mark-step key word ∷ []) (acts.Clear l key (state_in word == 1) ∷ []) a c) entered.did.acted.lane marked

  clear-ended : Opened z (Clearing key) (acts.Clear (the_lane a.0).lane key (state_in word == 1)) a c
  clear-ended = record {
    done = enter-step key found ∷ mark-step key word ∷ [];
    opens = clear-marked;
    few = omega arith;
    follows = clear-ends (caller_of z a.0) key found word hit;
    hit = true;
    under = life-under marks;
  }

module _ {S : Type 0} {z : Shape} {key found : ℕ} {a b : Me S View} (inside : is_key z key ≡ true) where
  -- a get up to its ENTER, which hits
  pub get-entered : EntersGet z key a found b → is_hit key found ≡ true
      → (content : List ℕ) × Opens z (Getting key) (enter-step key found ∷ []) (acts.Get (the_lane a.0).lane key (Some content) ∷ []) a b
  get-entered enters hit =
      let told = enters.0 hit in (told.0, opens-first told.2 (Getting key) (enter-next key (is_key z key) inside) (Some told.0, sym hit, refl))

  -- or which misses
  pub get-missed : EntersGet z key a found b → is_hit key found ≡ false
      → Opens z (Getting key) (enter-step key found ∷ []) (acts.Get (the_lane a.0).lane key None ∷ []) a b
  get-missed enters miss = opens-first (enters.1 miss) (Getting key) (enter-next key (is_key z key) inside) (None, sym miss, refl)

  -- a get that hits
  pub get-hits : EntersGet z key a found b → is_hit key found ≡ true → Called z (Getting key) 34 a b
  get-hits enters hit = called-at-once (get-entered enters hit).1 (get-ends (caller_of z a.0) key found hit) (omega arith) (life-under (enters.0 hit).2)

  -- it makes its reply, moves nothing, and leaves its slot alone where it had no reference
  pub hit-tells : EntersGet z key a found b → is_hit key found ≡ true → GetHits z key a b
  hit-tells enters hit =
      let told = enters.0 hit in
      let now = ap head_record told.2.goes.lanes in
      let unmoved = life-unmoved told.2 (place_of key) in (
        told.0,
        (ap (λ (r : LaneRecord). r.mine) now, ap (λ (r : LaneRecord). r.pushed) now),
        unmoved,
        λ none. unmoved.deeds (the_lane a.0).lane ∙ told.1 none,
      )

  -- and one that misses
  pub get-misses : EntersGet z key a found b → is_hit key found ≡ false → Opened z (Getting key) (acts.Get (the_lane a.0).lane key None) a b
  get-misses enters miss = record {
    done = enter-step key found ∷ [];
    opens = get-missed enters miss;
    few = omega arith;
    follows = get-follows (caller_of z a.0) key found miss;
    hit = false;
    under = life-under (enters.1 miss);
  }

  -- a clear up to its ENTER, which misses
  pub clear-missed : EntersClear z key a found b → is_hit key found ≡ false
      → Opens z (Clearing key) (enter-step key found ∷ []) (acts.Clear (the_lane a.0).lane key false ∷ []) a b
  clear-missed enters miss = opens-first (enters.1 miss) (Clearing key) (enter-next key (is_key z key) inside)
      (ap (λ (b : Bool). cond b None (Some (acts.Clear (the_lane a.0).lane key false))) (sym miss))

  -- or which hits
  pub clear-entered : EntersClear z key a found b → is_hit key found ≡ true → Opens z (Clearing key) (enter-step key found ∷ []) [] a b
  clear-entered enters hit = opens-first (enters.0 hit) (Clearing key) (enter-next key (is_key z key) inside)
      (ap (λ (b : Bool). cond b None (Some (acts.Clear (the_lane a.0).lane key false))) (sym hit))

  -- also with a look behind it
  pub clear-looked : {c : Me S View} → EntersClear z key a found b → is_hit key found ≡ true → Sees z b c → Opens z (Clearing key) (enter-step key found ∷ []) [] a c
  clear-looked enters hit sees = opens-look (enters.0 hit) (Clearing key) (enter-next key (is_key z key) inside)
      (ap (λ (b : Bool). cond b None (Some (acts.Clear (the_lane a.0).lane key false))) (sym hit)) sees

  -- a clear that misses
  pub clear-misses : EntersClear z key a found b → is_hit key found ≡ false → Opened z (Clearing key) (acts.Clear (the_lane a.0).lane key false) a b
  clear-misses enters miss = record {
    done = enter-step key found ∷ [];
    opens = clear-missed enters miss;
    few = omega arith;
    follows = clear-follows (caller_of z a.0) key found miss;
    hit = false;
    under = life-under (enters.1 miss);
  }

  -- and one that hits, with its MARK
  pub clear-marks : {word : ℕ} {d : Me S View} → EntersClear z key a found b → is_hit key found ≡ true → MarksAtLast z key b word d
      → Opened z (Clearing key) (acts.Clear (the_lane a.0).lane key (state_in word == 1)) a d
  clear-marks {word = word} {d = d} enters hit marks = ⊎_elim
      (λ (at_once : Marks z key b word d). clear-ended (clear-entered enters hit) hit at_once)
      (λ (later : (between : Me S View) × Sees z b between × Marks z key between word d). clear-ended (clear-looked enters hit later.1) hit later.2) marks
