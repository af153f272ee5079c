-- Steps and moves of one lane, one after another, as the steps of a call.
use Rattle.std.proofs.Common.{◌≡◌, ◌≢◌, ℕ, ◌+◌, ◌≤◌, Bool, cond, List, [], ◌∷◌, ◌++◌, length, Option, Some, None, refl, sym, ap, ◌∙◌, subst, arith, append_assoc, append-nil, length-append, ne_eqb}
use Rattle.atomic_table.specs.Table.{Me}
use Rattle.keybits.specs.declared.shape.Shape.{Shape}
use Rattle.keybits.specs.declared.step.Kind.{Kind}
use Rattle.keybits.specs.declared.step.Step.{Step}
use Rattle.keybits.specs.Keys.{place_of}
use Rattle.keybits.specs.Steps.{Changes}
use Rattle.seqpool.specs.declared.act.Act.{Act}
use Rattle.seqpool.specs.declared.act.Act.TheVariants as acts
use Rattle.poolsteps.specs.declared.view.Stored.{Stored}
use Rattle.poolsteps.specs.declared.view.Status.TheVariants.{Untouched}
use Rattle.steplaws.specs.declared.pending.Pending.{Pending}
use Rattle.steplaws.specs.Calls.{Call, Caller, aim, end_next, key_in, Makes}
use Rattle.poolsteps.specs.declared.view.LaneRecord.{LaneRecord}
use Rattle.poolsteps.specs.declared.view.View.{View}
use Rattle.poolsteps.specs.Views.{head_record, the_lane, pushed_in, status_of, known_of, acts_in, after_step, with_cell}
use Rattle.poolsteps.specs.Told.{GoesOn, Steps, Sees, IsIdle}
use Rattle.poolsteps.specs.Returned.{with_return, pushed_record}
use Rattle.seatcalls.specs.Carried.{Carries}
use Rattle.seatcalls.specs.Called.{caller_of, Make, IsUnmoved, Did, AreEnd, GoesToEnd}
use Rattle.seatcalls.proofs.parts.Going.{acted-goes, acted-more, even-in}

-- ---- the lane's record

-- after another record of the lane: it made these acts, and what it did with the shares of other places and its chain are as before
pub record IsNext (place : ℕ) (made : List Act) (r s : LaneRecord) : Type 0 where
  pub lane : s.lane ≡ r.lane
  pub mine : s.mine ≡ r.mine ++ made
  pub chain : s.chain ≡ r.chain
  pub deeds : (p number : ℕ) → p ≢ place → status_of s p number ≡ status_of r p number
  pub cells : (p : ℕ) → p ≢ place → known_of s p ≡ known_of r p

-- the lane moved nothing by a step of a lifecycle word, and by what follows where it moved nothing before
pub unmoved-now : (place : ℕ) (r s : LaneRecord) (act : Option Act) (under : Pending) → s ≡ after_step r act under → IsUnmoved place r s
unmoved-now place r s act under now = record { deeds = λ number. ap (λ (x : LaneRecord). status_of x place number) now; cell = ap (λ (x : LaneRecord). known_of x place) now }

pub unmoved-more : {place : ℕ} {r s t : LaneRecord} → IsUnmoved place r s → IsUnmoved place s t → IsUnmoved place r t
unmoved-more first second = record { deeds = λ number. second.deeds number ∙ first.deeds number; cell = second.cell ∙ first.cell }

-- so is the record after a step of a lifecycle word, without a cell of the place and with one
pub life-next : (r : LaneRecord) (place : ℕ) (act : Option Act) (under : Pending) → IsNext place (acts_in act) r (after_step r act under)
life-next r place act under = record { lane = refl; mine = refl; chain = refl; deeds = λ p number other. refl; cells = λ p other. refl }

pub cell-next : (r : LaneRecord) (place : ℕ) (act : Option Act) (under : Pending) (c : Stored)
    → IsNext place (acts_in act) r (with_cell (after_step r act under) place c)
cell-next r place act under c = record {
  lane = refl;
  mine = refl;
  chain = refl;
  deeds = λ p number other. refl;
  cells = λ p other. ap (λ (b : Bool). cond b c (known_of r p)) (ne_eqb p place other);
}

-- and after a LINK or a PUSH
pub return-next : (r : LaneRecord) (place at : ℕ) (linked : Option ℕ) (failed : Bool) → IsNext place [] r (with_return r at linked failed)
return-next r place at linked failed =
    record { lane = refl; mine = sym (append-nil r.mine); chain = refl; deeds = λ p number other. refl; cells = λ p other. refl }

pub push-next : (r : LaneRecord) (place : ℕ) → IsNext place (acts.Home r.lane place ∷ []) r (pushed_record r place)
push-next r place = record {
  lane = refl;
  mine = refl;
  chain = refl;
  deeds = λ p number other. ap (λ (b : Bool). cond b Untouched (status_of r p number)) (ne_eqb p place other);
  cells = λ p other. refl;
}

-- ---- what the lane did

module _ {S : Type 0} {z : Shape} {place : ℕ} {a b : Me S View} where
  pub did-goes : {made : List Act} {rooms : List ℕ} {r : LaneRecord} {steps looks : ℕ} → GoesOn z a.0 b.0 made rooms r → length rooms ≡ length made
      → IsNext place made (the_lane a.0) r → b.1 ≡ a.1 → b.0.steps ≡ a.0.steps + steps → b.0.looks ≤ a.0.looks + looks → Did z place made steps looks a b
  did-goes {r = r} goes even next held stepped looked =
      let now : the_lane b.0 ≡ r = ap head_record goes.lanes in record {
        acted = acted-goes goes even next.lane next.mine;
        held = held;
        stepped = stepped;
        looked = looked;
        chain = ap (λ (x : LaneRecord). x.chain) now ∙ next.chain;
        deeds = λ p number other. ap (λ (x : LaneRecord). status_of x p number) now ∙ next.deeds p number other;
        cells = λ p other. ap (λ (x : LaneRecord). known_of x p) now ∙ next.cells p other;
      }

  -- one step
  pub did-step : {kind : Kind} {found left : ℕ} {act : Option Act} {r : LaneRecord} → Steps z kind found left a b act r → IsNext place (acts_in act) (the_lane a.0) r
      → Did z place (acts_in act) 1 0 a b
  did-step {act = act} {r = r} steps next = did-goes steps.goes (even-in r act) next steps.held steps.steps (let same = steps.looks in omega arith)

  -- a look that moves nothing
  pub did-sees : Sees z a b → Did z place [] 0 1 a b
  did-sees sees = did-goes sees.goes refl
      (record { lane = refl; mine = sym (append-nil (the_lane a.0).mine); chain = refl; deeds = λ p number other. refl; cells = λ p other. refl })
      sees.held (let steps = sees.steps in omega arith) (let looked = sees.looks in omega arith)

  -- moves of the place's shares
  pub did-carries : {n looks : ℕ} → Carries z place n a b → n ≤ looks → Did z place [] 0 looks a b
  did-carries carries few =
      let same = carries.elsewhere in
      did-goes carries.goes refl (record {
        lane = same.lane;
        mine = same.mine ∙ sym (append-nil (the_lane a.0).mine);
        chain = same.chain;
        deeds = same.deeds;
        cells = same.cells;
      }) carries.held (let steps = carries.steps in omega arith) (let looked = carries.looked in omega arith)

  -- more looks are allowed
  pub did-most : {made : List Act} {steps looks most : ℕ} → Did z place made steps looks a b → looks ≤ most → Did z place made steps most a b
  did-most did few = record {
    acted = did.acted;
    held = did.held;
    stepped = did.stepped;
    looked = let looked = did.looked in omega arith;
    chain = did.chain;
    deeds = did.deeds;
    cells = did.cells;
  }

-- one after another
pub did-more : {S : Type 0} {z : Shape} {place s l t k : ℕ} {made more : List Act} {a b c : Me S View} → Did z place made s l a b → Did z place more t k b c
    → Did z place (made ++ more) (s + t) (l + k) a c
did-more first second = record {
  acted = acted-more first.acted second.acted;
  held = second.held ∙ first.held;
  stepped = let one = first.stepped in let two = second.stepped in omega arith;
  looked = let one = first.looked in let two = second.looked in omega arith;
  chain = second.chain ∙ first.chain;
  deeds = λ p number other. second.deeds p number other ∙ first.deeds p number other;
  cells = λ p other. second.cells p other ∙ first.cells p other;
}

-- ---- the steps of a call

module _ (z : Shape) (c : Caller) (call : Call) where
  pub make-one : (step : Step) (act : Option Act) (links : ℕ → ℕ) → Changes z.last_generation step.kind step.before step.after → Makes c call links step act
      → Make z c call (step ∷ []) (acts_in act)
  make-one step act links changes makes = (act, links, [], changes, makes, refl, sym (append-nil (acts_in act)))

  pub make-more : (front behind : List Step) (made more : List Act) → Make z c call front made → Make z c call behind more → Make z c call (front ++ behind) (made ++ more)
  make-more [] behind made more first second = subst (λ (xs : List Act). Make z c call behind (xs ++ more)) (sym first) second
  make-more (step ∷ front) behind made more first second = (
    first.0,
    first.1,
    first.2 ++ more,
    first.3,
    first.4,
    make-more front behind first.2 more first.5 second,
    ap (λ (xs : List Act). xs ++ more) first.6 ∙ append_assoc (acts_in first.0) first.2 more,
  )

pub end-more : (c : Caller) (place : ℕ) (done front behind : List Step) → AreEnd c place done front → AreEnd c place (done ++ front) behind
    → AreEnd c place done (front ++ behind)
end-more c place done [] behind first second = subst (λ (xs : List Step). AreEnd c place xs behind) (append-nil done) second
end-more c place done (step ∷ front) behind first second = (
  first.0,
  end-more c place (done ++ step ∷ []) front behind first.1
      (subst (λ (xs : List Step). AreEnd c place xs behind) (sym (append_assoc done (step ∷ []) front)) second),
)

-- ---- the end of a call

-- the caller is the same while its lane and what it pushed are
pub same-caller : (z : Shape) (v w : View) → (the_lane w).lane ≡ (the_lane v).lane → (the_lane w).pushed ≡ (the_lane v).pushed → caller_of z w ≡ caller_of z v
same-caller z v w lane pushed = λ i. record { shape = z; lane = lane i; pushed = pushed_in (pushed i) }

module _ {S : Type 0} {z : Shape} {place most l k : ℕ} {a b c : Me S View} (done : List Step) (same : caller_of z b.0 ≡ caller_of z a.0) where
  -- steps in front
  pub goes-after : (front : List Step) (made : List Act) → Did z place made (length front) l a b → AreEnd (caller_of z a.0) place done front
      → ((call : Call) → place_of (key_in call) ≡ place → Make z (caller_of z a.0) call front made)
      → GoesToEnd z place (done ++ front) most k b c → GoesToEnd z place done (length front + most) (l + k) a c
  goes-after front made did are make rest = record {
    steps = front ++ rest.steps;
    made = made ++ rest.made;
    are = end-more (caller_of z a.0) place done front rest.steps are (subst (λ (x : Caller). AreEnd x place (done ++ front) rest.steps) same rest.are);
    all = subst (λ (x : Caller). end_next x place (done ++ (front ++ rest.steps)) ≡ None) same
        (subst (λ (xs : List Step). end_next (caller_of z b.0) place xs ≡ None) (append_assoc done front rest.steps) rest.all);
    make = λ call at. make-more z (caller_of z a.0) call front rest.steps made rest.made (make call at)
        (subst (λ (x : Caller). Make z x call rest.steps rest.made) same (rest.make call at));
    did = subst (λ (n : ℕ). Did z place (made ++ rest.made) n (l + k) a c) (sym (length-append front rest.steps)) (did-more did rest.did);
    few = let all = length-append front rest.steps in let few = rest.few in omega arith;
    idle = rest.idle;
  }

  -- one step in front
  pub goes-first : (step : Step) (act : Option Act) → Did z place (acts_in act) 1 l a b → end_next (caller_of z a.0) place done ≡ Some (aim step.kind step.word)
      → Changes z.last_generation step.kind step.before step.after
      → ((call : Call) → place_of (key_in call) ≡ place → (links : ℕ → ℕ) × Makes (caller_of z a.0) call links step act)
      → GoesToEnd z place (done ++ step ∷ []) most k b c → GoesToEnd z place done (1 + most) (l + k) a c
  goes-first step act did next changes makes rest =
      goes-after (step ∷ []) (acts_in act) did (next, tt) (λ call at. let one = makes call at in make-one z (caller_of z a.0) call step act one.0 changes one.1) rest

  -- moves in front
  pub goes-moves : Did z place [] 0 l a b → GoesToEnd z place done most k b c → GoesToEnd z place done most (l + k) a c
  goes-moves did rest =
      subst (λ (n : ℕ). GoesToEnd z place done n (l + k) a c) (omega arith)
      (goes-after [] [] did tt (λ call at. refl) (subst (λ (xs : List Step). GoesToEnd z place xs most k b c) (sym (append-nil done)) rest))

-- the last step
pub goes-last : {S : Type 0} {z : Shape} {place l : ℕ} {a b : Me S View} (done : List Step) (step : Step) (act : Option Act) → Did z place (acts_in act) 1 l a b
    → end_next (caller_of z a.0) place done ≡ Some (aim step.kind step.word) → Changes z.last_generation step.kind step.before step.after
    → ((call : Call) → place_of (key_in call) ≡ place → (links : ℕ → ℕ) × Makes (caller_of z a.0) call links step act)
    → end_next (caller_of z a.0) place (done ++ step ∷ []) ≡ None → IsIdle b.0 → GoesToEnd z place done 1 l a b
goes-last {z = z} {a = a} done step act did next changes makes last idle = record {
  steps = step ∷ [];
  made = acts_in act;
  are = (next, tt);
  all = last;
  make = λ call at. let one = makes call at in make-one z (caller_of z a.0) call step act one.0 changes one.1;
  did = did;
  few = omega arith;
  idle = idle;
}

-- no step, where the end has none
pub goes-none : {S : Type 0} {z : Shape} {place l : ℕ} {a b : Me S View} (done : List Step) → Did z place [] 0 l a b → end_next (caller_of z a.0) place done ≡ None
    → IsIdle b.0 → GoesToEnd z place done 0 l a b
goes-none {z = z} {place = place} {a = a} done did last idle = record {
  steps = [];
  made = [];
  are = tt;
  all = subst (λ (xs : List Step). end_next (caller_of z a.0) place xs ≡ None) (sym (append-nil done)) last;
  make = λ call at. refl;
  did = did;
  few = omega arith;
  idle = idle;
}

-- more steps and looks are allowed
pub goes-most : {S : Type 0} {z : Shape} {place n m l k : ℕ} {done : List Step} {a b : Me S View} → GoesToEnd z place done n l a b → n ≤ m → l ≤ k → GoesToEnd z place done m k a b
goes-most goes steps looks = record {
  steps = goes.steps;
  made = goes.made;
  are = goes.are;
  all = goes.all;
  make = goes.make;
  did = did-most goes.did looks;
  few = let few = goes.few in omega arith;
  idle = goes.idle;
}
