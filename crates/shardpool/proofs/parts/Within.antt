-- The first so many steps of an END, one after another, and of a call that it ends.
use Rattle.std.proofs.Common.{◌≡◌, ◌⊎◌, inl, inr, ℕ, ◌+◌, ◌<◌, ◌≤◌, List, [], ◌∷◌, ◌++◌, length, Option, Some, None, refl, sym, ap, ◌∙◌, subst, arith, append_assoc, append-nil, length-append}
use mathlib.Core.Logic.{dite}
use native.Mathlib.Decide.{ℕ_discrete}
use Rattle.atomic_table.specs.Table.{Me}
use Rattle.keybits.specs.declared.shape.Shape.{Shape}
use Rattle.keybits.specs.declared.step.Step.{Step}
use Rattle.keybits.specs.Keys.{place_of}
use Rattle.keybits.specs.Steps.{Changes}
use Rattle.seqpool.specs.declared.act.Act.{Act}
use Rattle.steplaws.specs.Calls.{Call, Caller, aim, end_next, next_step, key_in, Makes}
use Rattle.poolsteps.specs.declared.view.View.{View}
use Rattle.poolsteps.specs.Views.{acts_in, IsOne}
use Rattle.seatcalls.specs.Called.{caller_of, Make, Did, AreEnd, IsLawful}
use Rattle.seatcalls.proofs.parts.Going.{none-acted}
use Rattle.seatcalls.proofs.parts.Doing.{did-more, make-one, make-more, end-more}
use Rattle.seatcalls.proofs.parts.Ending.{did-nothing}
use Rattle.seatcalls.proofs.parts.Calling.{Opens, GoesOnAsEnd, steps-more, end-steps}
use Rattle.shardpool.specs.Halted.{CalledWithin, GoesWithin}

-- where no step is left, it ends there or at the limit
pub at-end : (n limit : ℕ) (A : Type 0) → n ≤ limit → A → (n ≡ limit) ⊎ ((n < limit) × A)
at-end n limit A few none = dite (ℕ_discrete n limit) (λ same. inl same) (λ other. inr (omega (arith, few, other), none))

-- ---- an END

-- no step, where the limit is 0
pub within-stop : {S : Type 0} {z : Shape} {place : ℕ} {a : Me S View} (done : List Step) → IsOne a.0 → IsLawful z a.0 → GoesWithin z place done 0 a a
within-stop {z = z} {place = place} {a = a} done one seen = record {
  steps = [];
  made = [];
  looks = 0;
  are = tt;
  ends = inl refl;
  make = λ call at. refl;
  did = did-nothing one seen;
}

-- or where none is left
pub within-none : {S : Type 0} {z : Shape} {place : ℕ} {a : Me S View} (done : List Step) (limit : ℕ) → IsOne a.0 → IsLawful z a.0
    → end_next (caller_of z a.0) place done ≡ None → GoesWithin z place done limit a a
within-none {z = z} {place = place} {a = a} done limit one seen last = record {
  steps = [];
  made = [];
  looks = 0;
  are = tt;
  ends = at-end 0 limit (end_next (caller_of z a.0) place (done ++ []) ≡ None) (omega arith)
      (ap (end_next (caller_of z a.0) place) (append-nil done) ∙ last);
  make = λ call at. refl;
  did = did-nothing one seen;
}

-- nor is one made after others, where the limit is 0
pub within-after : {S : Type 0} {z : Shape} {place other s l : ℕ} {made : List Act} {a b : Me S View} (done : List Step) → Did z other made s l a b
    → GoesWithin z place done 0 b b
within-after done did = within-stop done did.acted.one (did.acted.legal, did.acted.own, did.acted.quiet, did.acted.owners)

module _ {S : Type 0} {z : Shape} {place more l : ℕ} {a b c : Me S View} (done : List Step) where
  -- steps in front
  within-front : (front : List Step) (made : List Act) → caller_of z b.0 ≡ caller_of z a.0 → Did z place made (length front) l a b
      → AreEnd (caller_of z a.0) place done front → ((call : Call) → place_of (key_in call) ≡ place → Make z (caller_of z a.0) call front made)
      → GoesWithin z place (done ++ front) more b c → (limit : ℕ) → length front + more ≡ limit → GoesWithin z place done limit a c
  within-front front made same did are make rest limit sum = record {
    steps = front ++ rest.steps;
    made = made ++ rest.made;
    looks = l + rest.looks;
    are = end-more (caller_of z a.0) place done front rest.steps are (subst (λ (x : Caller). AreEnd x place (done ++ front) rest.steps) same rest.are);
    ends =
        let all = length-append front rest.steps in
        let last : end_next (caller_of z b.0) place ((done ++ front) ++ rest.steps) ≡ None → end_next (caller_of z a.0) place (done ++ (front ++ rest.steps)) ≡ None
        = λ none. subst (λ (x : Caller). end_next x place (done ++ (front ++ rest.steps)) ≡ None) same
        (ap (end_next (caller_of z b.0) place) (sym (append_assoc done front rest.steps)) ∙ none) in
        elim rest.ends [
          | inl full ↦ inl (omega (arith, all, full, sum))
          | inr none ↦ let below = none.0 in inr (omega (arith, all, below, sum), last none.1)
        ];
    make = λ call at. make-more z (caller_of z a.0) call front rest.steps made rest.made (make call at)
        (subst (λ (x : Caller). Make z x call rest.steps rest.made) same (rest.make call at));
    did = subst (λ (n : ℕ). Did z place (made ++ rest.made) n (l + rest.looks) a c) (sym (length-append front rest.steps)) (did-more did rest.did);
  }

  -- one step in front
  pub within-first : (step : Step) (act : Option Act) → caller_of z b.0 ≡ caller_of z a.0 → Did z place (acts_in act) 1 l a b
      → end_next (caller_of z a.0) place done ≡ Some (aim step.kind step.word) → Changes z.last_generation step.kind step.before step.after
      → ((call : Call) → place_of (key_in call) ≡ place → (links : ℕ → ℕ) × Makes (caller_of z a.0) call links step act)
      → GoesWithin z place (done ++ step ∷ []) more b c → (limit : ℕ) → 1 + more ≡ limit → GoesWithin z place done limit a c
  within-first step act same did next changes makes rest limit sum = within-front (step ∷ []) (acts_in act) same did (next, tt)
      (λ call at. let one = makes call at in make-one z (caller_of z a.0) call step act one.0 changes one.1) rest limit sum

  -- moves in front
  pub within-moves : caller_of z b.0 ≡ caller_of z a.0 → Did z place [] 0 l a b → GoesWithin z place done more b c → GoesWithin z place done more a c
  within-moves same did rest = within-front [] [] same did tt (λ call at. refl)
      (subst (λ (xs : List Step). GoesWithin z place xs more b c) (sym (append-nil done)) rest) more (omega arith)

-- the last step
pub within-last : {S : Type 0} {z : Shape} {place l : ℕ} {a b : Me S View} (done : List Step) (step : Step) (act : Option Act) → Did z place (acts_in act) 1 l a b
    → end_next (caller_of z a.0) place done ≡ Some (aim step.kind step.word) → Changes z.last_generation step.kind step.before step.after
    → ((call : Call) → place_of (key_in call) ≡ place → (links : ℕ → ℕ) × Makes (caller_of z a.0) call links step act)
    → end_next (caller_of z a.0) place (done ++ step ∷ []) ≡ None → (limit : ℕ) → 0 < limit → GoesWithin z place done limit a b
within-last {z = z} {l = l} {a = a} done step act did next changes makes last limit some = record {
  steps = step ∷ [];
  made = acts_in act;
  looks = l;
  are = (next, tt);
  ends = at-end 1 limit _ (omega (arith, some)) last;
  make = λ call at. let one = makes call at in make-one z (caller_of z a.0) call step act one.0 changes one.1;
  did = did;
}

-- ---- a call

-- no step of it, where the limit is 0
pub called-not : {S : Type 0} {z : Shape} {a : Me S View} (call : Call) (limit : ℕ) → limit ≡ 0 → IsOne a.0 → IsLawful z a.0 → CalledWithin z call limit a a
called-not call limit zero one seen =
    record { steps = []; made = []; are = tt; ends = inl (sym zero); make = refl; acted = none-acted one seen; held = refl; stepped = omega arith }

module _ {S : Type 0} {z : Shape} {call : Call} {steps : List Step} {made : List Act} {a b : Me S View} where
  -- its first steps
  called-so : (limit : ℕ) → Opens z call steps made a b
      → (length steps ≡ limit) ⊎ ((length steps < limit) × (next_step (caller_of z a.0) call steps ≡ None)) → CalledWithin z call limit a b
  called-so limit opens ends = record {
    steps = steps;
    made = made;
    are = opens.are;
    ends = ends;
    make = opens.make;
    acted = opens.did.acted;
    held = opens.did.held;
    stepped = opens.did.stepped;
  }

  -- at which the limit is reached
  pub called-part : Opens z call steps made a b → CalledWithin z call (length steps) a b
  called-part opens = called-so (length steps) opens (inl refl)

  -- or the last of which is its last
  pub called-whole : (limit : ℕ) → length steps ≤ limit → Opens z call steps made a b → next_step (caller_of z a.0) call steps ≡ None → CalledWithin z call limit a b
  called-whole limit few opens last = called-so limit opens (at-end (length steps) limit _ few last)

-- one that goes on as an end after its first steps, from its LEAVE
pub called-on : {S : Type 0} {z : Shape} {call : Call} {made : List Act} {a b c : Me S View} (done : List Step) (leave : Step) (limit : ℕ)
    → Opens z call (done ++ leave ∷ []) made a b → GoesOnAsEnd (caller_of z a.0) call done
    → GoesWithin z (place_of (key_in call)) (leave ∷ []) limit b c → CalledWithin z call (length (done ++ leave ∷ []) + limit) a c
called-on {z = z} {call = call} {made = made} {a = a} {b = b} {c = c} done leave limit opens follows rest =
    let front : List Step = done ++ leave ∷ [] in
    let place : ℕ = place_of (key_in call) in
    let caller : Caller = caller_of z a.0 in
    let all = length-append front rest.steps in
    let last : end_next (caller_of z b.0) place (leave ∷ rest.steps) ≡ None → next_step caller call (front ++ rest.steps) ≡ None
    = λ none. ap (next_step caller call) (append_assoc done (leave ∷ []) rest.steps)
    ∙ (follows (leave ∷ rest.steps) ∙ subst (λ (x : Caller). end_next x place (leave ∷ rest.steps) ≡ None) opens.same none) in
    let did = did-more opens.did rest.did in record {
      steps = front ++ rest.steps;
      made = made ++ rest.made;
      are = steps-more caller call [] front rest.steps opens.are
          (end-steps caller call done follows (leave ∷ []) rest.steps (subst (λ (x : Caller). AreEnd x place (leave ∷ []) rest.steps) opens.same rest.are));
      ends = elim rest.ends [
        | inl full ↦ inl (omega (arith, all, full))
        | inr none ↦ inr (omega (arith, all, none.0), last none.1)
      ];
      make = make-more z caller call front rest.steps made rest.made opens.make
          (subst (λ (x : Caller). Make z x call rest.steps rest.made) opens.same (rest.make call refl));
      acted = did.acted;
      held = did.held;
      stepped = let stepped = did.stepped in omega (arith, all, stepped);
    }
