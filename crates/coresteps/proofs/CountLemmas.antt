-- A create makes no more steps than there are lanes, and no other call more than eight.
use Rattle.std.proofs.Common.{◌≡◌, ℕ, zero, suc, ◌+◌, ◌-◌, ◌<◌, ◌≤◌, Bool, true, false, cond, eqb, ltb, List, [], ◌∷◌, length, Some, None, refl, sym, ap, ◌∙◌, arith}
use Rattle.std.proofs.lemmas.Bool.{eqb-false, ltb-true, eqb-true}
use Rattle.keybits.specs.declared.step.Step.{Step}
use Rattle.keybits.specs.Keys.{place_of}
use Rattle.steplaws.specs.Calls.{Call, Publishing, Getting, Releasing, Clearing, Creating, Caller, aim, is_hit, follow_next, next_lane, first_lane, take_next, AreSteps}
use Rattle.traces.proofs.CallActs.{EndSteps, if_some, else_some, release_steps, get_steps, clear_steps, mark_steps, TakeSteps, create_steps, empty_steps}

-- a call that isn't a create
abbrev pub NotCreating : Call → Type 0
NotCreating (Publishing key content with_ref) = Unit {0}
NotCreating (Getting key) = Unit {0}
NotCreating (Releasing key) = Unit {0}
NotCreating (Clearing key) = Unit {0}
NotCreating (Creating own chain opened) = ⊥

-- ---- an END

-- an END makes at most six steps
end_few : (c : Caller) (place : ℕ) (steps : List Step) → EndSteps c place [] steps → length steps ≤ 6
end_few c place [] are = omega arith
end_few c place (a ∷ []) are = omega arith
end_few c place (a ∷ b ∷ []) are = omega arith
end_few c place (a ∷ b ∷ d ∷ []) are = omega arith
end_few c place (a ∷ b ∷ d ∷ e ∷ []) are = omega arith
end_few c place (a ∷ b ∷ d ∷ e ∷ f ∷ []) are = omega arith
end_few c place (a ∷ b ∷ d ∷ e ∷ f ∷ g ∷ []) are = omega arith
end_few c place (a ∷ b ∷ d ∷ e ∷ f ∷ g ∷ h ∷ more) are = let bad = are.1.1.1.1.1.1.0 in absurd (cc bad)

-- ---- get and clear

-- after its ENTER a get makes no step where it hit, and an END where it missed
get_few : (c : Caller) (key : ℕ) (enter : Step) (t : Bool) → is_hit key enter.before ≡ t → (more : List Step)
    → AreSteps c (Getting key) (enter ∷ []) more → length more ≤ 6
get_few c key enter true hit [] are = omega arith
get_few c key enter true hit (step ∷ more) are =
    let bad : true ≡ false = sym hit ∙ (else_some (is_hit key enter.before) None _ _ refl are.0).0 in absurd (cc bad)
get_few c key enter false miss more are = end_few c (place_of key) more (get_steps c key enter miss [] more are)

-- after its ENTER a clear makes a MARK and an END where it hit, and an END where it missed
clear_few : (c : Caller) (key : ℕ) (enter : Step) (t : Bool) → is_hit key enter.before ≡ t → (more : List Step)
    → AreSteps c (Clearing key) (enter ∷ []) more → length more ≤ 7
clear_few c key enter true hit [] are = omega arith
clear_few c key enter true hit (mark ∷ more) are =
    let few = end_few c (place_of key) more (mark_steps c key enter mark hit [] more are.1) in omega arith
clear_few c key enter false miss more are =
    let few = end_few c (place_of key) more (clear_steps c key enter miss [] more are) in omega arith

-- no call but create makes more than eight steps
pub few_other : (c : Caller) (call : Call) (steps : List Step) → AreSteps c call [] steps → NotCreating call → length steps ≤ 8
few_other c (Publishing key content with_ref) [] are other = omega arith
few_other c (Publishing key content with_ref) (publish ∷ []) are other = omega arith
few_other c (Publishing key content with_ref) (publish ∷ step ∷ more) are other = let bad = are.1.0 in absurd (cc bad)
few_other c (Getting key) [] are other = omega arith
few_other c (Getting key) (enter ∷ more) are other =
    let few = get_few c key enter (is_hit key enter.before) refl more are.1 in omega arith
few_other c (Releasing key) steps are other =
    let few = end_few c (place_of key) steps (release_steps c key [] steps are) in omega arith
few_other c (Clearing key) [] are other = omega arith
few_other c (Clearing key) (enter ∷ more) are other =
    let few = clear_few c key enter (is_hit key enter.before) refl more are.1 in omega arith
few_other c (Creating own chain opened) steps are other = absurd other

-- ---- the TAKEs of a create

-- behind a TAKE that found a chain there is at most one FOLLOW
follow_few : (c : Caller) (lane : ℕ) (take : Step) → eqb take.before 0 ≡ false → (more : List Step) → TakeSteps c lane (take ∷ []) more
    → length more ≤ 1
follow_few c lane take found [] are = omega arith
follow_few c lane take found (follow ∷ []) are = omega arith
follow_few c lane take found (follow ∷ step ∷ more) are =
    let bad : None ≡ Some (aim step.kind step.word) =
    sym (ap (λ (b : Bool). cond b (take_next c (next_lane c.lane lane) (follow ∷ [])) (follow_next c.lane take.before (follow ∷ []))) found)
    ∙ are.1.0 in absurd (cc bad)

-- each TAKE leaves one lane less to take from
next_far : (own lane lanes n : ℕ) (t : Bool) → eqb (lane + 1) own ≡ t → lanes ≤ lane + suc n + 1 → (own ≤ lane → lanes ≤ lane + suc n)
    → (lanes ≤ cond t (lane + 2) (lane + 1) + n + 1) × (own ≤ cond t (lane + 2) (lane + 1) → lanes ≤ cond t (lane + 2) (lane + 1) + n)
next_far own lane lanes n true e some past = (omega arith, λ le. omega arith)
next_far own lane lanes n false e some past = let apart = eqb-false (lane + 1) own e in (omega arith, λ le. omega arith)

-- a TAKE, and behind it few more TAKEs where it found 0, or one FOLLOW
take_more : (c : Caller) (lane : ℕ) (take : Step) (more : List Step) (n : ℕ) (t : Bool) → eqb take.before 0 ≡ t → TakeSteps c lane (take ∷ []) more
    → (TakeSteps c (next_lane c.lane lane) [] more → length more ≤ n + 1) → length (take ∷ more) ≤ suc n + 1
take_more c lane take more n true none are rest = let few = rest (empty_steps c lane take (eqb-true take.before 0 none) [] more are) in omega arith
take_more c lane take more n false found are rest = let few = follow_few c lane take found more are in omega arith

-- TAKEs from this lane on, each of another lane, and one FOLLOW
take_few : (c : Caller) (steps : List Step) (lane n : ℕ) → c.lane < c.shape.lanes → c.shape.lanes ≤ lane + n + 1
    → (c.lane ≤ lane → c.shape.lanes ≤ lane + n) → TakeSteps c lane [] steps → length steps ≤ n + 1
take_few c [] lane n within some past are = omega arith
take_few c (take ∷ more) lane zero within some past are =
    let below = ltb-true lane c.shape.lanes (if_some (ltb lane c.shape.lanes) _ _ are.0).0 in absurd (omega arith)
take_few c (take ∷ more) lane (suc n) within some past are =
    let far = next_far c.lane lane c.shape.lanes n (eqb (lane + 1) c.lane) refl some past in
    take_more c lane take more n (eqb take.before 0) refl are.1 (take_few c more (next_lane c.lane lane) n within far.0 far.1)

-- all other lanes are left from the first on
first_far : (own lanes : ℕ) (t : Bool) → eqb own 0 ≡ t → own < lanes → (lanes ≤ cond t 1 0 + (lanes - 1) + 1) × (own ≤ cond t 1 0 → lanes ≤ cond t 1 0 + (lanes - 1))
first_far own lanes true e below = (omega arith, λ le. omega arith)
first_far own lanes false e below = let apart = eqb-false own 0 e in (omega arith, λ le. absurd (omega arith))

-- a create makes at most as many steps as there are lanes
pub create_few : (c : Caller) (own chain : List ℕ) (opened : ℕ) (steps : List Step) → AreSteps c (Creating own chain opened) [] steps
    → c.lane < c.shape.lanes → length steps ≤ c.shape.lanes
create_few c own chain opened [] are below = omega arith
create_few c (place ∷ own) chain opened (step ∷ more) are below = let bad = are.0 in absurd (cc bad)
create_few c [] (place ∷ chain) opened (follow ∷ []) are below = omega arith
create_few c [] (place ∷ chain) opened (follow ∷ step ∷ more) are below = let bad = are.1.0 in absurd (cc bad)
create_few c [] [] opened (step ∷ more) are below =
    let some_page = else_some (eqb opened 0) None _ _ refl are.0 in
    let far = first_far c.lane c.shape.lanes (eqb c.lane 0) refl below in
    let few = take_few c (step ∷ more) (first_lane c.lane) (c.shape.lanes - 1) below far.0 far.1 (create_steps c opened some_page.0 [] (step ∷ more) are) in omega arith

-- no call makes more steps than the most lanes
pub few_steps : (c : Caller) (call : Call) (steps : List Step) → AreSteps c call [] steps → c.shape.lanes ≤ 64 → c.lane < c.shape.lanes
    → length steps ≤ 64
few_steps c (Creating own chain opened) steps are lanes below = let few = create_few c own chain opened steps are below in omega arith
few_steps c (Publishing key content with_ref) steps are lanes below = let few = few_other c (Publishing key content with_ref) steps are tt in omega arith
few_steps c (Getting key) steps are lanes below = let few = few_other c (Getting key) steps are tt in omega arith
few_steps c (Releasing key) steps are lanes below = let few = few_other c (Releasing key) steps are tt in omega arith
few_steps c (Clearing key) steps are lanes below = let few = few_other c (Clearing key) steps are tt in omega arith
