-- A step keeps what its lane's book and the pool tell of each other, and what another lane's book and the pool do.
use Rattle.std.proofs.Common.{◌≡◌, ◌≢◌, ℕ, ◌+◌, ◌<◌, ◌≤◌, Bool, true, false, cond, eqb, ◌&&◌, List, [], ◌∷◌, ◌++◌, Option, Some, None, refl, sym, ap, ◌∙◌, subst, arith, append-nil, append_assoc}
use mathlib.Core.Logic.{dite}
use native.Mathlib.Decide.{ℕ_discrete}
use Rattle.keybits.specs.declared.shape.Shape.{Shape}
use Rattle.keybits.specs.declared.step.Step.{Step}
use Rattle.keybits.specs.declared.step.Kind.{Kind}
use Rattle.keybits.specs.declared.step.Kind.TheVariants as kinds
use Rattle.keybits.specs.declared.step.Word.{Word}
use Rattle.keybits.specs.Shapes.{IsShape}
use Rattle.keybits.specs.Keys.{key_number, place_of, generation_of, is_key}
use Rattle.keybits.specs.Counts.{times}
use Rattle.keybits.specs.Words.{state_in}
use Rattle.keybits.specs.Steps.{Changes}
use Rattle.keybits.proofs.CountLemmas.{one_at, times-append}
use Rattle.keybits.proofs.KeyLemmas.{key_parts}
use Rattle.seqpool.specs.declared.act.Act.{Act}
use Rattle.seqpool.specs.declared.act.Act.TheVariants as acts
use Rattle.seqpool.specs.Pool.{Phase, with, Pool, is_current, lane_of, fresh, pool_from, LegalFrom, pool_after, IsLegal}
use Rattle.seqpool.proofs.Growth.{pool-append, legal-rest}
use Rattle.steplaws.specs.Calls.{Call, Publishing, Getting, Releasing, Clearing, Creating, Caller, aim, is_hit, is_claimed, next_step, AreSteps, key_in, place_in, KindMakes}
use Rattle.traces.specs.declared.script.Command.{Command}
use Rattle.traces.specs.declared.script.Command.TheVariants as commands
use Rattle.traces.specs.declared.registers.RegisterState.{RegisterState}
use Rattle.traces.specs.declared.registers.Holding.{Holding}
use Rattle.traces.specs.declared.registers.Holding.TheVariants.{Empty, Filling, Reference}
use Rattle.traces.specs.Registers.{fills, fillings}
use Rattle.traces.specs.Books.{Book, holding_at, creating, call_of_first, call_under_way, caller, next_in, reclaimed, returned, act_list, stepped}
use Rattle.traces.specs.Lawful.{World, CallMakes, IsStep}
use Rattle.traces.specs.Parts.{count_if}
use Rattle.traces.specs.Making.{IsMade, AreMade, HasMade}
use Rattle.traces.specs.Owning.{is_with, publishes, collected, gains, releases, kept_in, IsHolding, AreHolding, IsOwned}
use Rattle.traces.proofs.Moves.{reclaimed-append, returned-append, publishes-append, collected-append, gains-append, releases-append, with-of, IsBy, Moves, moves, Leaves, leaves, reclaims_key}

-- ---- the call under way, one step more

creating-stepped : (b : Book) (step : Step) (act : Option Act) (h : Holding) → creating (stepped b step act) h ≡ creating b h
creating-stepped b step act Empty = refl
creating-stepped b step act (Filling key content) = refl
creating-stepped b step act (Reference key content) = refl

call_of-stepped : (b : Book) (step : Step) (act : Option Act) (left : List Command) → call_of_first (stepped b step act) left ≡ call_of_first b left
call_of-stepped b step act [] = refl
call_of-stepped b step act (commands.Create r ∷ more) = creating-stepped b step act (holding_at b r.number)
call_of-stepped b step act (commands.Write r bytes ∷ more) = refl
call_of-stepped b step act (commands.Publish r ∷ more) = refl
call_of-stepped b step act (commands.Downgrade r ∷ more) = refl
call_of-stepped b step act (commands.Get r key ∷ more) = refl
call_of-stepped b step act (commands.Read r ∷ more) = refl
call_of-stepped b step act (commands.Release r ∷ more) = refl
call_of-stepped b step act (commands.Clear key ∷ more) = refl

-- a step leaves the call under way
pub call-stepped : (b : Book) (step : Step) (act : Option Act) → call_under_way (stepped b step act) ≡ call_under_way b
call-stepped b step act = call_of-stepped b step act b.left

pub steps-snoc : (c : Caller) (call : Call) (made steps : List Step) (step : Step) → AreSteps c call made steps
    → next_step c call (made ++ steps) ≡ Some (aim step.kind step.word) → AreSteps c call made (steps ++ step ∷ [])
steps-snoc c call made [] step are next = (ap (next_step c call) (sym (append-nil made)) ∙ next, tt)
steps-snoc c call made (first ∷ more) step are next =
    (are.0, steps-snoc c call (made ++ first ∷ []) more step are.1 (ap (next_step c call) (append_assoc made (first ∷ []) more) ∙ next))

pub made-snoc : (c : Caller) (call : Call) (steps : List Step) (made : List Act) (step : Step) (act : Option Act)
    → AreMade c call steps made → IsMade c call step act → AreMade c call (steps ++ step ∷ []) (made ++ act_list act)
made-snoc c call [] made step act are one =
    (act, [], one, ap (λ (xs : List Act). xs ++ act_list act) are ∙ sym (append-nil (act_list act)), refl)
made-snoc c call (first ∷ more) made step act are one = (
  are.0,
  are.1 ++ act_list act,
  are.2,
  ap (λ (xs : List Act). xs ++ act_list act) are.3 ∙ append_assoc (act_list are.0) are.1 (act_list act),
  made-snoc c call more are.1 step act are.4 one,
)

-- the call has made its steps so far, and makes its next one
pub has_made-snoc : (c : Caller) (call : Option Call) (links : ℕ → ℕ) (steps : List Step) (made : List Act) (step : Step) (act : Option Act)
    → HasMade c call steps made → next_in c steps call ≡ Some (aim step.kind step.word)
    → Changes c.shape.last_generation step.kind step.before step.after → CallMakes c call links step act
    → ((lane key : ℕ) → act ≡ Some (acts.Reclaim lane key) → is_key c.shape key ≡ true)
    → HasMade c call (steps ++ step ∷ []) (made ++ act_list act)
has_made-snoc c None links steps made step act has next changes makes reclaims = absurd makes
has_made-snoc c (Some call) links steps made step act has next changes makes reclaims = (
  steps-snoc c call [] steps step has.0 next,
  made-snoc c call steps made step act has.1 (record { changes = changes; links = links; makes = makes; reclaims = reclaims }),
)

-- ---- the lane of an act

from-false : (b : Bool) (act x : Act) → Some act ≡ cond b None (Some x) → act ≡ x
from-false true act x e = absurd (cc e)
from-false false act x e = cc e

from-true : (b : Bool) (act x : Act) → Some act ≡ cond b (Some x) None → act ≡ x
from-true true act x e = cc e
from-true false act x e = absurd (cc e)

some-act : (act x : Act) → Some act ≡ Some x → act ≡ x
some-act act x e = cc e

none-act : (act : Act) (Q : Type 0) → Some act ≡ None → Q
none-act act Q e = absurd (cc e)

kind-lane : (kind : Kind) (c : Caller) (call : Call) (links : ℕ → ℕ) (word : Word) (before : ℕ) (act : Act)
    → KindMakes kind c call links word before (Some act) → lane_of act ≡ c.lane
kind-lane kinds.Enter c (Getting key) links word before act m = ap lane_of (some-act act (acts.Get c.lane key m.0) m.2)
kind-lane kinds.Enter c (Clearing key) links word before act m = ap lane_of (from-false (is_hit key before) act (acts.Clear c.lane key false) m)
kind-lane kinds.Enter c (Publishing key content with_ref) links word before act m = absurd m
kind-lane kinds.Enter c (Releasing key) links word before act m = absurd m
kind-lane kinds.Enter c (Creating own chain opened) links word before act m = absurd m
kind-lane kinds.Leave c (Releasing key) links word before act m = ap lane_of (some-act act (acts.Release c.lane key) m)
kind-lane kinds.Leave c (Getting key) links word before act m = none-act act (lane_of act ≡ c.lane) m
kind-lane kinds.Leave c (Clearing key) links word before act m = none-act act (lane_of act ≡ c.lane) m
kind-lane kinds.Leave c (Publishing key content with_ref) links word before act m = absurd m
kind-lane kinds.Leave c (Creating own chain opened) links word before act m = absurd m
kind-lane (kinds.Publish told) c (Publishing key content with_ref) links word before act m =
    ap lane_of (some-act act (acts.Publish c.lane key content with_ref) m)
kind-lane (kinds.Publish told) c (Getting key) links word before act m = absurd m
kind-lane (kinds.Publish told) c (Releasing key) links word before act m = absurd m
kind-lane (kinds.Publish told) c (Clearing key) links word before act m = absurd m
kind-lane (kinds.Publish told) c (Creating own chain opened) links word before act m = absurd m
kind-lane kinds.Mark c (Clearing key) links word before act m = ap lane_of (some-act act (acts.Clear c.lane key (eqb (state_in before) 1)) m)
kind-lane kinds.Mark c (Getting key) links word before act m = absurd m
kind-lane kinds.Mark c (Releasing key) links word before act m = absurd m
kind-lane kinds.Mark c (Publishing key content with_ref) links word before act m = absurd m
kind-lane kinds.Mark c (Creating own chain opened) links word before act m = absurd m
kind-lane (kinds.Claim generation) c call links word before act m =
    ap lane_of (from-true (is_claimed generation before) act (acts.Reclaim c.lane (key_number c.shape.tag (place_in word) generation)) m)
kind-lane (kinds.Link expected) c call links word before act m = none-act act (lane_of act ≡ c.lane) m
kind-lane (kinds.Push expected link) c call links word before act m =
    ap lane_of (from-true (eqb before expected) act (acts.Home c.lane (place_of (key_in call))) m)
kind-lane kinds.Take c call links word before act m = dite (ℕ_discrete before 0)
    (λ empty. none-act act (lane_of act ≡ c.lane) (m.0 empty))
    (λ some_chain. let found = m.1 some_chain in ap lane_of (some-act act (acts.Collect c.lane found.0) found.2))
kind-lane kinds.Follow c call links word before act m = none-act act (lane_of act ≡ c.lane) m

-- the act of a step is by the lane of the call
pub is_by : (c : Caller) (call : Option Call) (links : ℕ → ℕ) (step : Step) (act : Option Act) → CallMakes c call links step act → IsBy c.lane act
is_by c None links step act makes = absurd makes
is_by c (Some call) links step None makes = tt
is_by c (Some call) links step (Some act) makes = kind-lane step.kind c call links step.word step.before act makes

-- ---- what registers hold

-- each filling is of a place that counts here, and is current after the act where it was before
holding-one : (z : Shape) (P Q : Pool) (made more : List Act) (count : ℕ → ℕ)
    → ((key : ℕ) → is_key z key ≡ true → 0 < count (place_of key) → (times (place_of key) (publishes made) ≡ 0 → is_current z P key ≡ true)
    → times (place_of key) (publishes more) ≡ 0 → is_current z Q key ≡ true)
    → (h : Holding) → ((place : ℕ) → fills place h ≤ count place) → IsHolding z P made h → IsHolding z Q more h
holding-one z P Q made more count keeps Empty few is = tt
holding-one z P Q made more count keeps (Filling key content) few is =
    let one : count_if (eqb (place_of key) (place_of key)) ≡ 1 = one_at (place_of key) (place_of key) refl in
    let le = few (place_of key) in
    (is.0, keeps key is.0 (omega arith) is.1)
holding-one z P Q made more count keeps (Reference key content) few is = is

holding-all : (z : Shape) (P Q : Pool) (made more : List Act) (count : ℕ → ℕ)
    → ((key : ℕ) → is_key z key ≡ true → 0 < count (place_of key) → (times (place_of key) (publishes made) ≡ 0 → is_current z P key ≡ true)
    → times (place_of key) (publishes more) ≡ 0 → is_current z Q key ≡ true)
    → (xs : List RegisterState) → ((place : ℕ) → fillings place xs ≤ count place) → AreHolding z P made xs → AreHolding z Q more xs
holding-all z P Q made more count keeps [] few are = tt
holding-all z P Q made more count keeps (x ∷ xs) few are = (
  holding-one z P Q made more count keeps x.holding (λ place. let le = few place in omega arith) are.0,
  holding-all z P Q made more count keeps xs (λ place. let le = few place in omega arith) are.1,
)

-- a place that the lane fills, and that it hasn't published, is with it; no place is returned that wasn't reclaimed before
filled-with : (lane : ℕ) (f : Phase) (kept filled brought found sent : ℕ) → 0 < filled → filled ≤ kept → sent ≤ brought
    → kept + brought + found ≡ count_if (is_with lane f) + sent + 0 → f ≡ with lane
filled-with lane f kept filled brought found sent some part le same = with-of lane f (omega arith)

-- a key stays current where the generation of its place stays
current-same : (z : Shape) (P Q : Pool) (key : ℕ)
    → (Q (place_of key)).generation ≡ (P (place_of key)).generation → is_current z P key ≡ true → is_current z Q key ≡ true
current-same z P Q key same is = ap (λ (g : ℕ). is_key z key && eqb g (generation_of key)) same ∙ is

-- ---- a step

-- these acts returned no place more often than they reclaimed it
abbrev pub AreReturns : ℕ → List Act → Type 0
AreReturns last made = (place : ℕ) → times place (returned made) ≤ times place (reclaimed last made)

module _ (z : Shape) (P : Pool) (lane : ℕ) (b : Book) (returns : AreReturns z.last_generation b.acts) (o : IsOwned z P lane b) where
  -- an unpublished filling of the lane is with it
  filling_with : (key : ℕ) → is_key z key ≡ true → 0 < fillings (place_of key) b.registers → times (place_of key) (publishes b.acts) ≡ 0
      → (P (place_of key)).phase ≡ with lane
  filling_with key is some unpublished =
      let same = o.places (place_of key) (key_parts z key is).place in
      filled-with lane (P (place_of key)).phase (kept_in (place_of key) lane b) (fillings (place_of key) b.registers)
      (times (place_of key) (reclaimed z.last_generation b.acts)) (times (place_of key) (collected b.acts)) (times (place_of key) (returned b.acts))
      some (omega arith) (returns (place_of key)) (omega arith)

  -- the lane's own step
  owned_moves : (step : Step) (act : Option Act) → Moves z P lane (act_list act)
      → HasMade (caller z lane b) (call_under_way (stepped b step act)) (b.steps ++ step ∷ []) (b.acts ++ act_list act)
      → IsOwned z (pool_from z P (act_list act)) lane (stepped b step act)
  owned_moves step act m has = record {
    call = has;
    places = λ place inside.
        let before = o.places place inside in
        let change = m.places place in
        let brought = ap (times place) (reclaimed-append z.last_generation b.acts (act_list act))
        ∙ times-append place (reclaimed z.last_generation b.acts) (reclaimed z.last_generation (act_list act)) in
        let found = ap (times place) (collected-append b.acts (act_list act)) ∙ times-append place (collected b.acts) (collected (act_list act)) in
        let sent = ap (times place) (returned-append b.acts (act_list act)) ∙ times-append place (returned b.acts) (returned (act_list act)) in
        let told = ap (times place) (publishes-append b.acts (act_list act)) ∙ times-append place (publishes b.acts) (publishes (act_list act)) in
        omega arith;
    references = λ key.
        let before = o.references key in
        let change = m.references key in
        let gave = ap (times key) (gains-append b.acts (act_list act)) ∙ times-append key (gains b.acts) (gains (act_list act)) in
        let back = ap (times key) (releases-append b.acts (act_list act)) ∙ times-append key (releases b.acts) (releases (act_list act)) in
        omega arith;
    inside = λ place some.
        let brought = ap (times place) (reclaimed-append z.last_generation b.acts (act_list act))
        ∙ times-append place (reclaimed z.last_generation b.acts) (reclaimed z.last_generation (act_list act)) in
        let found = ap (times place) (collected-append b.acts (act_list act)) ∙ times-append place (collected b.acts) (collected (act_list act)) in
        dite (ℕ_discrete (times place (reclaimed z.last_generation (act_list act)) + times place (collected (act_list act))) 0)
        (λ none. o.inside place (omega arith))
        (λ more. m.inside place (omega arith));
    sixteen = o.sixteen;
    holding = holding-all z P (pool_from z P (act_list act)) b.acts (b.acts ++ act_list act) (λ place. fillings place b.registers)
        (λ key is some current unpublished.
        let told = ap (times (place_of key)) (publishes-append b.acts (act_list act))
        ∙ times-append (place_of key) (publishes b.acts) (publishes (act_list act)) in
        let before : times (place_of key) (publishes b.acts) ≡ 0 = omega arith in
        current-same z P (pool_from z P (act_list act)) key (m.generation (place_of key) lane (filling_with key is some before)) (current before))
        b.registers (λ place. omega arith) o.holding;
  }

  -- a step of another lane
  owned_leaves : (made : List Act) → Leaves z P lane made → IsOwned z (pool_from z P made) lane b
  owned_leaves made m = record {
    call = o.call;
    places = λ place inside. let before = o.places place inside in let same = m.places place in omega arith;
    references = λ key. let before = o.references key in let same = m.references key in omega arith;
    inside = o.inside;
    sixteen = o.sixteen;
    holding = holding-all z P (pool_from z P made) b.acts b.acts (λ place. fillings place b.registers)
        (λ key is some current unpublished.
        current-same z P (pool_from z P made) key (m.generation (place_of key) lane (filling_with key is some unpublished)) (current unpublished))
        b.registers (λ place. omega arith) o.holding;
  }

-- the lane of the step
pub owned_step : (z : Shape) (w : World) (lane : ℕ) (step : Step) (act : Option Act) → IsShape z → IsLegal z (w.history ++ act_list act)
    → IsStep z lane w.words (w.books lane) step act → AreReturns z.last_generation (w.books lane).acts
    → IsOwned z (pool_after z w.history) lane (w.books lane)
    → IsOwned z (pool_after z (w.history ++ act_list act)) lane (stepped (w.books lane) step act)
owned_step z w lane step act shape legal s returns o =
    let b : Book = w.books lane in
    let P : Pool = pool_after z w.history in
    let last : LegalFrom z P (act_list act) = legal-rest z fresh w.history (act_list act) legal in
    let mine : IsBy lane act = is_by (caller z lane b) (call_under_way b) w.words.link step act s.makes in
    let has : HasMade (caller z lane b) (call_under_way b) (b.steps ++ step ∷ []) (b.acts ++ act_list act)
    = has_made-snoc (caller z lane b) (call_under_way b) w.words.link b.steps b.acts step act o.call s.next s.changes s.makes
    (λ l key is. reclaims_key z P act l key last is) in
    subst (λ (Q : Pool). IsOwned z Q lane (stepped b step act)) (sym (pool-append z fresh w.history (act_list act)))
    (owned_moves z P lane b returns o step act (moves z P lane act mine last)
    (subst (λ (call : Option Call). HasMade (caller z lane b) call (b.steps ++ step ∷ []) (b.acts ++ act_list act))
    (sym (call-stepped b step act)) has))

-- and another lane
pub owned_else : (z : Shape) (w : World) (lane other : ℕ) (step : Step) (act : Option Act) → IsShape z → IsLegal z (w.history ++ act_list act)
    → IsStep z lane w.words (w.books lane) step act → other ≢ lane → AreReturns z.last_generation (w.books other).acts
    → IsOwned z (pool_after z w.history) other (w.books other)
    → IsOwned z (pool_after z (w.history ++ act_list act)) other (w.books other)
owned_else z w lane other step act shape legal s apart returns o =
    let P : Pool = pool_after z w.history in
    let last : LegalFrom z P (act_list act) = legal-rest z fresh w.history (act_list act) legal in
    let by_lane : IsBy lane act = is_by (caller z lane (w.books lane)) (call_under_way (w.books lane)) w.words.link step act s.makes in
    subst (λ (Q : Pool). IsOwned z Q other (w.books other)) (sym (pool-append z fresh w.history (act_list act)))
    (owned_leaves z P other (w.books other) returns o (act_list act) (leaves z P lane other act by_lane apart last))
