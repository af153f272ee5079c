-- What calls leave of a lane's references, as their contracts tell it.
use Rattle.std.proofs.Common.{◌≡◌, ℕ, ◌+◌, ◌-◌, Bool, true, false, cond, eqb, eq-eqb, ne_eqb, List, [], ◌∷◌, ◌++◌, Option, Some, None, refl, sym, ap, ◌∙◌, subst, ⊎_elim, arith, append_assoc, get_or, IsNone, ◌≤◌}
use Rattle.std.proofs.lemmas.Bool.{cases_Bool}
use Rattle.std.proofs.lemmas.List.{append_cancel_left}
use Rattle.std.proofs.lemmas.List.Elements.{All-nil, All-head, All-tail, All-from_get_or}
use Rattle.std.proofs.lemmas.Option.{slice_get-get_or}
use Rattle.std.specs.List.{All}
use mathlib.Core.Logic.{dite}
use native.Mathlib.Decide.{ℕ_discrete}
use Rattle.keybits.specs.declared.shape.Shape.{Shape}
use Rattle.keybits.specs.declared.step.Kind.{Kind}
use Rattle.keybits.specs.declared.step.Kind.TheVariants as kinds
use Rattle.keybits.specs.declared.step.Step.{Step}
use Rattle.keybits.specs.declared.step.Word.{Word}
use Rattle.keybits.specs.Keys.{place_of, is_key}
use Rattle.seqpool.specs.Pool.{Phase, references_in, is_current, pool_after}
use Rattle.seqpool.specs.declared.act.Act.{Act}
use Rattle.seqpool.specs.declared.act.Act.TheVariants as acts
use Rattle.steplaws.specs.Calls.{Call, Caller, Aim, aim, is_hit, is_claimed, owes_claim, end_next, next_step, AreSteps, KindMakes}
use Rattle.steplaws.specs.Calls.Call.{Getting, Releasing, Clearing}
use Rattle.poolsteps.specs.declared.view.View.{View}
use Rattle.poolsteps.specs.Views.{the_lane, acts_in}
use Rattle.poolsteps.specs.ViewLaws.{references_made}
use Rattle.seatcalls.specs.Called.{caller_of, Make}
use Rattle.shardpool.specs.Tokens.{PoolOf, LaneOf, FillingOf, RefOf}
use Rattle.shardpool.specs.Lanes.{Owns, Calls, Did, Gets, IsFilling, holds, refs}
use Rattle.shardpool.specs.Opened.{IsFirstLane, AreFirstLanes}
use Rattle.seatcalls.specs.Left.{held_after}
use Rattle.shardpool.specs.Creates.{HandsOut, Gives, GivesNone}
use Rattle.shardpool.proofs.calls.Ends.{made-append}
use Rattle.shardpool.proofs.references.Rows.{held-append, either-same}

-- ---- acts that leave all references

-- after these acts a lane has as many references to each key as before
abbrev IsStill : List Act → Type 0
IsStill made = (key n : ℕ) → references_made made key n ≡ n

still-none : IsStill []
still-none key n = refl

still-append : (made more : List Act) → IsStill made → IsStill more → IsStill (made ++ more)
still-append made more first rest key n = made-append made more key n ∙ (ap (references_made more key) (first key n) ∙ rest key n)

still-is : (made same : List Act) → made ≡ same → IsStill same → IsStill made
still-is made same is still = subst IsStill (sym is) still

-- of two possible acts the one by a test
still-either : (b : Bool) (x y act : Option Act) → act ≡ cond b x y → IsStill (acts_in x) → IsStill (acts_in y) → IsStill (acts_in act)
still-either true x y act is one other = subst (λ (a : Option Act). IsStill (acts_in a)) (sym is) one
still-either false x y act is one other = subst (λ (a : Option Act). IsStill (acts_in a)) (sym is) other

still-act : (act same : Option Act) → act ≡ same → IsStill (acts_in same) → IsStill (acts_in act)
still-act act same is still = subst (λ (a : Option Act). IsStill (acts_in a)) (sym is) still

-- ---- a clear

still-taken : (c : Caller) (call : Call) (links : ℕ → ℕ) (word : Word) (before : ℕ) (act : Option Act) → KindMakes kinds.Take c call links word before act → IsStill (acts_in act)
still-taken c call links word before act makes = dite (ℕ_discrete before 0)
    (λ (none : before ≡ 0). still-act act None (makes.0 none) still-none)
    (λ some. let told = makes.1 some in still-act act (Some (acts.Collect c.lane told.0)) told.2 (λ key n. refl))

still-cleared : (c : Caller) (key : ℕ) (links : ℕ → ℕ) (kind : Kind) (word : Word) (before : ℕ) (act : Option Act) → KindMakes kind c (Clearing key) links word before act
    → IsStill (acts_in act)
still-cleared c key links kinds.Enter word before act makes =
    still-either (is_hit key before) None (Some (acts.Clear c.lane key false)) act makes still-none (λ k n. refl)
still-cleared c key links kinds.Leave word before act makes = still-act act None makes still-none
still-cleared c key links (kinds.Publish with_ref) word before act makes = absurd makes
still-cleared c key links kinds.Mark word before act makes = still-act act (Some (acts.Clear c.lane key _)) makes (λ k n. refl)
still-cleared c key links (kinds.Claim generation) word before act makes =
    still-either (is_claimed generation before) (Some (acts.Reclaim c.lane _)) None act makes (λ k n. refl) still-none
still-cleared c key links (kinds.Link expected) word before act makes = still-act act None makes still-none
still-cleared c key links (kinds.Push expected link) word before act makes =
    still-either _ (Some (acts.Home c.lane _)) None act makes (λ k n. refl) still-none
still-cleared c key links kinds.Take word before act makes = still-taken c (Clearing key) links word before act makes
still-cleared c key links kinds.Follow word before act makes = still-act act None makes still-none

still-clear : (z : Shape) (c : Caller) (key : ℕ) (steps : List Step) (made : List Act) → Make z c (Clearing key) steps made → IsStill made
still-clear z c key [] made make = still-is made [] make still-none
still-clear z c key (step ∷ more) made make =
    still-is made (acts_in make.0 ++ make.2) make.6
    (still-append (acts_in make.0) make.2 (still-cleared c key make.1 step.kind step.word step.before make.0 make.4) (still-clear z c key more make.2 make.5))

-- a clear leaves all references
pub clear-holds : {z : Shape} {key : ℕ} {reply : Bool} {old new : LaneOf} {rest : List Act} → Calls z (Clearing key) old.book new.book
    → Did (acts.Clear old.number key reply ∷ rest) old new → (k : ℕ) → holds new k ≡ holds old k
clear-holds {z = z} {key = key} {reply = reply} {old = old} {new = new} {rest = rest} called did k =
    let made : called.made ≡ acts.Clear old.number key reply ∷ rest = append_cancel_left (the_lane old.book).mine _ _ (sym called.did.acted.mine ∙ did.mine) in
    did.held k ∙ still-is _ _ (sym made) (still-clear z (caller_of z old.book) key called.steps called.made called.make) k (holds old k)

-- ---- what follows the LEAVE of an END

-- the kinds of its steps
abbrev IsTail : Kind → Type 0
IsTail kinds.Enter = ⊥
IsTail kinds.Leave = ⊥
IsTail (kinds.Publish with_ref) = ⊥
IsTail kinds.Mark = ⊥
IsTail (kinds.Claim generation) = Unit {0}
IsTail (kinds.Link expected) = Unit {0}
IsTail (kinds.Push expected link) = Unit {0}
IsTail kinds.Take = ⊥
IsTail kinds.Follow = ⊥

kind-is : (at : Aim) (kind : Kind) (word : Word) → Some at ≡ Some (aim kind word) → at.kind ≡ kind
kind-is at kind word is = let same : at ≡ aim kind word = cc in ap (λ (a : Aim). a.kind) same

if-kind : (b : Bool) (at : Aim) (kind : Kind) (word : Word) → cond b (Some at) None ≡ Some (aim kind word) → at.kind ≡ kind
if-kind true at kind word is = kind-is at kind word is
if-kind false at kind word is = cc

else-kind : (b : Bool) (at : Aim) (kind : Kind) (word : Word) → cond b None (Some at) ≡ Some (aim kind word) → at.kind ≡ kind
else-kind true at kind word is = cc
else-kind false at kind word is = kind-is at kind word is

tail-next : (c : Caller) (place : ℕ) (leave : Step) (done : List Step) (kind : Kind) (word : Word) → end_next c place (leave ∷ done) ≡ Some (aim kind word) → IsTail kind
tail-next c place leave [] kind word is = subst IsTail (if-kind (owes_claim leave.before) _ kind word is) tt
tail-next c place leave (claim ∷ []) kind word is = subst IsTail (if-kind _ _ kind word is) tt
tail-next c place leave (claim ∷ link ∷ []) kind word is = subst IsTail (kind-is _ kind word is) tt
tail-next c place leave (claim ∷ link ∷ push ∷ []) kind word is = subst IsTail (else-kind _ _ kind word is) tt
tail-next c place leave (claim ∷ link ∷ push ∷ again ∷ []) kind word is = subst IsTail (kind-is _ kind word is) tt
tail-next c place leave (claim ∷ link ∷ push ∷ again ∷ last ∷ more) kind word is = cc

still-tail : (c : Caller) (call : Call) (links : ℕ → ℕ) (kind : Kind) (word : Word) (before : ℕ) (act : Option Act) → IsTail kind → KindMakes kind c call links word before act
    → IsStill (acts_in act)
still-tail c call links kinds.Enter word before act tail makes = absurd tail
still-tail c call links kinds.Leave word before act tail makes = absurd tail
still-tail c call links (kinds.Publish with_ref) word before act tail makes = absurd tail
still-tail c call links kinds.Mark word before act tail makes = absurd tail
still-tail c call links (kinds.Claim generation) word before act tail makes =
    still-either (is_claimed generation before) (Some (acts.Reclaim c.lane _)) None act makes (λ k n. refl) still-none
still-tail c call links (kinds.Link expected) word before act tail makes = still-act act None makes still-none
still-tail c call links (kinds.Push expected link) word before act tail makes =
    still-either _ (Some (acts.Home c.lane _)) None act makes (λ k n. refl) still-none
still-tail c call links kinds.Take word before act tail makes = absurd tail
still-tail c call links kinds.Follow word before act tail makes = absurd tail

-- steps after a LEAVE, each by what an END makes next
module _ (z : Shape) (c : Caller) (call : Call) (place : ℕ) (first : List Step) (leave : Step)
    (ends : (done : List Step) (kind : Kind) (word : Word) → next_step c call (first ++ leave ∷ done) ≡ Some (aim kind word) → end_next c place (leave ∷ done) ≡ Some (aim kind word)) where
  still-steps : (done steps : List Step) (made : List Act) → AreSteps c call (first ++ leave ∷ done) steps → Make z c call steps made → IsStill made
  still-steps done [] made are make = still-is made [] make still-none
  still-steps done (step ∷ more) made are make =
      let tail = tail-next c place leave done step.kind step.word (ends done step.kind step.word are.0) in
      still-is made (acts_in make.0 ++ make.2) make.6
      (still-append (acts_in make.0) make.2 (still-tail c call make.1 step.kind step.word step.before make.0 tail make.4)
      (still-steps (done ++ step ∷ []) more make.2 (subst (λ (xs : List Step). AreSteps c call xs more) (append_assoc first (leave ∷ done) (step ∷ [])) are.1) make.5))

under-none : (b : Bool) (at : Option Aim) (next : Aim) → cond b None at ≡ Some next → at ≡ Some next
under-none true at next is = cc
under-none false at next is = is

-- ---- a release

still-released : (z : Shape) (c : Caller) (key : ℕ) (steps : List Step) (made rest : List Act) (first : Act) → AreSteps c (Releasing key) [] steps → Make z c (Releasing key) steps made
    → made ≡ first ∷ rest → IsStill rest
still-released z c key [] made rest first are make is = cc
still-released z c key (leave ∷ more) made rest first are make is =
    let leaves : leave.kind ≡ kinds.Leave = sym (kind-is _ leave.kind leave.word are.0) in
    let act : make.0 ≡ Some (acts.Release c.lane key) = subst (λ (k : Kind). KindMakes k c (Releasing key) make.1 leave.word leave.before make.0) leaves make.4 in
    let same : acts.Release c.lane key ∷ make.2 ≡ first ∷ rest = ap (λ (a : Option Act). acts_in a ++ make.2) (sym act) ∙ (sym make.6 ∙ is) in
    let rests : rest ≡ make.2 = cc in
    still-is rest make.2 rests (still-steps z c (Releasing key) (place_of key) [] leave (λ done kind word is. is) [] more make.2 are.1 make.5)

-- a release gives one reference to its key back
pub release-holds : {z : Shape} {key : ℕ} {old new : LaneOf} {rest : List Act} → Calls z (Releasing key) old.book new.book → Did (acts.Release old.number key ∷ rest) old new
    → (k : ℕ) → holds new k ≡ cond (eqb key k) (holds old k - 1) (holds old k)
release-holds {z = z} {key = key} {old = old} {new = new} {rest = rest} called did k =
    let made : called.made ≡ acts.Release old.number key ∷ rest = append_cancel_left (the_lane old.book).mine _ _ (sym called.did.acted.mine ∙ did.mine) in
    did.held k ∙ still-released z (caller_of z old.book) key called.steps called.made rest (acts.Release old.number key) called.are called.make made k _

-- ---- a get that misses

still-left : (z : Shape) (c : Caller) (key : ℕ) (enter : Step) (steps : List Step) (made : List Act) → AreSteps c (Getting key) (enter ∷ []) steps → Make z c (Getting key) steps made → IsStill made
still-left z c key enter [] made are make = still-is made [] make still-none
still-left z c key enter (leave ∷ more) made are make =
    let leaves : leave.kind ≡ kinds.Leave = sym (kind-is _ leave.kind leave.word (under-none (is_hit key enter.before) _ _ are.0)) in
    let act : make.0 ≡ None = subst (λ (k : Kind). KindMakes k c (Getting key) make.1 leave.word leave.before make.0) leaves make.4 in
    still-is made (acts_in make.0 ++ make.2) make.6
    (still-append (acts_in make.0) make.2 (still-act make.0 None act still-none)
    (still-steps z c (Getting key) (place_of key) (enter ∷ []) leave (λ done kind word is. under-none (is_hit key enter.before) _ _ is) [] more make.2 are.1 make.5))

still-got : (z : Shape) (c : Caller) (key : ℕ) (steps : List Step) (made rest : List Act) (first : Act) → AreSteps c (Getting key) [] steps → Make z c (Getting key) steps made
    → made ≡ first ∷ rest → IsStill rest
still-got z c key [] made rest first are make is = cc
still-got z c key (enter ∷ more) made rest first are make is =
    let enters : enter.kind ≡ kinds.Enter = sym (if-kind (is_key c.shape key) _ enter.kind enter.word are.0) in
    let told = subst (λ (k : Kind). KindMakes k c (Getting key) make.1 enter.word enter.before make.0) enters make.4 in
    let same : acts.Get c.lane key told.0 ∷ make.2 ≡ first ∷ rest = ap (λ (a : Option Act). acts_in a ++ make.2) (sym told.2) ∙ (sym make.6 ∙ is) in
    let rests : rest ≡ make.2 = cc in
    still-is rest make.2 rests (still-left z c key enter more make.2 are.1 make.5)

-- a get that misses leaves all references
pub get-holds : {z : Shape} {key : ℕ} {old new : LaneOf} {rest : List Act} → Calls z (Getting key) old.book new.book → Did (acts.Get old.number key None ∷ rest) old new
    → (k : ℕ) → holds new k ≡ holds old k
get-holds {z = z} {key = key} {old = old} {new = new} {rest = rest} called did k =
    let made : called.made ≡ acts.Get old.number key None ∷ rest = append_cancel_left (the_lane old.book).mine _ _ (sym called.did.acted.mine ∙ did.mine) in
    did.held k ∙ still-got z (caller_of z old.book) key called.steps called.made rest (acts.Get old.number key None) called.are called.make made k (holds old k)

-- a get that gave a reference was of a key of the pool
pub got-inside : (z : Shape) (key : ℕ) (old new : LaneOf) (reference : RefOf) → (is_key z key ≡ false → IsNone (Some reference) × (new ≡ old)) → is_key z key ≡ true
got-inside z key old new reference outside = ⊎_elim (λ (is : is_key z key ≡ true). is)
    (λ (off : is_key z key ≡ false). let none = (outside off).0 in absurd (cc none)) (cases_Bool (is_key z key))

-- the lane then has a reference to that key
pub got-held : (key : ℕ) (old new : LaneOf) (reference : RefOf) → Gets key old new (Some reference) → 1 ≤ holds new reference.key
got-held key old new reference (is, held, content, got) = subst (λ (k : ℕ). 1 ≤ holds new k) (sym is) held

-- a lane has no reference to the key of a filling
filling-none : {lane : LaneOf} (key : ℕ) → IsFilling lane (place_of key) → holds lane key ≡ 0
filling-none {lane = lane} key filling =
    let l : ℕ = (the_lane lane.book).lane in
    let current : Bool = is_current lane.shape (pool_after lane.shape lane.book.seen) key in
    ap (λ (phase : Phase). cond current (references_in phase l) 0) filling.with_lane ∙ either-same current 0

instead : (key k n first : ℕ) → (key ≡ k → n ≡ 0) → cond (eqb key k) first n ≡ cond (eqb key k) (n + first) n
instead key k n first none = dite (ℕ_discrete key k)
    (λ (same : key ≡ k). ap (λ (b : Bool). cond b first n) (eq-eqb key k same) ∙ (omega (arith, none same) ∙ sym (ap (λ (b : Bool). cond b (n + first) n) (eq-eqb key k same))))
    (λ differs. ap (λ (b : Bool). cond b first n) (ne_eqb key k differs) ∙ sym (ap (λ (b : Bool). cond b (n + first) n) (ne_eqb key k differs)))

-- a publish leaves all references, but for the one that it may give
pub publish-holds : {key : ℕ} {content : List ℕ} {lane : ℕ} {with_ref : Bool} {old new : LaneOf} → IsFilling old (place_of key)
    → Did (acts.Publish lane key content with_ref ∷ []) old new → (k : ℕ) → holds new k ≡ cond (eqb key k) (holds old k + cond with_ref 1 0) (holds old k)
publish-holds {key = key} {with_ref = with_ref} {old = old} filling did k =
    did.held k ∙ instead key k (holds old k) (cond with_ref 1 0) (λ same. ap (holds old) (sym same) ∙ filling-none key filling)

pub publish-alone : {key : ℕ} {content : List ℕ} {lane : ℕ} {old new : LaneOf} → IsFilling old (place_of key)
    → Did (acts.Publish lane key content false ∷ []) old new → (k : ℕ) → holds new k ≡ holds old k
publish-alone {key = key} {old = old} filling did k =
    publish-holds filling did k ∙ (ap (λ n. cond (eqb key k) n (holds old k)) (let same : holds old k + 0 ≡ holds old k = omega arith in same) ∙ either-same (eqb key k) (holds old k))

-- ---- how many references a lane has

-- acts behind those that the lane had made
refs-behind : (mine made after : List Act) → after ≡ mine ++ made → ((n : ℕ) → held_after made n ≡ n) → held_after after 0 ≡ held_after mine 0
refs-behind mine made after is still = ap (λ (xs : List Act). held_after xs 0) is ∙ (held-append mine made 0 ∙ still (held_after mine 0))

collects-none : {place : ℕ} {made : List Act} {old new : LaneOf} → HandsOut place made old new → (n : ℕ) → held_after made n ≡ n
collects-none {made = made} hands n =
    let none : made ≡ [] → held_after made n ≡ n = λ is. ap (λ (xs : List Act). held_after xs n) is in
    ⊎_elim (λ from. none from.none) (λ hands. ⊎_elim (λ from. none from.none)
    (λ hands. ⊎_elim (λ from. ap (λ (xs : List Act). held_after xs n) from.taken) (λ from. none from.none) hands) hands) hands

-- a create leaves them
pub gives-refs : {T : Type 0} {content : T → List ℕ} {room : T → ℕ} {old new : LaneOf} {filling : FillingOf T} → Gives content room old new filling → refs new ≡ refs old
gives-refs {old = old} {new = new} gives = refs-behind (the_lane old.book).mine gives.acts_made (the_lane new.book).mine gives.created.mine (collects-none gives.hands_out)

pub none-refs : {old new : LaneOf} → GivesNone old new → refs new ≡ refs old
none-refs {old = old} {new = new} none = refs-behind (the_lane old.book).mine [] (the_lane new.book).mine none.created.mine (λ n. refl)

-- so does what makes no act
pub did-none-refs : {old new : LaneOf} → Did [] old new → refs new ≡ refs old
did-none-refs {old = old} {new = new} did = refs-behind (the_lane old.book).mine [] (the_lane new.book).mine did.mine (λ n. refl)

-- ---- lanes that have just been opened

of-first : (pool : PoolOf) (number : ℕ) (lane : LaneOf) → IsFirstLane pool number lane → Owns pool lane × (refs lane ≡ 0)
of-first pool number lane first = (first.owned, ap (λ (v : View). held_after (the_lane v).mine 0) first.book)

pub first-lanes : (pool : PoolOf) (lanes : List LaneOf) → AreFirstLanes pool lanes → All (λ lane. Owns pool lane × (refs lane ≡ 0)) lanes
first-lanes pool [] firsts = All-nil (λ lane. Owns pool lane × (refs lane ≡ 0))
first-lanes pool (lane ∷ more) firsts =
    All-from_get_or (λ l. Owns pool l × (refs l ≡ 0)) (lane ∷ more) lane
    (λ i low. of-first pool i (get_or (lane ∷ more) i lane) (firsts.each i (get_or (lane ∷ more) i lane) (slice_get-get_or (lane ∷ more) i lane low)))

-- what holds of all of a list holds of its last
pub all-last : {A : Type 0} (P : A → Type 0) (front : List A) (last : A) → All P (front ++ last ∷ []) → P last
all-last P [] last all = All-head P last [] all
all-last P (x ∷ front) last all = all-last P front last (All-tail P x (front ++ last ∷ []) all)
