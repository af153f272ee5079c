-- Which keys the acts of a call clear: a clear's, where its reply is true, and no other call's.
use Rattle.std.proofs.Common.{◌≡◌, ℕ, Bool, true, false, cond, eqb, List, [], ◌∷◌, ◌++◌, Option, Some, None, refl, ap, ◌∙◌}
use mathlib.Core.Logic.{dite}
use native.Mathlib.Decide.{ℕ_discrete}
use Rattle.keybits.specs.declared.shape.Shape.{Shape}
use Rattle.keybits.specs.declared.step.Kind.{Kind}
use Rattle.keybits.specs.declared.step.Kind.TheVariants as kinds
use Rattle.keybits.specs.declared.step.Word.{Word}
use Rattle.keybits.specs.declared.step.Step.{Step}
use Rattle.seqpool.specs.declared.act.Act.{Act}
use Rattle.seqpool.specs.declared.act.Act.TheVariants as acts
use Rattle.steplaws.specs.Calls.{Call, Publishing, Getting, Releasing, Clearing, Creating, Caller, is_claimed, KindMakes, EnterMakes, LeaveMakes, PublishMakes, TakeMakes, MarkMakes}
use Rattle.poolsteps.specs.Views.{acts_in}
use Rattle.seatcalls.specs.Called.{Make}
use Rattle.poollaws.specs.Cleared.{cleared_in}

pub cleared-append : (xs ys : List Act) → cleared_in (xs ++ ys) ≡ cleared_in xs ++ cleared_in ys
cleared-append [] ys = refl
cleared-append (acts.Publish l key content with_ref ∷ xs) ys = cleared-append xs ys
cleared-append (acts.Get l key reply ∷ xs) ys = cleared-append xs ys
cleared-append (acts.Release l key ∷ xs) ys = cleared-append xs ys
cleared-append (acts.Clear l key true ∷ xs) ys = ap (λ (keys : List ℕ). key ∷ keys) (cleared-append xs ys)
cleared-append (acts.Clear l key false ∷ xs) ys = cleared-append xs ys
cleared-append (acts.Reclaim l key ∷ xs) ys = cleared-append xs ys
cleared-append (acts.Home l place ∷ xs) ys = cleared-append xs ys
cleared-append (acts.Collect l places ∷ xs) ys = cleared-append xs ys

-- the act clears nothing, if there is one
abbrev pub IsCalm : Option Act → Type 0
IsCalm act = cleared_in (acts_in act) ≡ []

is-calm : (act other : Option Act) → IsCalm other → act ≡ other → IsCalm act
is-calm act other calm is = ap (λ (a : Option Act). cleared_in (acts_in a)) is ∙ calm

calm-where : (b : Bool) (act : Act) → cleared_in (act ∷ []) ≡ [] → IsCalm (cond b (Some act) None)
calm-where true act calm = calm
calm-where false act calm = refl

leave-calm : (c : Caller) (call : Call) (act : Option Act) → LeaveMakes c call act → IsCalm act
leave-calm c (Publishing key content with_ref) act made = absurd made
leave-calm c (Getting key) act made = is-calm act None refl made
leave-calm c (Releasing key) act made = is-calm act (Some (acts.Release c.lane key)) refl made
leave-calm c (Clearing key) act made = is-calm act None refl made
leave-calm c (Creating own chain opened) act made = absurd made

take-calm : (c : Caller) (links : ℕ → ℕ) (word : ℕ) (act : Option Act) → TakeMakes c links word act → IsCalm act
take-calm c links word act made = dite (ℕ_discrete word 0) (λ none. is-calm act None refl (made.0 none))
    (λ some. let taken = made.1 some in is-calm act (Some (acts.Collect c.lane taken.0)) refl taken.2)

-- ---- calls that aren't clears

abbrev pub ClearsNone : Call → Type 0
ClearsNone (Publishing key content with_ref) = Unit {0}
ClearsNone (Getting key) = Unit {0}
ClearsNone (Releasing key) = Unit {0}
ClearsNone (Clearing key) = ⊥
ClearsNone (Creating own chain opened) = Unit {0}

enter-calm : (c : Caller) (call : Call) (word : ℕ) (act : Option Act) → ClearsNone call → EnterMakes c call word act → IsCalm act
enter-calm c (Publishing key content with_ref) word act none made = absurd made
enter-calm c (Getting key) word act none (reply, hit, is) = is-calm act (Some (acts.Get c.lane key reply)) refl is
enter-calm c (Releasing key) word act none made = absurd made
enter-calm c (Clearing key) word act none made = absurd none
enter-calm c (Creating own chain opened) word act none made = absurd made

publish-calm : (c : Caller) (call : Call) (act : Option Act) → PublishMakes c call act → IsCalm act
publish-calm c (Publishing key content with_ref) act made = is-calm act (Some (acts.Publish c.lane key content with_ref)) refl made
publish-calm c (Getting key) act made = absurd made
publish-calm c (Releasing key) act made = absurd made
publish-calm c (Clearing key) act made = absurd made
publish-calm c (Creating own chain opened) act made = absurd made

mark-calm : (c : Caller) (call : Call) (word : ℕ) (act : Option Act) → ClearsNone call → MarkMakes c call word act → IsCalm act
mark-calm c (Publishing key content with_ref) word act none made = absurd made
mark-calm c (Getting key) word act none made = absurd made
mark-calm c (Releasing key) word act none made = absurd made
mark-calm c (Clearing key) word act none made = absurd none
mark-calm c (Creating own chain opened) word act none made = absurd made

-- the kinds that make a Clear, in a clear alone
abbrev pub IsMaker : Kind → Type 0
IsMaker kinds.Enter = Unit {0}
IsMaker kinds.Leave = ⊥
IsMaker (kinds.Publish with_ref) = ⊥
IsMaker kinds.Mark = Unit {0}
IsMaker (kinds.Claim generation) = ⊥
IsMaker (kinds.Link expected) = ⊥
IsMaker (kinds.Push expected link) = ⊥
IsMaker kinds.Take = ⊥
IsMaker kinds.Follow = ⊥

pub kind-calm : (kind : Kind) (c : Caller) (call : Call) (links : ℕ → ℕ) (word : Word) (before : ℕ) (act : Option Act)
    → (IsMaker kind → ClearsNone call) → KindMakes kind c call links word before act → IsCalm act
kind-calm kinds.Enter c call links word before act none made = enter-calm c call before act (none tt) made
kind-calm kinds.Leave c call links word before act none made = leave-calm c call act made
kind-calm (kinds.Publish with_ref) c call links word before act none made = publish-calm c call act made
kind-calm kinds.Mark c call links word before act none made = mark-calm c call before act (none tt) made
kind-calm (kinds.Claim generation) c call links word before act none made =
    is-calm act _ (calm-where (is_claimed generation before) _ refl) made
kind-calm (kinds.Link expected) c call links word before act none made = is-calm act None refl made
kind-calm (kinds.Push expected link) c call links word before act none made =
    is-calm act _ (calm-where (eqb before expected) _ refl) made
kind-calm kinds.Take c call links word before act none made = take-calm c links before act made
kind-calm kinds.Follow c call links word before act none made = is-calm act None refl made

-- one act more at the head
pub calm-more : (made rest : List Act) (act : Option Act) → IsCalm act → made ≡ acts_in act ++ rest → cleared_in made ≡ cleared_in rest
calm-more made rest act calm is =
    ap cleared_in is ∙ (cleared-append (acts_in act) rest ∙ ap (λ (keys : List ℕ). keys ++ cleared_in rest) calm)

pub none-cleared : (z : Shape) (c : Caller) (call : Call) (steps : List Step) (made : List Act) → ClearsNone call → Make z c call steps made → cleared_in made ≡ []
none-cleared z c call [] made none make = ap cleared_in make
none-cleared z c call (step ∷ more) made none (act, links, rest, changes, makes, after, is) =
    calm-more made rest act (kind-calm step.kind c call links step.word step.before act (λ _. none) makes) is
    ∙ none-cleared z c call more rest none after
