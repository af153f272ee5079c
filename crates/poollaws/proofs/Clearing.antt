-- Which keys the calls of a lane clear, and who cleared a key.
use Rattle.std.proofs.Common.{◌≡◌, ◌⊎◌, inl, inr, ⊎_elim, ℕ, zero, suc, ◌<◌, Bool, true, false, cond, ◌==◌, List, [], ◌∷◌, ◌++◌, Option, Some, None, Result, Ok, Err, refl, sym, ap, ◌∙◌, subst, eq-eqb, append-nil, arith}
use Rattle.std.proofs.lemmas.Bool.{cases_Bool, eqb-true}
use Rattle.std.proofs.lemmas.List.{append_cancel_left}
use Rattle.keybits.specs.declared.shape.Shape.{Shape}
use Rattle.keybits.specs.Keys.{is_key}
use Rattle.seqpool.specs.declared.act.Act.{Act}
use Rattle.seqpool.specs.declared.act.Act.TheVariants as acts
use Rattle.seqpool.specs.Pool.{has, NoRepeats, lane_of, IsLegal}
use Rattle.seqpool.specs.Histories.{At, ClearedAt, acts_of}
use Rattle.seqpool.proofs.Growth.{legal-at}
use Rattle.seqpool.proofs.Misses.{clear-law}
use Rattle.steplaws.specs.Calls.{Call, Publishing, Getting, Releasing}
use Rattle.poolsteps.specs.Views.{the_lane}
use Rattle.seatcalls.specs.Called.{caller_of}
use Rattle.shardpool.specs.declared.create.CreateFault.{CreateFault}
use Rattle.shardpool.specs.Tokens.{PoolOf, LaneOf, FillingOf, RefOf}
use Rattle.shardpool.specs.Lanes.{Calls, Did}
use Rattle.shardpool.specs.Creates.{Created, creating}
use Rattle.shardpool.specs.AfterCalls.{AfterCreate, IsPublishing, AfterGet, AfterRelease, AfterClear}
use Rattle.poollaws.specs.Words.{IsCleared}
use Rattle.poollaws.specs.Cleared.{cleared_in, cleared_by, AreAmong}
use Rattle.poollaws.specs.Laws.{NoneClearedLaw, KeyClearedLaw, ClearedOnceLaw, ClearerLaw}
use Rattle.poollaws.proofs.ClearActs.{ClearsNone, cleared-append, none-cleared}
use Rattle.poollaws.proofs.ClearsAlone.{clear-alone}

-- ---- lists

or-true : (b r : Bool) → r ≡ true → cond b true r ≡ true
or-true true r is = refl
or-true false r is = is

has-here : (key : ℕ) (xs : List ℕ) → has (key ∷ xs) key ≡ true
has-here key xs = ap (λ (b : Bool). cond b true (has xs key)) (eq-eqb key key refl)

has-behind : (xs ys : List ℕ) (key : ℕ) → has ys key ≡ true → has (xs ++ ys) key ≡ true
has-behind [] ys key is = is
has-behind (x ∷ xs) ys key is = or-true (key == x) (has (xs ++ ys) key) (has-behind xs ys key is)

-- keys of which each is one of none
pub none-among : (keys : List ℕ) → AreAmong keys [] → keys ≡ []
none-among [] among = refl
none-among (key ∷ keys) among = let bad = among key (has-here key keys) in absurd (cc bad)

pub among-none : {keys : List ℕ} (all : List ℕ) → keys ≡ [] → AreAmong keys all
among-none {keys} all none key had = let bad : false ≡ true = sym (ap (λ (l : List ℕ). has l key) none) ∙ had in absurd (cc bad)

pub among-before : (keys more : List ℕ) → AreAmong keys (keys ++ more)
among-before [] more key had = absurd (cc had)
among-before (x ∷ xs) more key had = elim (cases_Bool (key == x)) [
  | inl same ↦ ap (λ (b : Bool). cond b true (has (xs ++ more) key)) same
  | inr other ↦ or-true (key == x) (has (xs ++ more) key)
      (among-before xs more key (sym (ap (λ (b : Bool). cond b true (has xs key)) other) ∙ had))
]

pub among-behind : (keys more : List ℕ) → AreAmong more (keys ++ more)
among-behind keys more key had = has-behind keys more key had

-- ---- calls

-- acts that cleared nothing, behind others
behind : (old new made : List Act) → new ≡ old ++ made → cleared_in made ≡ [] → cleared_in new ≡ cleared_in old
behind old new made is calm =
    ap cleared_in is ∙ (cleared-append old made ∙ (ap (λ (keys : List ℕ). cleared_in old ++ keys) calm ∙ append-nil (cleared_in old)))

pub called-none : (z : Shape) (call : Call) (old new : LaneOf) → ClearsNone call → Calls z call old.book new.book → cleared_by new ≡ cleared_by old
called-none z call old new none called =
    behind _ _ called.made called.did.acted.mine (none-cleared z (caller_of z old.book) call called.steps called.made none called.make)

pub created-none : (made : List Act) (old new : LaneOf) → Created made old new → cleared_by new ≡ cleared_by old
created-none made old new created =
    behind _ _ made created.mine (none-cleared old.shape (caller_of old.shape old.book) (creating old) created.steps made tt created.make)

pub looked-none : (old new : LaneOf) → Did [] old new → cleared_by new ≡ cleared_by old
looked-none old new did = behind _ _ [] did.mine refl

module _ {T : Type 0} (content : T → List ℕ) (room : T → ℕ) where
  pub create-none : (pool : PoolOf) (old new : LaneOf) (result : Result (FillingOf T) CreateFault) → AfterCreate content room pool old new result
      → cleared_by new ≡ cleared_by old
  create-none pool old new (Ok filling) after = created-none after.gives.acts_made old new after.gives.created
  create-none pool old new (Err fault) after = created-none [] old new (after.none refl).created

  pub publish-none : (pool : PoolOf) (filling : FillingOf T) (with_ref : Bool) (old new : LaneOf)
      → IsPublishing content room pool filling with_ref old new → cleared_by new ≡ cleared_by old
  publish-none pool filling with_ref old new after =
      called-none pool.shape (Publishing filling.key (content filling.object) with_ref) old new tt after.called

module _ {T : Type 0} (pool : PoolOf) (key : ℕ) (old new : LaneOf) where
  pub get-none : (result : Option RefOf) → AfterGet T pool key old new result → cleared_by new ≡ cleared_by old
  get-none result after = ⊎_elim
      (λ inside. called-none pool.shape (Getting key) old new tt (after.called inside))
      (λ outside. ap cleared_by (after.outside outside).1)
      (cases_Bool (is_key pool.shape key))

  pub release-none : AfterRelease T pool key old new → cleared_by new ≡ cleared_by old
  release-none after = called-none pool.shape (Releasing key) old new tt after.called

pub none-law : {T : Type 0} (content : T → List ℕ) (room : T → ℕ) → NoneClearedLaw content room
none-law content room = record {
  create = create-none content room;
  publish = publish-none content room;
  get = get-none;
  release = release-none;
  look = looked-none;
}

-- a clear that answers true cleared its key, and one that answers false cleared nothing
pub clear-with : (key lane : ℕ) (result : Bool) (rest made : List Act) → cleared_in rest ≡ [] → made ≡ acts.Clear lane key result ∷ rest
    → cleared_in made ≡ cond result (key ∷ []) []
clear-with key lane true rest made calm is = ap cleared_in is ∙ ap (λ (keys : List ℕ). key ∷ keys) calm
clear-with key lane false rest made calm is = ap cleared_in is ∙ calm

pub key-cleared : {T : Type 0} → KeyClearedLaw T
key-cleared pool key old new result cleared = ⊎_elim
    (λ inside.
    let called = cleared.called inside in
    let clears = cleared.clears inside in
    let split : called.made ≡ acts.Clear old.number key result ∷ clears.0
    = append_cancel_left (the_lane old.book).mine called.made _ (sym called.did.acted.mine ∙ clears.1.mine) in
    let calm = clear-alone pool.shape (caller_of pool.shape old.book) key called.steps called.made clears.0 (acts.Clear old.number key result) called.are called.make split in
    ap cleared_in called.did.acted.mine ∙ (cleared-append (the_lane old.book).mine called.made
    ∙ ap (λ (keys : List ℕ). cleared_by old ++ keys) (clear-with key old.number result clears.0 called.made calm split)))
    (λ outside.
    let none = cleared.outside outside in
    ap cleared_by none.1 ∙ (sym (append-nil (cleared_by old)) ∙ ap (λ (b : Bool). cleared_by old ++ cond b (key ∷ []) []) (sym none.0)))
    (cases_Bool (is_key pool.shape key))

-- ---- histories

-- what a lane's acts cleared further on
cleared-more : (b : Bool) (act : Act) (more : List Act) (key : ℕ) → has (cleared_in more) key ≡ true → has (cleared_in (cond b (act ∷ more) more)) key ≡ true
cleared-more true act more key is =
    ap (λ (keys : List ℕ). has keys key) (cleared-append (act ∷ []) more) ∙ has-behind (cleared_in (act ∷ [])) (cleared_in more) key is
cleared-more false act more key is = is

-- what stands cleared in a history, by a lane, is among what its acts cleared
pub cleared-among : (history : List Act) (i lane key : ℕ) → At history i (acts.Clear lane key true) → has (cleared_in (acts_of lane history)) key ≡ true
cleared-among [] i lane key at = absurd (cc at)
cleared-among (x ∷ xs) zero lane key at =
    let same : x ≡ acts.Clear lane key true = cc at in
    ap (λ (act : Act). has (cleared_in (acts_of lane (act ∷ xs))) key) same
    ∙ (ap (λ (b : Bool). has (cleared_in (cond b (acts.Clear lane key true ∷ acts_of lane xs) (acts_of lane xs))) key) (eq-eqb lane lane refl)
    ∙ has-here key (cleared_in (acts_of lane xs)))
cleared-among (x ∷ xs) (suc i) lane key at = cleared-more (lane_of x == lane) x (acts_of lane xs) key (cleared-among xs i lane key at)

-- one act more at the head: it is a clear of the key, or the others have one
split-act : (b : Bool) (act : Act) (more : List Act) (key : ℕ) → has (cleared_in (cond b (act ∷ more) more)) key ≡ true
    → ((lane : ℕ) × (act ≡ acts.Clear lane key true)) ⊎ (has (cleared_in more) key ≡ true)
split-act false act more key had = inr had
split-act true (acts.Publish lane other content with_ref) more key had = inr had
split-act true (acts.Get lane other reply) more key had = inr had
split-act true (acts.Release lane other) more key had = inr had
split-act true (acts.Clear lane other true) more key had = elim (cases_Bool (key == other)) [
  | inl same ↦ let is : other ≡ key = sym (eqb-true key other same) in inl (lane, ap (λ (k : ℕ). acts.Clear lane k true) is)
  | inr isnt ↦ inr (sym (ap (λ (b : Bool). cond b true (has (cleared_in more) key)) isnt) ∙ had)
]
split-act true (acts.Clear lane other false) more key had = inr had
split-act true (acts.Reclaim lane other) more key had = inr had
split-act true (acts.Home lane place) more key had = inr had
split-act true (acts.Collect lane places) more key had = inr had

-- what a lane's acts cleared stands cleared in the history
stands-cleared : (history : List Act) (lane key : ℕ) → has (cleared_in (acts_of lane history)) key ≡ true → IsCleared history key
stands-cleared [] lane key had = absurd (cc had)
stands-cleared (x ∷ xs) lane key had = ⊎_elim
    (λ here. (0, (here.0, ap Some here.1)))
    (λ later. let there = stands-cleared xs lane key later in (suc there.0, there.1))
    (split-act (lane_of x == lane) x (acts_of lane xs) key had)

-- ---- no key twice

-- no key is cleared at two positions
abbrev ClearsOnce : List Act → Type 0
ClearsOnce history = (i j key : ℕ) → i < j → ClearedAt history i key → ClearedAt history j key → ⊥

legal-once : (z : Shape) (history : List Act) → IsLegal z history → ClearsOnce history
legal-once z history legal i j key low first second =
    ((clear-law z history legal j second.0 key true second.1).0 refl).1.1 i low first

apart : (xs : List Act) (x : Act) (lane by key : ℕ) → x ≡ acts.Clear by key true → ClearsOnce (x ∷ xs) → has (cleared_in (acts_of lane xs)) key ≡ false
apart xs x lane by key is once = elim (cases_Bool (has (cleared_in (acts_of lane xs)) key)) [
  | inl had ↦ let there = stands-cleared xs lane key had in absurd (once 0 (suc there.0) key (omega arith) (by, ap Some is) there.1)
  | inr none ↦ none
]

one-more : (b : Bool) (x : Act) (xs : List Act) (lane : ℕ) → ClearsOnce (x ∷ xs) → NoRepeats (cleared_in (acts_of lane xs))
    → NoRepeats (cleared_in (cond b (x ∷ acts_of lane xs) (acts_of lane xs)))
one-more false x xs lane once rest = rest
one-more true (acts.Publish by key content with_ref) xs lane once rest = rest
one-more true (acts.Get by key reply) xs lane once rest = rest
one-more true (acts.Release by key) xs lane once rest = rest
one-more true (acts.Clear by key true) xs lane once rest = (apart xs (acts.Clear by key true) lane by key refl once, rest)
one-more true (acts.Clear by key false) xs lane once rest = rest
one-more true (acts.Reclaim by key) xs lane once rest = rest
one-more true (acts.Home by place) xs lane once rest = rest
one-more true (acts.Collect by places) xs lane once rest = rest

each-once : (history : List Act) (lane : ℕ) → ClearsOnce history → NoRepeats (cleared_in (acts_of lane history))
each-once [] lane once = tt
each-once (x ∷ xs) lane once =
    one-more (lane_of x == lane) x xs lane once
    (each-once xs lane (λ i j key low first second. once (suc i) (suc j) key (omega (arith, low)) first second))

-- the acts of a caller of a legal history clear no key twice
pub cleared-once : (z : Shape) (history mine : List Act) (caller : ℕ) → IsLegal z history → mine ≡ acts_of caller history → NoRepeats (cleared_in mine)
cleared-once z history mine caller legal own =
    subst (λ (acts : List Act). NoRepeats (cleared_in acts)) (sym own) (each-once history caller (legal-once z history legal))

pub once-law : ClearedOnceLaw
once-law z lane legal own = cleared-once z lane.book.seen (the_lane lane.book).mine lane.number legal own

-- ---- closed pools

pub clearer-law : ClearerLaw
clearer-law pool lanes census all closes key (i, (number, at)) =
    let below = (legal-at pool.shape _ closes.history i (acts.Clear number key true) closes.last.legal at).0 in
    let owner = all.all number (omega (arith, below, all.alone)) in
    let mine = closes.last.own owner.0 owner.1 owner.2 in
    let among = cleared-among closes.history i number key at in
    let own : cleared_by owner.1 ≡ cleared_in (acts_of number closes.history)
    = ap cleared_in (mine ∙ ap (λ (n : ℕ). acts_of n closes.history) owner.3) in
    (owner.0, owner.1, owner.2, ap (λ (keys : List ℕ). has keys key) own ∙ among)
