-- What the calls of a seat leave of its lane, and what a message tells.
use Rattle.std.proofs.Common.{◌≡◌, ℕ, zero, suc, ◌==◌, Bool, true, false, cond, List, [], ◌∷◌, Option, Some, None, refl, sym, ap, subst, inl, inr, eqb-true, eq-eqb, append-nil}
use Rattle.std.specs.Prelude.{MatchOption, IsNone, IsSome, IsTrue, IsFalse, IsErr, IfOk, OnOk, OnErr, is_err, Result, Ok, Err}
use Rattle.std.proofs.lemmas.Bool.{cases_Bool}
use mathlib.Core.List.{IsPrefix}
use Rattle.keybits.specs.declared.shape.Shape.{Shape}
use Rattle.keybits.specs.Keys.{is_key}
use Rattle.seqpool.specs.declared.act.Act.{Act}
use Rattle.seqpool.specs.declared.act.Act.TheVariants.{Publish, Get, Release, Clear, Reclaim, Home, Collect}
use Rattle.seqpool.specs.Pool.{IsLegal}
use Rattle.seqpool.specs.Laws.{ContentLaw}
use Rattle.poolsteps.proofs.ViewLemmas.{prefix-trans}
use Rattle.shardpool.specs.declared.create.CreateFault.{CreateFault}
use Rattle.steplaws.specs.Calls.Call.{Publishing, Getting}
use Rattle.poolsteps.specs.declared.view.View.{View}
use Rattle.poolsteps.specs.Seats.{looked_once}
use Rattle.shardpool.specs.Tokens.{LaneOf, FillingOf, RefOf}
use Rattle.shardpool.specs.Lanes.{SeesOn, Calls, Did, Gets}
use Rattle.shardpool.specs.Seen.{MissedSince, ClearedSince}
use Rattle.shardpool.specs.Creates.{Gives, GivesNone}
use Rattle.shardpool.proofs.frame.Standing.{missed-cleared}
use Rattle.poollaws.specs.Words.{IsPublished, IsGone}
use Rattle.poollaws.specs.Rooms.{SawRoom, KnowsRoom}
use Rattle.poollaws.proofs.Kept.{kept-room}
use Rattle.guards.specs.Guarded.{Uses}
use Rattle.guards.specs.Several.{Missed}
use Rattle.guards.specs.Seated.{GoesOn, Puts, content_in}

-- ---- what the lane has seen goes on

pub goes-nowhere : {old new : LaneOf} → new ≡ old → GoesOn old new
goes-nowhere {old} {new} is = subst (λ (lane : LaneOf). GoesOn old lane) (sym is) (record { seen = ([], append-nil old.book.seen); rooms = λ key size knows. knows })

pub goes-on : {made : List Act} {old new : LaneOf} → SeesOn made old new → GoesOn old new
goes-on {made} {old} {new} goes = record { seen = (goes.more, sym goes.seen); rooms = λ key size knows. kept-room made old new key size goes knows }

pub goes-further : {old between new : LaneOf} → GoesOn old between → GoesOn between new → GoesOn old new
goes-further {old} {between} {new} first then = record {
  seen = prefix-trans old.book.seen between.book.seen new.book.seen first.seen then.seen;
  rooms = λ key size knows. then.rooms key size (first.rooms key size knows);
}

-- what is known of a room by a view is known by it after a look
told-room : {v : View} {key size : ℕ} → SawRoom v key size → SawRoom (looked_once v) key size
told-room knows = record {
  front = knows.front;
  more = knows.more;
  seen = knows.seen;
  rooms = knows.rooms;
  kept = knows.kept;
  rooms_are = knows.rooms_are;
  beside = knows.beside;
  paired = knows.paired;
  content = knows.content;
  published = knows.published;
  roomy = knows.roomy;
}

-- it told what it has seen
pub tells-on : {old new : LaneOf} → new ≡ record old { book = looked_once old.book } → GoesOn old new
tells-on {old} {new} is = subst (λ (lane : LaneOf). GoesOn old lane) (sym is) (record { seen = ([], append-nil old.book.seen); rooms = λ key size knows. told-room knows })

-- a get that found nothing, or a use of an object
module _ {R : Type 0} (key : ℕ) (old new : LaneOf) where
  looked : (answer : Option R) → MatchOption answer (Gets key old new None) (λ _. Uses key old new) → GoesOn old new
  looked None did = goes-on did.1.goes
  looked (Some r) did = goes-further {between = did.between} (goes-on did.gets.3.goes) (goes-on did.releases.goes)

  pub look-goes : (z : Shape) (answer : Option R) → (is_key z key ≡ false → IsNone answer × (new ≡ old))
      → (is_key z key ≡ true → MatchOption answer (Gets key old new None) (λ _. Uses key old new)) → GoesOn old new
  look-goes z answer outside inside = elim (cases_Bool (is_key z key)) [
    | inl is ↦ looked answer (inside is)
    | inr not_one ↦ goes-nowhere (outside not_one).1
  ]

-- what such a look did, by its answer
module _ {R : Type 0} (key : ℕ) (old new : LaneOf) where
  used : (answer : Option R) → MatchOption answer (Gets key old new None) (λ _. Uses key old new) → IsSome answer → Uses key old new
  used None did some = absurd (cc some)
  used (Some r) did some = did

  missed : (answer : Option R) → MatchOption answer (Gets key old new None) (λ _. Uses key old new) → IsNone answer → Gets key old new None
  missed None did none = did
  missed (Some r) did none = absurd (cc none)

  module _ (z : Shape) (answer : Option R) (outside : is_key z key ≡ false → IsNone answer × (new ≡ old))
      (inside : is_key z key ≡ true → MatchOption answer (Gets key old new None) (λ _. Uses key old new)) where
    pub look-uses : IsSome answer → Uses key old new
    look-uses some = elim (cases_Bool (is_key z key)) [
      | inl is ↦ used answer (inside is) some
      | inr not_one ↦ let none = (outside not_one).0 in absurd (cc (some, none))
    ]

    pub look-misses : (IsNone answer → is_key z key ≡ true → Calls z (Getting key) old.book new.book) → IsNone answer → Missed z key old new
    look-misses called none = record { outside = λ out. (outside out).1; called = called none; gets = λ is. missed answer (inside is) none }

got-goes : (key : ℕ) (old new : LaneOf) (answer : Option RefOf) → Gets key old new answer → GoesOn old new
got-goes key old new None did = goes-on did.1.goes
got-goes key old new (Some reference) did = goes-on did.3.goes

-- a get
pub get-goes : (z : Shape) (key : ℕ) (old new : LaneOf) (answer : Option RefOf) → (is_key z key ≡ false → IsNone answer × (new ≡ old)) → (is_key z key ≡ true → Gets key old new answer) → GoesOn old new
get-goes z key old new answer outside inside = elim (cases_Bool (is_key z key)) [
  | inl is ↦ got-goes key old new answer (inside is)
  | inr not_one ↦ goes-nowhere (outside not_one).1
]

pub clear-goes : (z : Shape) (key : ℕ) (reply : Bool) (old new : LaneOf) → (is_key z key ≡ false → (reply ≡ false) × (new ≡ old))
    → (is_key z key ≡ true → (rest : List Act) × Did (Clear old.number key reply ∷ rest) old new) → GoesOn old new
clear-goes z key reply old new outside inside = elim (cases_Bool (is_key z key)) [
  | inl is ↦ goes-on (inside is).1.goes
  | inr not_one ↦ goes-nowhere (outside not_one).1
]

-- ---- the content of a key

behind : (x : Act) (more : List Act) (key : ℕ) (content : List ℕ) → IsPublished more key content → IsPublished (x ∷ more) key content
behind x more key content is = (suc is.0, is.1)

first-or-behind : (lane other : ℕ) (here : List ℕ) (with_ref : Bool) (more : List Act) (key : ℕ) (content : List ℕ) → (b : Bool) → (other == key) ≡ b
    → IsPublished (Publish lane other here with_ref ∷ more) key content → ((c : List ℕ) → IsPublished more key c → IsPublished more key (content_in more key))
    → IsPublished (Publish lane other here with_ref ∷ more) key (cond b here (content_in more key))
first-or-behind lane other here with_ref more key content true same is rest = (0, (lane, with_ref, ap (λ (k : ℕ). let o : Option Act = Some (Publish lane k here with_ref) in o) (eqb-true other key same)))
first-or-behind lane other here with_ref more key content false differs (zero, (by, is_ref, at)) rest =
    let same : other ≡ key = cc at in let equal = eq-eqb other key same in absurd (cc (differs, equal))
first-or-behind lane other here with_ref more key content false differs (suc i, at) rest = behind (Publish lane other here with_ref) more key (content_in more key) (rest content (i, at))

-- where a key is published it is so with the content that is told
pub told-content : (history : List Act) (key : ℕ) (content : List ℕ) → IsPublished history key content → IsPublished history key (content_in history key)
told-content [] key content (position, (lane, with_ref, at)) = absurd (cc at)
told-content (Publish lane other here with_ref ∷ more) key content is =
    first-or-behind lane other here with_ref more key content (other == key) refl is (λ c published. told-content more key c published)
told-content (Get lane other reply ∷ more) key content (zero, (by, with_ref, at)) = absurd (cc at)
told-content (Get lane other reply ∷ more) key content (suc i, at) = behind (Get lane other reply) more key (content_in more key) (told-content more key content (i, at))
told-content (Release lane other ∷ more) key content (zero, (by, with_ref, at)) = absurd (cc at)
told-content (Release lane other ∷ more) key content (suc i, at) = behind (Release lane other) more key (content_in more key) (told-content more key content (i, at))
told-content (Clear lane other reply ∷ more) key content (zero, (by, with_ref, at)) = absurd (cc at)
told-content (Clear lane other reply ∷ more) key content (suc i, at) = behind (Clear lane other reply) more key (content_in more key) (told-content more key content (i, at))
told-content (Reclaim lane other ∷ more) key content (zero, (by, with_ref, at)) = absurd (cc at)
told-content (Reclaim lane other ∷ more) key content (suc i, at) = behind (Reclaim lane other) more key (content_in more key) (told-content more key content (i, at))
told-content (Home lane place ∷ more) key content (zero, (by, with_ref, at)) = absurd (cc at)
told-content (Home lane place ∷ more) key content (suc i, at) = behind (Home lane place) more key (content_in more key) (told-content more key content (i, at))
told-content (Collect lane places ∷ more) key content (zero, (by, with_ref, at)) = absurd (cc at)
told-content (Collect lane places ∷ more) key content (suc i, at) = behind (Collect lane places) more key (content_in more key) (told-content more key content (i, at))

-- and that is the one content that it has
pub same-content : ContentLaw → (z : Shape) (history : List Act) → IsLegal z history → (key : ℕ) (content : List ℕ) → IsPublished history key content → content_in history key ≡ content
same-content law z history legal key content is =
    let told = told-content history key content is in law z history legal told.0 is.0 key (content_in history key) content told.1 is.1

-- ---- what a call tells

-- a create, with or without a place
pub created-goes : {T : Type 0} (content : T → List ℕ) (room : T → ℕ) (old new : LaneOf) (answer : Result (FillingOf T) CreateFault)
    → IfOk answer (Gives content room old new) → (IsErr answer → GivesNone old new) → (new.number ≡ old.number) × GoesOn old new
created-goes content room old new (Ok filling) gives none = (gives.created.same.2, goes-on gives.created.goes)
created-goes content room old new (Err fault) gives none = let is = none refl in (is.created.same.2, goes-on is.created.goes)

-- where it can't be some it is none
pub none-or : {A : Type 0} (answer : Option A) → (IsSome answer → ⊥) → IsNone answer
none-or None not_some = refl
none-or (Some x) not_some = absurd (not_some refl)

-- a clear answers true, or another came before it: a key that was published is then cleared
pub cleared-then : {key : ℕ} {old new : LaneOf} (reply : Bool) → IsPrefix old.book.seen new.book.seen → (IsTrue reply → ClearedSince key old new) → (IsFalse reply → MissedSince key old new)
    → IsGone old.book.seen new.book.seen key
cleared-then true seen cleared missed content published = let is = cleared refl in (is.clear.position, is.cleared)
cleared-then false seen cleared missed content published = missed-cleared seen (missed refl) published.0 content published.1

pub on-err : {A E : Type 0} (answer : Result A E) (P : Type 0) → true ≡ is_err answer → OnErr answer P → P
on-err (Ok x) P is holds = absurd (cc is)
on-err (Err e) P is holds = holds

pub on-ok : {A E : Type 0} (answer : Result A E) (P : Type 0) → false ≡ is_err answer → OnOk answer P → P
on-ok (Ok x) P is holds = holds
on-ok (Err e) P is holds = absurd (cc is)

-- a create, what was written, and a publish
module _ {T : Type 0} (content : T → List ℕ) (room : T → ℕ) (old between new : LaneOf) (filling : FillingOf T) (object : T) (key : ℕ) (written : List ℕ) where
  pub puts : {z : Shape} → Gives content room old between filling → between.number ≡ old.number → key ≡ filling.key → content object ≡ written
      → Calls z (Publishing filling.key (content object) false) between.book new.book
      → Did (Publish between.number filling.key (content object) false ∷ []) between new → KnowsRoom new filling.key (room object) → Puts content room z written old new key
  puts {z} gives same is holds called did knows = record {
    between = between;
    filling = filling;
    gives = gives;
    key_is = is;
    object = object;
    holds = holds;
    called = subst (λ (k : ℕ). Calls z (Publishing k written false) between.book new.book) (sym is)
        (subst (λ (c : List ℕ). Calls z (Publishing filling.key c false) between.book new.book) holds called);
    publishes = subst (λ (n : ℕ). Did (Publish n key written false ∷ []) between new) same
        (subst (λ (k : ℕ). Did (Publish between.number k written false ∷ []) between new) (sym is)
        (subst (λ (c : List ℕ). Did (Publish between.number filling.key c false ∷ []) between new) holds did));
    knows = subst (λ (k : ℕ). KnowsRoom new k (room object)) (sym is) knows;
  }
