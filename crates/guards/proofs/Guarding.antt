-- What the calls that take a closure leave of a lane.
use Rattle.std.proofs.Common.{◌≡◌, ◌==◌, ℕ, ◌+◌, ◌-◌, ◌≤◌, Bool, true, false, cond, List, [], ◌∷◌, Some, sym, ap, ◌∙◌, subst, arith}
use Rattle.std.specs.Fn.{FnOnceReturnsAtMut, Once}
use Rattle.std.specs.Borrow.{MutBor}
use Rattle.keybits.specs.declared.shape.Shape.{Shape}
use Rattle.keybits.specs.Keys.{place_of}
use Rattle.seqpool.specs.declared.act.Act.{Act}
use Rattle.seqpool.specs.declared.act.Act.TheVariants as acts
use Rattle.poolsteps.specs.Shares.{room_of}
use Rattle.steplaws.specs.Calls.Call.{Publishing, Getting, Releasing}
use Rattle.shardpool.specs.Tokens.{PoolOf, LaneOf, FillingOf, RefOf}
use Rattle.shardpool.specs.Lanes.{Owns, Calls, Did, Gets, holds}
use Rattle.shardpool.specs.Creates.{Gives}
use Rattle.shardpool.specs.Seen.{PublishedSince}
use Rattle.shardpool.proofs.frame.Standing.{seen-of, published-earlier}
use Rattle.shardpool.proofs.references.Holdings.{got-held}
use Rattle.guards.specs.Guarded.{CreatesWith, Uses, MayRelease, MayPublish}

-- ---- references

back : (b : Bool) (h m : ℕ) → m ≡ cond b (h + 1) h → cond b (m - 1) m ≡ h
back true h m is = omega (arith, is)
back false h m is = is

-- a reference that a get gave and a release took back: there are as many as before both
pub given-back : (key of other before between now : ℕ) → of ≡ key → between ≡ cond (key == other) (before + 1) before → now ≡ cond (of == other) (between - 1) between → now ≡ before
given-back key of other before between now is more less =
    less ∙ (ap (λ (k : ℕ). cond (k == other) (between - 1) between) is ∙ back (key == other) before between more)

-- a get that found the key, and a release of its reference
pub uses : (z : Shape) (key : ℕ) (old between new : LaneOf) (reference : RefOf) → old.shape ≡ z → Calls z (Getting key) old.book between.book → Gets key old between (Some reference)
    → between.number ≡ old.number → Calls z (Releasing reference.key) between.book new.book
    → (rest : List Act) → Did (acts.Release between.number reference.key ∷ rest) between new → Uses key old new
uses z key old between new reference shape asked gets is gave rest did = record {
  between = between;
  reference = reference;
  get_called = subst (λ (s : Shape). Calls s (Getting key) old.book between.book) (sym shape) asked;
  gets = gets;
  release_called = subst (λ (k : ℕ). Calls old.shape (Releasing k) between.book new.book) gets.0
      (subst (λ (s : Shape). Calls s (Releasing reference.key) between.book new.book) (sym shape) gave);
  rest = rest;
  releases = subst (λ (k : ℕ). Did (acts.Release old.number k ∷ rest) between new) gets.0
      (subst (λ (n : ℕ). Did (acts.Release n reference.key ∷ rest) between new) is did);
}

-- ---- creates

module _ {T : Type 0} {content : T → List ℕ} {room : T → ℕ} {old between : LaneOf} {filling : FillingOf T} (gives : Gives content room old between filling) where
  -- with a call on its object and a publish it is a create with a closure
  pub creates : {F : Type 0} (g : Once F (MutBor T × Unit {0}) (Unit {0} × (MutBor T × Unit {0}))) (f : F) (z : Shape) (new : LaneOf) (object : T) (key : ℕ)
      → FnOnceReturnsAtMut g f filling.object tt object → key ≡ filling.key → old.shape ≡ z
      → Calls z (Publishing filling.key (content object) false) between.book new.book → Did (acts.Publish between.number filling.key (content object) false ∷ []) between new
      → PublishedSince filling.key (content object) false between new
      → room_of new.book.seen new.book.rooms (place_of filling.key) ≡ room object → CreatesWith content room g f old new key
  creates g f z new object key ran is shape called published since roomy = record {
    between = between;
    filling = filling;
    gives = gives;
    object = object;
    ran = ran;
    key_is = is;
    called = subst (λ (k : ℕ). Calls old.shape (Publishing k (content object) false) between.book new.book) (sym is)
        (subst (λ (s : Shape). Calls s (Publishing filling.key (content object) false) between.book new.book) (sym shape) called);
    publishes = subst (λ (k : ℕ). Did (acts.Publish old.number k (content object) false ∷ []) between new) (sym is)
        (subst (λ (n : ℕ). Did (acts.Publish n filling.key (content object) false ∷ []) between new) gives.created.same.2 published);
    published = subst (λ (k : ℕ). PublishedSince k (content object) false old new) (sym is) (published-earlier gives.created.same.2 (seen-of gives.created.goes) since);
    room_is = subst (λ (k : ℕ). room_of new.book.seen new.book.rooms (place_of k) ≡ room object) (sym is) roomy;
  }

-- ---- guards: what holds of the parts holds of a guard that has them

pub guard-holds : {lane now : LaneOf} {pool now_pool : PoolOf} {reference now_reference : RefOf} → now ≡ lane → now_pool ≡ pool → now_reference ≡ reference
    → Owns pool lane → 1 ≤ holds lane reference.key → MayRelease now_pool now now_reference
guard-holds {lane} {now} {pool} {now_pool} {reference} {now_reference} lanes pools is owns held =
    subst (λ (p : PoolOf). MayRelease p now now_reference) (sym pools)
    (subst (λ (l : LaneOf). MayRelease pool l now_reference) (sym lanes)
    (subst (λ (r : RefOf). MayRelease pool lane r) (sym is) (owns, held)))

module _ {old lane now : LaneOf} {pool now_pool : PoolOf} (lanes : now ≡ lane) (pools : now_pool ≡ pool) (owns : Owns pool lane) where
  pub guard-may : (key : ℕ) (reference now_reference : RefOf) → now_reference ≡ reference → Gets key old lane (Some reference) → MayRelease now_pool now now_reference
  guard-may key reference now_reference is gets = guard-holds lanes pools is owns (got-held key old lane reference gets)

  pub guard-gets : (key : ℕ) (reference now_reference : RefOf) → now_reference ≡ reference → Gets key old lane (Some reference) → Gets key old now (Some now_reference)
  guard-gets key reference now_reference is gets =
      subst (λ (l : LaneOf). Gets key old l (Some now_reference)) (sym lanes) (subst (λ (r : RefOf). Gets key old lane (Some r)) (sym is) gets)

  module _ {T : Type 0} {content : T → List ℕ} {room : T → ℕ} (filling now_filling : FillingOf T) (is : now_filling ≡ filling) (gives : Gives content room old lane filling) where
    pub guard-may-publish : MayPublish now_pool now now_filling
    guard-may-publish =
        subst (λ (p : PoolOf). MayPublish p now now_filling) (sym pools)
        (subst (λ (l : LaneOf). MayPublish pool l now_filling) (sym lanes)
        (subst (λ (f : FillingOf T). MayPublish pool lane f) (sym is) (owns, gives.made)))

    pub guard-gives : Gives content room old now now_filling
    guard-gives = subst (λ (l : LaneOf). Gives content room old l now_filling) (sym lanes) (subst (λ (f : FillingOf T). Gives content room old lane f) (sym is) gives)
