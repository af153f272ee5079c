-- What a call of a lane leaves, put together from its call, its acts and its fillings.
use Rattle.std.proofs.Common.{◌≡◌, ◌≢◌, ◌+◌, ◌≤◌, ◌<◌, ⊎_elim, ℕ, Bool, true, false, List, [], ◌∷◌, Ok, Err, Some, None, IsSome, refl, sym, ◌∙◌, subst, arith}
use Rattle.std.proofs.lemmas.Bool.{false≢true}
use Rattle.keybits.specs.declared.shape.Shape.{Shape}
use Rattle.keybits.specs.Keys.{is_key, place_of}
use Rattle.seqpool.specs.declared.act.Act.{Act}
use Rattle.seqpool.specs.declared.act.Act.TheVariants as acts
use Rattle.seqpool.specs.Pool.{Pool, pool_after, IsLegal}
use Rattle.seqpool.proofs.Ranks.{current-key}
use Rattle.poolsteps.proofs.shares.HeldContents.{held-current}
use Rattle.poolsteps.specs.Shares.{room_of}
use Rattle.steplaws.specs.Calls.Call.{Publishing, Getting, Releasing, Clearing}
use Rattle.poolsteps.specs.Views.{the_lane}
use Rattle.poolsteps.proofs.ViewLemmas.{prefix-self}
use Rattle.shardpool.specs.declared.create.CreateFault.{CreateFault}
use Rattle.shardpool.specs.declared.create.CreateFault.TheVariants.{Full, Memory}
use Rattle.shardpool.specs.Tokens.{PoolOf, LaneOf, FillingOf, RefOf}
use Rattle.shardpool.specs.Lanes.{Owns, Made, SameLane, SeesOn, Calls, Did, Gets, holds, refs}
use Rattle.shardpool.specs.Creates.{Gives, GivesNone}
use Rattle.shardpool.specs.AfterCalls.{Continues, KeepsFillings, KeepsOthers, AfterGet, AfterRelease, AfterReleaseKey, AfterClear, IsPublishing, AfterPublish, AfterDowngrade, AfterCreate}
use Rattle.shardpool.proofs.frame.Standing.{seen-of, published-since, found-since, missed-since, unmarked-since, cleared-since, missed-outside}
use Rattle.shardpool.proofs.references.Holdings.{release-holds, get-holds, clear-holds, publish-holds, publish-alone, gives-refs, none-refs}
use Rattle.shardpool.proofs.calls.Creates.{given-isnt, gives-apart}

-- ---- the lane

goes-on : {made : List Act} {pool : PoolOf} {old new : LaneOf} → Owns pool old → SameLane old new → SeesOn made old new → Continues pool old new
goes-on owns same goes = record { owns = (same.0 ∙ owns.0, same.1 ∙ owns.1, same.3 ∙ owns.2); same = same; seen = seen-of goes }

-- where it does nothing
still : {pool : PoolOf} {lane : LaneOf} → Owns pool lane → Continues pool lane lane
still {lane = lane} owns = record { owns = owns; same = (refl, refl, refl, refl); seen = prefix-self lane.book.seen }

-- a number that is a key isn't none
inside-not : (pool : PoolOf) (key : ℕ) {A : Type 0} → is_key pool.shape key ≡ true → is_key pool.shape key ≡ false → A
inside-not pool key inside outside = let bad : true ≡ false = sym inside ∙ outside in absurd (cc bad)

-- ---- gets, releases and clears

module _ {T : Type 0} {pool : PoolOf} {key : ℕ} {old new : LaneOf} (owns : Owns pool old) where
  pub get-missed : is_key pool.shape key ≡ true → Calls pool.shape (Getting key) old.book new.book → Gets key old new None → refs new ≡ refs old
      → KeepsFillings T old new → AfterGet T pool key old new None
  get-missed inside called gets same_refs fillings = record {
    continues = goes-on owns gets.1.same gets.1.goes;
    outside = λ outside. inside-not pool key inside outside;
    called = λ is. called;
    gets = λ is. gets;
    found = λ some. absurd (false≢true some);
    missed = λ none. missed-since old new old.number key gets.1;
    refs = omega (arith, same_refs);
    held = tt;
    one_more = λ some. absurd (false≢true some);
    no_more = λ none. get-holds called gets.1;
    fillings = fillings;
  }

  pub get-found : (reference : RefOf) → is_key pool.shape key ≡ true → Calls pool.shape (Getting key) old.book new.book → Gets key old new (Some reference)
      → refs new ≡ refs old + 1 → KeepsFillings T old new → AfterGet T pool key old new (Some reference)
  get-found reference inside called gets more fillings = record {
    continues = goes-on owns gets.3.same gets.3.goes;
    outside = λ outside. inside-not pool key inside outside;
    called = λ is. called;
    gets = λ is. gets;
    found = λ some. found-since old new key gets.2 gets.3;
    missed = λ none. absurd (false≢true (sym none));
    refs = more;
    held = (gets.0, subst (λ (k : ℕ). 1 ≤ holds new k) (sym gets.0) gets.1);
    one_more = λ some k. gets.3.held k;
    no_more = λ none. absurd (false≢true (sym none));
    fillings = fillings;
  }

  pub after-release : Calls pool.shape (Releasing key) old.book new.book → (rest : List Act) × Did (acts.Release old.number key ∷ rest) old new → refs new + 1 ≡ refs old
      → KeepsFillings T old new → AfterRelease T pool key old new
  after-release called releases less fillings = record {
    continues = goes-on owns releases.1.same releases.1.goes;
    called = called;
    releases = releases;
    refs = less;
    one_less = release-holds called releases.1;
    fillings = fillings;
  }

  pub key-released : 1 ≤ holds old key → AfterRelease T pool key old new → AfterReleaseKey T pool key old new true
  key-released some after = record {
    continues = record { owns = after.owns; same = after.same; seen = after.seen };
    held = (λ yes. some, λ is. refl);
    released = λ yes. after;
    none = λ no. absurd (false≢true (sym no));
    refs = after.refs;
    fillings = after.fillings;
  }

  pub after-clear : (marked : Bool) → is_key pool.shape key ≡ true → Calls pool.shape (Clearing key) old.book new.book
      → (rest : List Act) × Did (acts.Clear old.number key marked ∷ rest) old new → refs new ≡ refs old → KeepsFillings T old new → AfterClear T pool key old new marked
  after-clear marked inside called clears same_refs fillings = record {
    continues = goes-on owns clears.1.same clears.1.goes;
    outside = λ outside. inside-not pool key inside outside;
    called = λ is. called;
    clears = λ is. clears;
    cleared = λ yes. cleared-since old new key marked yes clears.1;
    missed = λ no. unmarked-since old new old.number key marked no clears.1;
    refs = same_refs;
    held = clear-holds called clears.1;
    fillings = fillings;
  }

-- ---- where nothing is done

-- a lane has no reference to a number that is no key of its pool
pub outside-unheld : (pool : PoolOf) (lane : LaneOf) (key : ℕ) → Owns pool lane → (is_key pool.shape key ≡ true → ⊥) → 1 ≤ holds lane key → ⊥
outside-unheld pool lane key owns none some =
    let z : Shape = lane.shape in
    let after : Pool = pool_after z lane.book.seen in
    let more : 0 < holds lane key = omega (arith, some) in
    none (subst (λ (y : Shape). is_key y key ≡ true) owns.1 (current-key z after key (held-current z after (the_lane lane.book).lane key more).0).0)

module _ {T : Type 0} {pool : PoolOf} {key : ℕ} {lane : LaneOf} (owns : Owns pool lane) where
  pub get-outside : IsLegal lane.shape lane.book.seen → (is_key pool.shape key ≡ true → ⊥) → AfterGet T pool key lane lane None
  get-outside legal none = record {
    continues = still owns;
    outside = λ outside. (refl, refl);
    called = λ inside. absurd (none inside);
    gets = λ inside. absurd (none inside);
    found = λ some. absurd (false≢true some);
    missed = λ missed. missed-outside pool.shape lane key legal owns.1 none;
    refs = omega arith;
    held = tt;
    one_more = λ some. absurd (false≢true some);
    no_more = λ missed k. refl;
    fillings = λ filling made. made;
  }

  pub clear-outside : IsLegal lane.shape lane.book.seen → (is_key pool.shape key ≡ true → ⊥) → AfterClear T pool key lane lane false
  clear-outside legal none = record {
    continues = still owns;
    outside = λ outside. (refl, refl);
    called = λ inside. absurd (none inside);
    clears = λ inside. absurd (none inside);
    cleared = λ yes. absurd (false≢true yes);
    missed = λ no. missed-outside pool.shape lane key legal owns.1 none;
    refs = refl;
    held = λ k. refl;
    fillings = λ filling made. made;
  }

  pub key-unheld : (1 ≤ holds lane key → ⊥) → AfterReleaseKey T pool key lane lane false
  key-unheld none = record {
    continues = still owns;
    held = (λ bad. absurd (false≢true bad), λ some. absurd (none some));
    released = λ yes. absurd (false≢true yes);
    none = λ no. refl;
    refs = omega arith;
    fillings = λ filling made. made;
  }

-- ---- publishes and creates

module _ {T : Type 0} {content : T → List ℕ} {room : T → ℕ} {pool : PoolOf} {old new : LaneOf} (owns : Owns pool old) where
  module _ {filling : FillingOf T} (made : Made old filling) where
    is-publishing : (with_ref : Bool) → Calls pool.shape (Publishing filling.key (content filling.object) with_ref) old.book new.book
        → Did (acts.Publish old.number filling.key (content filling.object) with_ref ∷ []) old new
        → room_of new.book.seen new.book.rooms (place_of filling.key) ≡ room filling.object → KeepsOthers T filling.key old new → IsPublishing content room pool filling with_ref old new
    is-publishing with_ref called publishes knows others = record {
      continues = goes-on owns publishes.same publishes.goes;
      called = called;
      publishes = publishes;
      published = published-since old new filling.key (content filling.object) with_ref publishes;
      room = knows;
      fillings = others;
    }

    pub after-publish : (key : ℕ) → key ≡ filling.key → Calls pool.shape (Publishing filling.key (content filling.object) false) old.book new.book
        → Did (acts.Publish old.number filling.key (content filling.object) false ∷ []) old new
        → room_of new.book.seen new.book.rooms (place_of filling.key) ≡ room filling.object → KeepsOthers T filling.key old new → refs new ≡ refs old
        → AfterPublish content room pool filling old new key
    after-publish key is called publishes knows others same_refs = record {
      key = is;
      publishing = is-publishing false called publishes knows others;
      refs = same_refs;
      held = publish-alone made.place publishes;
    }

    pub after-downgrade : (reference : RefOf) → (reference.key ≡ filling.key) × (1 ≤ holds new filling.key)
        → Calls pool.shape (Publishing filling.key (content filling.object) true) old.book new.book
        → Did (acts.Publish old.number filling.key (content filling.object) true ∷ []) old new
        → room_of new.book.seen new.book.rooms (place_of filling.key) ≡ room filling.object → KeepsOthers T filling.key old new → refs new ≡ refs old + 1
        → AfterDowngrade content room pool filling old new reference
    after-downgrade reference is called publishes knows others more = record {
      key = is;
      publishing = is-publishing true called publishes knows others;
      refs = more;
      one_more = publish-holds made.place publishes;
    }

  module _ (fillings : KeepsFillings T old new) where
    pub create-gave : {filling : FillingOf T} → Gives content room old new filling → AfterCreate content room pool old new (Ok filling)
    create-gave gives = record {
      continues = goes-on owns gives.created.same gives.created.goes;
      gives = gives;
      apart = gives-apart gives;
      none = λ err. absurd (false≢true err);
      full = λ is. absurd (given-isnt is);
      memory = λ is. absurd (given-isnt is);
      succeeds = λ free. refl;
      refs = gives-refs gives;
      held = gives.created.held;
      fillings = fillings;
    }

    pub create-refused : (fault : CreateFault) → GivesNone old new → (fault ≡ Full → old.pages.opened ≡ old.shape.pages) → (fault ≡ Memory → old.pages.opened < old.shape.pages)
        → (IsSome old.free.chain → ⊥) → AfterCreate content room pool old new (Err fault)
    create-refused fault none full memory unchained = record {
      continues = goes-on owns none.created.same none.created.goes;
      gives = tt;
      apart = tt;
      none = λ err. none;
      full = λ is. full (cc is);
      memory = λ is. memory (cc is);
      succeeds = ⊎_elim (λ (own : old.free.own ≢ []). absurd (own none.nothing.0)) (λ (chain : IsSome old.free.chain). absurd (unchained chain));
      refs = none-refs none;
      held = none.created.held;
      fillings = fillings;
    }
