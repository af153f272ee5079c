-- References that a lane takes and gives back.
use Rattle.std.proofs.Common.{◌≡◌, ◌==◌, ℕ, zero, suc, ◌+◌, ◌-◌, ◌≤◌, Bool, true, false, cond, List, [], ◌∷◌, ◌++◌, Some, slice_get, refl, sym, ap, ◌∙◌, subst, inl, inr, arith, eqb-true, eq-eqb, length-append}
use mathlib.Core.List.{IsPrefix}
use Rattle.keybits.specs.declared.shape.Shape.{Shape}
use Rattle.seqpool.specs.declared.act.Act.{Act}
use Rattle.shardpool.specs.Tokens.{PoolOf, LaneOf, FillingOf}
use Rattle.shardpool.specs.Lanes.{Owns, Made, SameLane, holds, refs}
use Rattle.poollaws.specs.Words.{IsPublished, IsGone}
use Rattle.poollaws.proofs.Ends.{stays-published, stays-cleared}
use Rattle.guards.specs.Seated.{GoesOn}
use Rattle.guards.specs.Several.{Got, Gave, TriesAll, more_of, Lends, Returns}
use Rattle.guards.proofs.Seating.{goes-further}

-- ---- counts

more-append : (ms ks : List ℕ) (key n : ℕ) → more_of (ms ++ ks) key n ≡ more_of ms key (more_of ks key n)
more-append [] ks key n = refl
more-append (m ∷ ms) ks key n = ap (λ (c : ℕ). cond (m == key) (c + 1) c) (more-append ms ks key n)

one-higher : (b : Bool) (m n : ℕ) → cond b (m + 1) m ≡ cond b (n + 1) n → m ≡ n
one-higher true m n is = omega (arith, is)
one-higher false m n is = is

-- what was as many before as many more is so
more-same : (ks : List ℕ) (key m n : ℕ) → more_of ks key m ≡ more_of ks key n → m ≡ n
more-same [] key m n is = is
more-same (k ∷ ks) key m n is = more-same ks key m n (one-higher (k == key) (more_of ks key m) (more_of ks key n) is)

one-no-less : (b : Bool) (m n : ℕ) → m ≤ n → cond b (m + 1) m ≤ cond b (n + 1) n
one-no-less true m n low = omega (arith, low)
one-no-less false m n low = low

more-no-less : (ks : List ℕ) (key m n : ℕ) → m ≤ n → more_of ks key m ≤ more_of ks key n
more-no-less [] key m n low = low
more-no-less (k ∷ ks) key m n low = one-no-less (k == key) (more_of ks key m) (more_of ks key n) (more-no-less ks key m n low)

one-of-first : (b : Bool) (n : ℕ) → b ≡ true → 1 ≤ cond b (n + 1) n
one-of-first true n is = omega arith
one-of-first false n is = absurd (cc is)

less-one : (b : Bool) (m n : ℕ) → (b ≡ true → 1 ≤ m) → n ≡ cond b (m - 1) m → m ≡ cond b (n + 1) n
less-one true m n some is = let low = some refl in omega (arith, low, is)
less-one false m n some is = sym is

one-higher-still : (b : Bool) (n : ℕ) → 1 ≤ n → 1 ≤ cond b (n + 1) n
one-higher-still true n low = omega (arith, low)
one-higher-still false n low = low

-- there is one at least to each key that stands in the list
held-in : (ks : List ℕ) (i key n : ℕ) → slice_get ks i ≡ Some key → 1 ≤ more_of ks key n
held-in [] i key n at = absurd (cc at)
held-in (k ∷ ks) zero key n at = let same : k ≡ key = cc at in one-of-first (k == key) (more_of ks key n) (eq-eqb k key same)
held-in (k ∷ ks) (suc i) key n at = one-higher-still (k == key) (more_of ks key n) (held-in ks i key n at)

-- two lists of two
pub same-two : {a b c d : ℕ} → a ≡ b → c ≡ d → (let one : List ℕ = a ∷ c ∷ [] in one) ≡ (b ∷ d ∷ [])
same-two first second = cc (first, second)

module _ {T : Type 0} {pool : PoolOf} where
  -- ---- what a lane has

  pub lends-more : {ks ms : List ℕ} {old between new : LaneOf} → Lends T pool ks old between → Lends T pool ms between new → Lends T pool (ms ++ ks) old new
  lends-more {ks} {ms} {old} {between} {new} first then = record {
    owns = then.owns;
    same = (then.same.0 ∙ first.same.0, then.same.1 ∙ first.same.1, then.same.2 ∙ first.same.2, then.same.3 ∙ first.same.3);
    goes = goes-further {between = between} first.goes then.goes;
    refs_are = let one = first.refs_are in let other = then.refs_are in let long = length-append ms ks in omega (arith, one, other, long);
    held = λ key. then.held key ∙ (ap (more_of ms key) (first.held key) ∙ sym (more-append ms ks key (holds old key)));
    fillings = λ filling made. then.fillings filling (first.fillings filling made);
  }

  -- what was taken and given back
  pub lends-back : {ks : List ℕ} {old between new : LaneOf} → Lends T pool ks old between → Returns T pool ks between new → Lends T pool [] old new
  lends-back {ks} {old} {between} {new} first then = record {
    owns = then.owns;
    same = (then.same.0 ∙ first.same.0, then.same.1 ∙ first.same.1, then.same.2 ∙ first.same.2, then.same.3 ∙ first.same.3);
    goes = goes-further {between = between} first.goes then.goes;
    refs_are = let one = first.refs_are in let other = then.refs_were in omega (arith, one, other);
    held = λ key. more-same ks key (holds new key) (holds old key) (sym (then.held key) ∙ first.held key);
    fillings = λ filling made. then.fillings filling (first.fillings filling made);
  }

  -- the lane has the references that it took
  pub has-all : {ks : List ℕ} {old new : LaneOf} → Lends T pool ks old new → (key : ℕ) → more_of ks key 0 ≤ holds new key
  has-all {ks} {old} {new} lends key =
      let low = more-no-less ks key 0 (holds old key) (omega arith) in let is = lends.held key in omega (arith, low, is)

  pub returns-more : {ks ms : List ℕ} {old between new : LaneOf} → Returns T pool ms old between → Returns T pool ks between new → Returns T pool (ms ++ ks) old new
  returns-more {ks} {ms} {old} {between} {new} first then = record {
    owns = then.owns;
    same = (then.same.0 ∙ first.same.0, then.same.1 ∙ first.same.1, then.same.2 ∙ first.same.2, then.same.3 ∙ first.same.3);
    goes = goes-further {between = between} first.goes then.goes;
    refs_were = let one = first.refs_were in let other = then.refs_were in let long = length-append ms ks in omega (arith, one, other, long);
    held = λ key. first.held key ∙ (ap (more_of ms key) (then.held key) ∙ sym (more-append ms ks key (holds new key)));
    fillings = λ filling made. then.fillings filling (first.fillings filling made);
  }

  -- ---- one call

  -- a get that gave a reference
  pub lends-one : {old new : LaneOf} (key : ℕ) → Owns pool new → SameLane old new → GoesOn old new → refs new ≡ refs old + 1
      → ((k : ℕ) → holds new k ≡ cond (key == k) (holds old k + 1) (holds old k)) → ((filling : FillingOf T) → Made old filling → Made new filling) → Lends T pool (key ∷ []) old new
  lends-one key owns same goes more held fillings = record { owns = owns; same = same; goes = goes; refs_are = more; held = held; fillings = fillings }

  -- one that gave none
  pub lends-missed : {old new : LaneOf} → Owns pool new → SameLane old new → GoesOn old new → refs new ≡ refs old + 0
      → ((k : ℕ) → holds new k ≡ holds old k) → ((filling : FillingOf T) → Made old filling → Made new filling) → Lends T pool [] old new
  lends-missed owns same goes more held fillings = record { owns = owns; same = same; goes = goes; refs_are = more; held = held; fillings = fillings }

  -- a release
  pub returns-one : {old new : LaneOf} (key : ℕ) → 1 ≤ holds old key → Owns pool new → SameLane old new → GoesOn old new → refs new + 1 ≡ refs old
      → ((k : ℕ) → holds new k ≡ cond (key == k) (holds old k - 1) (holds old k)) → ((filling : FillingOf T) → Made old filling → Made new filling) → Returns T pool (key ∷ []) old new
  returns-one {old} {new} key some owns same goes less held fillings = record {
    owns = owns;
    same = same;
    goes = goes;
    refs_were = sym less;
    held = λ k. less-one (key == k) (holds old k) (holds new k) (λ is. subst (λ (n : ℕ). 1 ≤ holds old n) (eqb-true key k is) some) (held k);
    fillings = fillings;
  }

  -- a release of a reference to this key
  pub returns-of : {old new : LaneOf} (key of : ℕ) → of ≡ key → 1 ≤ holds old of → Owns pool new → SameLane old new → GoesOn old new → refs new + 1 ≡ refs old
      → ((k : ℕ) → holds new k ≡ cond (of == k) (holds old k - 1) (holds old k)) → ((filling : FillingOf T) → Made old filling → Made new filling) → Returns T pool (key ∷ []) old new
  returns-of {old} {new} key of is some owns same goes less held fillings =
      subst (λ (k : ℕ). Returns T pool (k ∷ []) old new) is (returns-one of some owns same goes less held fillings)

  -- ---- references that are held

  -- the lane has the reference that stands here among those that it took
  pub has-one : {ks : List ℕ} {old new : LaneOf} → Lends T pool ks old new → (i key of : ℕ) → slice_get ks i ≡ Some key → of ≡ key → 1 ≤ holds new of
  has-one {ks} {old} {new} lends i key of at is =
      let low = held-in ks i key 0 at in let all = has-all lends key in subst (λ (k : ℕ). 1 ≤ holds new k) (sym is) (omega (arith, low, all))

  -- the lane has both that it took
  pub has-two : {old new : LaneOf} (first second one two : ℕ) → one ≡ first → two ≡ second → Lends T pool (second ∷ first ∷ []) old new → (key : ℕ) → more_of (two ∷ one ∷ []) key 0 ≤ holds new key
  has-two {old} {new} first second one two is same lends key = subst (λ (keys : List ℕ). more_of keys key 0 ≤ holds new key) (sym (same-two same is)) (has-all lends key)

  -- two that were taken, and given back
  pub back-two : {old between new : LaneOf} (first second one two : ℕ) → one ≡ first → two ≡ second → Lends T pool (second ∷ first ∷ []) old between → Returns T pool (two ∷ one ∷ []) between new
      → Lends T pool [] old new
  back-two {old} {between} {new} first second one two is same lends returns = lends-back lends (subst (λ (keys : List ℕ). Returns T pool keys between new) (same-two same is) returns)

-- ---- references that are held

-- one of the keys, of which each is held
pub first-held : (ks : List ℕ) (key n : ℕ) → more_of (key ∷ ks) key 0 ≤ n → 1 ≤ n
first-held ks key n low = let one = one-of-first (key == key) (more_of ks key 0) (eq-eqb key key refl) in omega (arith, low, one)

second : (b c : Bool) (before now : ℕ) → c ≡ true → cond b (cond c (0 + 1) 0 + 1) (cond c (0 + 1) 0) ≤ before → before ≡ cond b (now + 1) now → 1 ≤ now
second true true before now same low is = omega (arith, low, is)
second false true before now same low is = omega (arith, low, is)
second true false before now same low is = absurd (cc same)
second false false before now same low is = absurd (cc same)

-- behind the first of two the second is still held
pub second-held : (one other before now : ℕ) → more_of (other ∷ one ∷ []) one 0 ≤ before → before ≡ more_of (other ∷ []) one now → 1 ≤ now
second-held one other before now low is = second (other == one) (one == one) before now (eq-eqb one one refl) low is

-- ---- keys that are gone

-- a key that is gone between two moments is gone between others around them
pub gone-around : (old first then new : List Act) (key : ℕ) → IsPrefix old first → IsPrefix then new → IsGone first then key → IsGone old new key
gone-around old first then new key before after gone content published = stays-cleared then new after key (gone content (stays-published old first before key content published))

-- ---- keys that are tried

-- behind the first that isn't found none is tried
pub tries-sooner : (z : Shape) (keys more : List ℕ) (old new : LaneOf) → TriesAll z keys old new → TriesAll z (keys ++ more) old new
tries-sooner z [] more old new tries = absurd tries
tries-sooner z (key ∷ keys) more old new (inl missed) = inl missed
tries-sooner z (key ∷ keys) more old new (inr (got, left, found, tries, gave)) = inr (got, left, found, tries-sooner z keys more got left tries, gave)

-- two that were found, others that were tried behind them, and the releases of the two
pub tries-behind : (z : Shape) (first second one two : ℕ) (more : List ℕ) (old between tried new : LaneOf) → one ≡ first → two ≡ second
    → ((got : LaneOf) × Got z first old got × Got z second got between) → TriesAll z more between tried
    → ((left : LaneOf) × Gave z two tried left × Gave z one left new) → TriesAll z (first ∷ second ∷ more) old new
tries-behind z first second one two more old between tried new is same got tries gave = inr (
  got.0,
  gave.0,
  got.1,
  inr (between, tried, got.2, tries, subst (λ (k : ℕ). Gave z k tried gave.0) same gave.1),
  subst (λ (k : ℕ). Gave z k gave.0 new) is gave.2,
)

-- ---- what was read

-- what was published under a key still is
pub read-later : (then new : List Act) (content : List ℕ) (of key : ℕ) → of ≡ key → IsPrefix then new → IsPublished then of content → IsPublished new key content
read-later then new content of key is seen read = subst (λ (k : ℕ). IsPublished new k content) is (stays-published then new seen of content read)
