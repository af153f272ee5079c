-- The acts of a call stand in the history that its lane has then seen, and what the laws of legal histories then tell.
use Rattle.std.proofs.Common.{◌≡◌, ℕ, zero, suc, ◌+◌, ◌≤◌, Bool, true, false, cond, ◌==◌, List, [], ◌∷◌, ◌++◌, length, Some, None, refl, sym, ap, ◌∙◌, subst, arith, inl, inr, slice_get, length-append}
use Rattle.std.proofs.lemmas.Bool.{and_parts, cases_Bool}
use Rattle.std.proofs.lemmas.List.{append_cancel_left}
use mathlib.Core.List.{IsPrefix}
use Rattle.keybits.specs.declared.shape.Shape.{Shape}
use Rattle.keybits.specs.Keys.{is_key}
use Rattle.seqpool.specs.declared.act.Act.{Act}
use Rattle.seqpool.specs.declared.act.Act.TheVariants as acts
use Rattle.seqpool.specs.Pool.{lane_of, IsLegal}
use Rattle.seqpool.specs.Histories.{At, PublishedAt, ClearedAt, acts_of}
use Rattle.seqpool.proofs.Gets.{get-law}
use Rattle.seqpool.proofs.Misses.{clear-law, miss-law, later-law, at-later}
use Rattle.seqpool.proofs.Positions.{at-below}
use Rattle.seqpool.proofs.Growth.{acts-append, legal-at}
use Rattle.poolsteps.specs.Views.{the_lane}
use Rattle.seatcalls.specs.Acted.{Acted}
use Rattle.seatcalls.proofs.parts.Going.{all-acts}
use Rattle.shardpool.specs.Tokens.{LaneOf}
use Rattle.shardpool.specs.Lanes.{SeesOn, Did}
use Rattle.shardpool.specs.Seen.{StandsSince, PublishedSince, FoundSince, MissedSince, ClearedSince}

-- ---- what a lane sees goes on

pub sees-on : {made : List Act} (z : Shape) (old new : LaneOf) → new.shape ≡ z → Acted z made old.book new.book
    → (the_lane old.book).mine ≡ acts_of (the_lane old.book).lane old.book.seen → SeesOn made old new
sees-on {made = made} z old new shape acted own =
    let lane : ℕ = (the_lane old.book).lane in
    let more : List Act = acted.seen.0 in
    let long : length new.book.seen ≡ length old.book.seen + length more = sym (ap (λ (xs : List Act). length xs) acted.seen.1) ∙ length-append old.book.seen more in
    let grown = acted.rooms.2 in record {
      more = more;
      seen = sym acted.seen.1;
      own = append_cancel_left (acts_of lane old.book.seen) (acts_of lane more) made
          (sym (acts-append lane old.book.seen more) ∙ (ap (acts_of lane) acted.seen.1 ∙ all-acts acted own));
      kept = acted.rooms.0;
      rooms = acted.rooms.1;
      paired = omega (arith, long, grown);
      legal = subst (λ (y : Shape). IsLegal y new.book.seen) (sym shape) acted.legal;
    }

-- so it has seen what it had seen
pub seen-of : {made : List Act} {old new : LaneOf} → SeesOn made old new → IsPrefix old.book.seen new.book.seen
seen-of goes = (goes.more, sym goes.seen)

-- ---- where an act stands

in-rest : (b : Bool) (x act : Act) (all own : List Act) (k : ℕ) → At (cond b (x ∷ own) own) k act → ((n : ℕ) → At own n act → (i : ℕ) × At all i act) → (i : ℕ) × At (x ∷ all) i act
in-rest true x act all own zero at later = (0, at)
in-rest true x act all own (suc k) at later = let r = later k at in (suc r.0, r.1)
in-rest false x act all own k at later = let r = later k at in (suc r.0, r.1)

-- an act of a lane stands in the history
in-history : (lane : ℕ) (history : List Act) (k : ℕ) (act : Act) → At (acts_of lane history) k act → (i : ℕ) × At history i act
in-history lane [] k act at = absurd (cc at)
in-history lane (x ∷ xs) k act at = in-rest (lane_of x == lane) x act xs (acts_of lane xs) k at (λ n is. in-history lane xs n act is)

-- what stands in the rest of a history stands behind its beginning
at-behind : (xs ys : List Act) (k : ℕ) (act : Act) → At ys k act → (i : ℕ) × (length xs ≤ i) × At (xs ++ ys) i act
at-behind [] ys k act at = (k, omega arith, at)
at-behind (x ∷ xs) ys k act at = let r = at-behind xs ys k act at in (suc r.0, (let low = r.1 in omega (arith, low)), r.2)

module _ (old new : LaneOf) {rest : List Act} where
  pub stands-since : (act : Act) → SeesOn (act ∷ rest) old new → StandsSince act old new
  stands-since act goes =
      let first : At (acts_of (the_lane old.book).lane goes.more) 0 act = ap (λ (xs : List Act). slice_get xs 0) goes.own in
      let there = in-history (the_lane old.book).lane goes.more 0 act first in
      let behind = at-behind old.book.seen goes.more there.0 act there.1 in
      record { position = behind.0; behind = behind.1; at = subst (λ (xs : List Act). At xs behind.0 act) (sym goes.seen) behind.2 }

  pub published-since : (key : ℕ) (content : List ℕ) (with_ref : Bool) → Did (acts.Publish old.number key content with_ref ∷ rest) old new → PublishedSince key content with_ref old new
  published-since key content with_ref did =
      let stands = stands-since (acts.Publish old.number key content with_ref) did.goes in record { publish = stands; published = (old.number, with_ref, stands.at) }

  pub found-since : (key : ℕ) (content : List ℕ) → Did (acts.Get old.number key (Some content) ∷ rest) old new → FoundSince key old new
  found-since key content did =
      let stands = stands-since (acts.Get old.number key (Some content)) did.goes in
      record {
        content = content;
        get = stands;
        present = (get-law new.shape new.book.seen did.goes.legal stands.position old.number key (Some content) content stands.at).0 refl;
      }

  pub missed-since : (number key : ℕ) → Did (acts.Get number key None ∷ rest) old new → MissedSince key old new
  missed-since number key did =
      let stands = stands-since (acts.Get number key None) did.goes in
      record {
        position = stands.position;
        behind = stands.behind;
        missed = inl (number, inl stands.at);
        cleared = λ j content published before. miss-law new.shape new.book.seen did.goes.legal stands.position j key content (number, inl stands.at) published before;
      }

  pub unmarked-since : (number key : ℕ) (reply : Bool) → reply ≡ false → Did (acts.Clear number key reply ∷ rest) old new → MissedSince key old new
  unmarked-since number key reply is did =
      let stands = stands-since (acts.Clear number key false) (subst (λ (b : Bool). SeesOn (acts.Clear number key b ∷ rest) old new) is did.goes) in
      record {
        position = stands.position;
        behind = stands.behind;
        missed = inl (number, inr stands.at);
        cleared = λ j content published before. miss-law new.shape new.book.seen did.goes.legal stands.position j key content (number, inr stands.at) published before;
      }

  pub cleared-since : (key : ℕ) (reply : Bool) → reply ≡ true → Did (acts.Clear old.number key reply ∷ rest) old new → ClearedSince key old new
  cleared-since key reply is did =
      let stands = stands-since (acts.Clear old.number key true) (subst (λ (b : Bool). SeesOn (acts.Clear old.number key b ∷ rest) old new) is did.goes) in
      let present = (clear-law new.shape new.book.seen did.goes.legal stands.position old.number key true stands.at).0 refl in
      record { clear = stands; cleared = (old.number, stands.at); content = present.0; present = present.1 }

-- ---- what was seen before, and what is seen later

prefix-length : (xs ys : List Act) → IsPrefix xs ys → length xs ≤ length ys
prefix-length xs ys (rest, is) = let all = length-append xs rest in let same = ap (λ (zs : List Act). length zs) is in omega (arith, all, same)

pub published-earlier : {key : ℕ} {content : List ℕ} {with_ref : Bool} {old between new : LaneOf} → between.number ≡ old.number → IsPrefix old.book.seen between.book.seen
    → PublishedSince key content with_ref between new → PublishedSince key content with_ref old new
published-earlier {key = key} {content = content} {with_ref = with_ref} {old = old} {between = between} {new = new} same seen since =
    let less = prefix-length old.book.seen between.book.seen seen in
    let publish = since.publish in
    let behind = publish.behind in record {
      publish = record {
        position = publish.position;
        behind = omega (arith, less, behind);
        at = subst (λ (n : ℕ). At new.book.seen publish.position (acts.Publish n key content with_ref)) same publish.at;
      };
      published = since.published;
    }

-- what is published stays published
pub published-later : (beginning history : List Act) (i key : ℕ) (content : List ℕ) → IsPrefix beginning history → PublishedAt beginning i key content → PublishedAt history i key content
published-later beginning history i key content seen is = (later-law beginning history seen).0 i key content is

pub found-later : {key : ℕ} {old between new : LaneOf} → IsPrefix between.book.seen new.book.seen → FoundSince key old between → FoundSince key old new
found-later {key = key} {old = old} {between = between} {new = new} seen found =
    let act : Act = acts.Get old.number key (Some found.content) in
    let i : ℕ = found.get.position in
    let within = at-below between.book.seen i act found.get.at in
    let later = later-law between.book.seen new.book.seen seen in record {
      content = found.content;
      get = record {
        position = i;
        behind = found.get.behind;
        at = subst (λ (xs : List Act). At xs i act) seen.1 (at-later between.book.seen seen.0 i act found.get.at);
      };
      present = (
        (found.present.0.0, found.present.0.1, later.0 found.present.0.0 key found.content found.present.0.2),
        λ j below cleared. elim (later.1 j key cleared) [
          | inl here ↦ found.present.1 j below here
          | inr behind ↦ omega (arith, within, below, behind)
        ],
      );
    }

-- what was published before a call that missed it was cleared
pub missed-cleared : {key : ℕ} {old new : LaneOf} → IsPrefix old.book.seen new.book.seen → MissedSince key old new
    → (j : ℕ) (content : List ℕ) → PublishedAt old.book.seen j key content → (k : ℕ) × ClearedAt new.book.seen k key
missed-cleared {key = key} {old = old} {new = new} seen missed j content (lane, with_ref, at) =
    let low = at-below old.book.seen j (acts.Publish lane key content with_ref) at in
    let behind = missed.behind in
    let cleared = missed.cleared j content (published-later old.book.seen new.book.seen j key content seen (lane, with_ref, at)) (omega (arith, low, behind)) in
    (cleared.0, cleared.2)

-- ---- a number that is no key

-- no history has a publish of it
never-published : (z : Shape) (history : List Act) (j key : ℕ) (content : List ℕ) → IsLegal z history → is_key z key ≡ false → PublishedAt history j key content → ⊥
never-published z history j key content legal outside (lane, with_ref, at) =
    let ok = (legal-at z _ history j (acts.Publish lane key content with_ref) legal at).1 in
    let inside = (and_parts (is_key z key) _ ok.0).0 in
    let bad : true ≡ false = sym inside ∙ outside in cc bad

-- so a call of it finds nothing
pub missed-outside : (pool : Shape) (lane : LaneOf) (key : ℕ) → IsLegal lane.shape lane.book.seen → lane.shape ≡ pool → (is_key pool key ≡ true → ⊥) → MissedSince key lane lane
missed-outside pool lane key legal same none =
    let outside : is_key lane.shape key ≡ false = elim (cases_Bool (is_key lane.shape key)) [
      | inl is ↦ absurd (none (ap (λ (z : Shape). is_key z key) (sym same) ∙ is))
      | inr isnt ↦ isnt
    ] in record {
      position = length lane.book.seen;
      behind = omega arith;
      missed = inr outside;
      cleared = λ j content published before. absurd (never-published lane.shape lane.book.seen j key content legal outside published);
    }
