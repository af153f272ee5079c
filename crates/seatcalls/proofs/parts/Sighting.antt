-- Where the act of a guest's call stands in what the guest has then seen, and what the laws of legal histories then tell.
use Rattle.std.proofs.Common.{◌≡◌, ℕ, zero, suc, ◌+◌, ◌≤◌, Bool, true, false, cond, ◌==◌, List, [], ◌∷◌, ◌++◌, length, Some, None, refl, sym, ap, ◌∙◌, subst, arith, inl, inr, slice_get, append-nil, append_assoc}
use Rattle.std.proofs.lemmas.List.{append_cancel_left}
use denote.RawPtr.{Ptr}
use Rattle.keybits.specs.declared.shape.Shape.{Shape}
use Rattle.seqpool.specs.declared.act.Act.{Act}
use Rattle.seqpool.specs.declared.act.Act.TheVariants as acts
use Rattle.seqpool.specs.Pool.{lane_of}
use Rattle.seqpool.specs.Histories.{At, acts_of}
use Rattle.seqpool.proofs.Gets.{get-law}
use Rattle.seqpool.proofs.Misses.{clear-law, miss-law}
use Rattle.seqpool.proofs.Growth.{acts-append}
use Rattle.steplaws.specs.StepLaws.{reclaim}
use Rattle.poolsteps.specs.Views.{the_lane}
use Rattle.seatcalls.specs.declared.ended.Ended.{Ended}
use Rattle.seatcalls.specs.declared.ended.Ended.TheVariants.{Free, Kept}
use Rattle.seatcalls.specs.Endings.{Ends, Settles, ended_acts}
use Rattle.seatcalls.specs.Guests.{given_acts}
use Rattle.seatcalls.specs.Sightings.{StandsBehind, Found, Missed, Cleared}
use Rattle.seatcalls.specs.Visitors.{GuestOf, ClaimedOf, IsFree, Visits}
use Rattle.seatcalls.proofs.parts.Going.{all-acts}
use Rattle.seatcalls.proofs.parts.Visiting.{visits-more}

in-rest : (b : Bool) (x act : Act) (all own : List Act) (k : ℕ) → At (cond b (x ∷ own) own) k act → ((n : ℕ) → At own n act → (i : ℕ) × At all i act) → (i : ℕ) × At (x ∷ all) i act
in-rest true x act all own zero at later = (0, at)
in-rest true x act all own (suc k) at later = let r = later k at in (suc r.0, r.1)
in-rest false x act all own k at later = let r = later k at in (suc r.0, r.1)

-- an act of a caller stands in the history
pub in-history : (lane : ℕ) (history : List Act) (k : ℕ) (act : Act) → At (acts_of lane history) k act → (i : ℕ) × At history i act
in-history lane [] k act at = absurd (cc at)
in-history lane (x ∷ xs) k act at = in-rest (lane_of x == lane) x act xs (acts_of lane xs) k at (λ n is. in-history lane xs n act is)

-- what stands in the rest of a history stands behind its beginning
pub at-behind : (xs ys : List Act) (k : ℕ) (act : Act) → At ys k act → (i : ℕ) × (length xs ≤ i) × At (xs ++ ys) i act
at-behind [] ys k act at = (k, omega arith, at)
at-behind (x ∷ xs) ys k act at = let r = at-behind xs ys k act at in (suc r.0, (let low = r.1 in omega (arith, low)), r.2)

module _ {old new : GuestOf} {rest : List Act} {steps looks : ℕ} (free : IsFree old) where
  stands-behind : (act : Act) → Visits (act ∷ rest) steps looks old new → StandsBehind act old new
  stands-behind act visits =
      let lane : ℕ = (the_lane old.book).lane in
      let acted = visits.acted in
      let more : List Act = acted.seen.0 in
      let own = append_cancel_left (acts_of lane old.book.seen) (acts_of lane more) (act ∷ rest)
      (sym (acts-append lane old.book.seen more) ∙ (ap (acts_of lane) acted.seen.1 ∙ all-acts acted free.fits.seat.seen.1)) in
      let first : At (acts_of lane more) 0 act = ap (λ (xs : List Act). slice_get xs 0) own in
      let there = in-history lane more 0 act first in
      let behind = at-behind old.book.seen more there.0 act there.1 in
      record { position = behind.0; behind = behind.1; at = subst (λ (xs : List Act). At xs behind.0 act) acted.seen.1 behind.2 }

  pub found-by : (key : ℕ) (content : List ℕ) → Visits (acts.Get old.number key (Some content) ∷ rest) steps looks old new → Found key old new
  found-by key content visits =
      let stands = stands-behind (acts.Get old.number key (Some content)) visits in
      record {
        content = content;
        get = stands;
        present = (get-law old.shape new.book.seen visits.acted.legal stands.position old.number key (Some content) content stands.at).0 refl;
      }

  pub missed-by : (number key : ℕ) → Visits (acts.Get number key None ∷ rest) steps looks old new → Missed key old new
  missed-by number key visits =
      let stands = stands-behind (acts.Get number key None) visits in
      record {
        position = stands.position;
        behind = stands.behind;
        missed = (number, inl stands.at);
        cleared = λ j content published before. miss-law old.shape new.book.seen visits.acted.legal stands.position j key content (number, inl stands.at) published before;
      }

  pub unmarked-by : (number key : ℕ) (reply : Bool) → reply ≡ false → Visits (acts.Clear number key reply ∷ rest) steps looks old new → Missed key old new
  unmarked-by number key reply is visits =
      let stands = stands-behind (acts.Clear number key false) (subst (λ (b : Bool). Visits (acts.Clear number key b ∷ rest) steps looks old new) is visits) in
      record {
        position = stands.position;
        behind = stands.behind;
        missed = (number, inr stands.at);
        cleared = λ j content published before. miss-law old.shape new.book.seen visits.acted.legal stands.position j key content (number, inr stands.at) published before;
      }

  pub cleared-by : (key : ℕ) (reply : Bool) → reply ≡ true → Visits (acts.Clear old.number key reply ∷ rest) steps looks old new → Cleared key old new
  cleared-by key reply is visits =
      let stands = stands-behind (acts.Clear old.number key true) (subst (λ (b : Bool). Visits (acts.Clear old.number key b ∷ rest) steps looks old new) is visits) in
      let present = (clear-law old.shape new.book.seen visits.acted.legal stands.position old.number key true stands.at).0 refl in
      record { clear = stands; content = present.0; present = present.1 }

-- ---- a call whose place was given back, if the guest claimed it

pub ends-settled : {T : Type 0} (content : T → List ℕ) (room : T → ℕ) (directory : Ptr) (place : ℕ) (first : List Act) (steps looks most_steps most_looks : ℕ) (old new : GuestOf) (ended : Ended T)
    → Ends content room directory place first steps looks old ended → ((guest : GuestOf) → ended ≡ Free guest → new ≡ guest)
    → ((claimed : ClaimedOf T) → ended ≡ Kept claimed
    → Visits (given_acts claimed.guest.shape claimed.guest.number claimed.place claimed.generation) 1 2 claimed.guest new)
    → steps + 1 ≤ most_steps → looks + 2 ≤ most_looks → Settles place first most_steps most_looks old new
ends-settled content room directory place first steps looks most_steps most_looks old new (Free guest) ends free kept few_steps few_looks = (
  None,
  subst (λ (made : List Act). Visits made most_steps most_looks old new) (sym (append-nil first))
      (subst (λ (last : GuestOf). Visits first most_steps most_looks old last) (sym (free guest refl)) (record {
        same = ends.same;
        acted = ends.acted;
        stepped = let is = ends.stepped in omega (arith, is, few_steps);
        looked = let is = ends.looked in omega (arith, is, few_looks);
      })),
)
ends-settled content room directory place first steps looks most_steps most_looks old new (Kept claimed) ends free kept few_steps few_looks =
    let g : ℕ = claimed.generation in
    let back : Visits (given_acts old.shape old.number place g) 1 2 claimed.guest new
    = subst (λ (z : Shape). Visits (given_acts z old.number place g) 1 2 claimed.guest new) ends.made.same.1
    (subst (λ (n : ℕ). Visits (given_acts claimed.guest.shape n place g) 1 2 claimed.guest new) ends.made.same.2
    (subst (λ (p : ℕ). Visits (given_acts claimed.guest.shape claimed.guest.number p g) 1 2 claimed.guest new) ends.at.1 (kept claimed refl))) in (
      Some g,
      subst (λ (made : List Act). Visits made most_steps most_looks old new) (append_assoc first (reclaim old.shape old.number place g ∷ []) (given_acts old.shape old.number place g))
          (visits-more ends.made back few_steps few_looks),
    )

-- a call that settles, with looks in front of it
pub settles-looked : {old mid new : GuestOf} (place : ℕ) (first : List Act) (l steps looks most_looks : ℕ) → Visits [] 0 l old mid → Settles place first steps looks mid new → l + looks ≤ most_looks
    → Settles place first steps most_looks old new
settles-looked {old = old} {mid = mid} {new = new} place first l steps looks most_looks visits settles few =
    let claimed = settles.0 in (
      claimed,
      subst (λ (z : Shape). Visits (first ++ ended_acts z old.number place claimed) steps most_looks old new) visits.same.1
          (subst (λ (n : ℕ). Visits (first ++ ended_acts mid.shape n place claimed) steps most_looks old new) visits.same.2
          (visits-more visits settles.1 (omega arith) few)),
    )

-- the end of a call that settles, with the acts in front of it
pub settles-behind : {first : List Act} {s l most_steps most_looks : ℕ} {old mid new : GuestOf} (place steps looks : ℕ) → Visits first s l old mid → Settles place [] steps looks mid new
    → s + steps ≤ most_steps → l + looks ≤ most_looks → Settles place first most_steps most_looks old new
settles-behind {first = first} {most_steps = most_steps} {most_looks = most_looks} {old = old} {mid = mid} {new = new} place steps looks visits settles few_steps few_looks =
    let claimed = settles.0 in (
      claimed,
      subst (λ (z : Shape). Visits (first ++ ended_acts z old.number place claimed) most_steps most_looks old new) visits.same.1
          (subst (λ (n : ℕ). Visits (first ++ ended_acts mid.shape n place claimed) most_steps most_looks old new) visits.same.2
          (visits-more visits settles.1 few_steps few_looks)),
    )
