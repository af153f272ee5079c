-- The hands of guests stand behind those of lanes when a pool is closed, and tell that all guests are gone.
use Rattle.std.proofs.Common.{◌≡◌, inl, inr, ⊎_elim, ℕ, zero, suc, ◌+◌, ◌-◌, ◌<◌, ◌≤◌, List, [], ◌∷◌, ◌++◌, length, Option, Some, None, refl, sym, ap, ◌∙◌, subst, arith, length-append, slice_get}
use Rattle.std.proofs.lemmas.Option.{slice_get_within}
use Rattle.std.proofs.lemmas.Bool.{cond_both}
use mathlib.Core.List.{IsPrefix}
use Rattle.seqpool.specs.Pool.{fresh, is_current}
use Rattle.poolsteps.proofs.Owning.{owners-none}
use Rattle.std.proofs.lemmas.Bool.{cases_lt}
use Rattle.atomic_table.specs.declared.shared.Seat.{Seat}
use Rattle.keybits.specs.declared.shape.Shape.{Shape}
use Rattle.keybits.specs.Shapes.{callers}
use Rattle.seqpool.specs.Histories.{acts_of}
use Rattle.poolsteps.specs.Share.{Share}
use Rattle.poolsteps.specs.declared.grid.Grid.{Grid}
use Rattle.poolsteps.specs.declared.view.View.{View}
use Rattle.seqpool.specs.declared.act.Act.{Act}
use Rattle.poolsteps.specs.Views.{first_record, the_lane, IsOne, In}
use Rattle.poolsteps.proofs.ViewLemmas.{entry-of}
use Rattle.poolsteps.specs.Grids.{IsOf, EndsWith}
use Rattle.poolsteps.specs.Rule.{World, IsRecord, first_records}
use Rattle.seatcalls.specs.Visitors.{GuestOf, FitsGuest, HasNoReference, IsFree}
use Rattle.shardpool.specs.Tokens.{GuestsOf}
use Rattle.shardpool.specs.Opened.{first_book, HasUndealt}
use Rattle.shardpool.specs.Closings.{AreGuests}
use Rattle.shardpool.specs.Partings.{AreHandsOf, AreUndealtHands}
use Rattle.shardpool.proofs.at_close.GoneGuests.{IsGone, AreGone, guest-gone, guest-mine}
use Rattle.shardpool.proofs.at_close.LastHistory.{entry-at}

-- ---- elements of two lists one behind the other

pub in-front : {A : Type 0} → (xs ys : List A) (i : ℕ) (x : A) → slice_get xs i ≡ Some x → slice_get (xs ++ ys) i ≡ Some x
in-front [] ys i x at = let nowhere : None ≡ Some x = at in absurd (cc nowhere)
in-front (y ∷ xs) ys zero x at = at
in-front (y ∷ xs) ys (suc i) x at = in-front xs ys i x at

pub behind : {A : Type 0} → (xs ys : List A) (i : ℕ) (x : A) → slice_get ys i ≡ Some x → slice_get (xs ++ ys) (length xs + i) ≡ Some x
behind [] ys i x at = let same : 0 + i ≡ i = omega arith in ap (slice_get ys) same ∙ at
behind (y ∷ xs) ys i x at =
    let same : length (y ∷ xs) + i ≡ suc (length xs + i) = omega arith in
    ap (slice_get (y ∷ (xs ++ ys))) same ∙ behind xs ys i x at

-- an element of both is one of either
pub either-part : {A : Type 0} (P : A → Type 0) → (xs ys : List A) → ((i : ℕ) (x : A) → slice_get xs i ≡ Some x → P x) → ((i : ℕ) (x : A) → slice_get ys i ≡ Some x → P x)
    → (i : ℕ) (x : A) → slice_get (xs ++ ys) i ≡ Some x → P x
either-part P [] ys first then i x at = then i x at
either-part P (y ∷ xs) ys first then zero x at = first zero x at
either-part P (y ∷ xs) ys first then (suc i) x at = either-part P xs ys (λ k. first (suc k)) then i x at

-- ---- the hands of guests, one after another

pub no-hands : {T : Type 0} → AreHandsOf {T = T} [] []
no-hands = record { count = refl; each = λ index guest hand at. let nowhere : None ≡ Some guest = at in absurd (cc nowhere) }

pub one-hand : {T : Type 0} (guests : List GuestOf) (hands : List (Seat (Option (Share T)) View)) (guest : GuestOf) (hand : Seat (Option (Share T)) View) → AreHandsOf guests hands
    → (hand.table_id ≡ guest.table) × (hand.me ≡ (guest.book, [])) × IsFree guest → AreHandsOf (guests ++ guest ∷ []) (hands ++ hand ∷ [])
one-hand {T} guests hands guest hand are is = record {
  count =
      let long_hands = length-append hands (hand ∷ []) in let long = length-append guests (guest ∷ []) in let same = are.count in
      omega (arith, long_hands, long, same);
  each = λ index one other at_one at_other. ⊎_elim
      (λ (old : slice_get guests index ≡ Some one).
      let low = slice_get_within guests index one old in
      let same = are.count in
      are.each index one other old (⊎_elim
      (λ (there : slice_get hands index ≡ Some other). there)
      (λ (last : (index ≡ length hands) × (hand ≡ other)). let at = last.0 in absurd (omega (arith, low, same, at)))
      (entry-of hands hand other index at_other)))
      (λ (last : (index ≡ length guests) × (guest ≡ one)). ⊎_elim
      (λ (there : slice_get hands index ≡ Some other).
      let low = slice_get_within hands index other there in let same = are.count in let at = last.0 in absurd (omega (arith, low, same, at)))
      (λ (here : (index ≡ length hands) × (hand ≡ other)).
      subst (λ (both : GuestOf × Seat (Option (Share T)) View). (both.1.table_id ≡ both.0.table) × (both.1.me ≡ (both.0.book, [])) × IsFree both.0) (λ i. (last.1 i, here.1 i)) is)
      (entry-of hands hand other index at_other))
      (entry-of guests guest one index at_one);
}

-- ---- guests before their first steps

pub first-guest : (z : Shape) (number : ℕ) → z.lanes ≤ number → number < callers z → FitsGuest z (first_book number) number
first-guest z number high low = record {
  seat = record {
    one = refl;
    number_is = refl;
    guest = high;
    below = low;
    seen = (tt, refl, λ one idle place inside marked. absurd (cc marked), owners-none);
    paired = refl;
  };
  left = λ place inside. refl;
  retires = λ place inside is. absurd (cc is);
}

pub first-bare : (z : Shape) (number : ℕ) → HasNoReference z (first_book number)
first-bare z number key = cond_both {A = ℕ} (is_current z fresh key) 0 0 (λ n. n ≡ 0) (λ _. refl) (λ _. refl)

-- ---- the hand of those that were never dealt

in-first-records : (number from count : ℕ) → from ≤ number → number < from + count → In (first_record number) (first_records from count)
in-first-records number from zero high low = absurd (omega (arith, high, low))
in-first-records number from (suc more) high low = ⊎_elim
    (λ (further : from < number). inr (in-first-records number (from + 1) more (omega (arith, further)) (omega (arith, low))))
    (λ (here : number ≤ from). let same : number ≡ from = omega (arith, high, here) in inl (ap first_record same))
    (cases_lt from number)

pub none-undealt : {T : Type 0} (guests : GuestsOf) → guests.next ≡ callers guests.shape → AreUndealtHands {T = T} guests []
none-undealt guests all = record {
  each = λ index hand at. let nowhere : None ≡ Some hand = at in absurd (cc nowhere);
  has = λ number high low. absurd (omega (arith, all, high, low));
}

pub all-undealt : {T : Type 0} (grid : Grid T) (guests : GuestsOf) (hand : Seat (Option (Share T)) View) → guests.table ≡ grid.table.shared.table_id → guests.shape ≡ grid.shape
    → HasUndealt grid guests.next (Some hand) → AreUndealtHands guests (hand ∷ [])
all-undealt {T} grid guests hand table shape is = record {
  each = each;
  has = λ number high low.
      let all = ap callers shape in
      let more = is.0 in (
        0,
        hand,
        refl,
        subst (λ (v : View). In (first_record number) v.lanes) (sym book)
            (in-first-records number guests.next (callers grid.shape - guests.next) high (omega (arith, all, low, more))),
        ap (λ (v : View). v.seen) book,
      );
}
  where
    book : hand.me.0 ≡ record { lanes = first_records guests.next (callers grid.shape - guests.next); seen = []; rooms = []; told = []; steps = 0; looks = 0 }
    book i = (is.1.1 i).0

    each : (index : ℕ) (other : Seat (Option (Share T)) View) → slice_get (hand ∷ []) index ≡ Some other → (other.table_id ≡ guests.table) × (other.me.1 ≡ [])
    each zero other at =
        let same : hand ≡ other = cc at in
        subst (λ (h : Seat (Option (Share T)) View). (h.table_id ≡ guests.table) × (h.me.1 ≡ [])) same (is.1.0 ∙ sym table, λ i. (is.1.1 i).1)
    each (suc index) other at = let nowhere : None ≡ Some other = at in absurd (cc nowhere)

-- the only caller of a hand is among its own
pub own-lane : {T : Type 0} (hand : Seat (Option (Share T)) View) → IsOne hand.me.0 → In (the_lane hand.me.0) hand.me.0.lanes
own-lane hand one = subst (In (the_lane hand.me.0)) (sym one) (inl refl)

-- ---- the hands of all guests of a pool

module _ {T : Type 0} (grid : Grid T) {undealt : GuestsOf} {dealt : List GuestOf} {front rest : List (Seat (Option (Share T)) View)}
    (are : AreGuests (record { table = grid.table.shared.table_id; directory = grid.objects.ptr; shape = grid.shape }) undealt dealt)
    (fronts : AreHandsOf dealt front) (rests : AreUndealtHands undealt rest) where
  -- the hand of a guest that was dealt, and what holds of it
  dealt-fits : (index : ℕ) (guest : GuestOf) → slice_get dealt index ≡ Some guest → IsFree guest → FitsGuest grid.shape guest.book guest.number × HasNoReference grid.shape guest.book
  dealt-fits index guest at free =
      let shape = (are.owned index guest at).1 in (
        subst (λ (z : Shape). FitsGuest z guest.book guest.number) shape free.fits,
        subst (λ (z : Shape). HasNoReference z guest.book) shape free.bare,
      )

  front-hand : (index : ℕ) (hand : Seat (Option (Share T)) View) → slice_get front index ≡ Some hand → IsOf grid hand × (hand.me.1 ≡ [])
  front-hand index hand at =
      let low = slice_get_within front index hand at in
      let same = fronts.count in
      let guest = entry-at dealt index (omega (arith, low, same)) in
      let is = fronts.each index guest.0 hand guest.1 at in (
        is.0 ∙ (are.owned index guest.0 guest.1).0,
        λ i. (is.1 i).1,
      )

  rest-hand : (index : ℕ) (hand : Seat (Option (Share T)) View) → slice_get rest index ≡ Some hand → IsOf grid hand × (hand.me.1 ≡ [])
  rest-hand index hand at = let is = rests.each index hand at in (is.0 ∙ are.rest.0, is.1)

  -- they are the grid's
  pub guest-hand : (index : ℕ) (hand : Seat (Option (Share T)) View) → slice_get (front ++ rest) index ≡ Some hand → IsOf grid hand × (hand.me.1 ≡ [])
  guest-hand = either-part (λ hand. IsOf grid hand × (hand.me.1 ≡ [])) front rest front-hand rest-hand

  module _ {content : T → List ℕ} {room : T → ℕ} {words : List ℕ} {slots : List (Option (Share T))} {w : World} (hands : List (Seat (Option (Share T)) View))
      (ends : EndsWith content room grid (hands ++ (front ++ rest)) words slots w) where
    -- what the end tells of a guest that was dealt
    pub record DealtEnds (guest : GuestOf) : Type 0 where
      pub seen : IsPrefix guest.book.seen w.history
      pub record_is : IsRecord grid.shape w (the_lane guest.book)
      pub free : IsFree guest

    dealt-ends : (index : ℕ) (guest : GuestOf) → slice_get dealt index ≡ Some guest → DealtEnds guest
    dealt-ends index guest at =
        let low = slice_get_within dealt index guest at in
        let same = fronts.count in
        let there = entry-at front index (omega (arith, low, same)) in
        let hand : Seat (Option (Share T)) View = there.0 in
        let is = fronts.each index guest hand at there.1 in
        let book : hand.me.0 ≡ guest.book = λ i. (is.1 i).0 in
        let stands = behind hands (front ++ rest) index hand (in-front front rest index hand there.1) in record {
          seen = subst (λ (v : View). IsPrefix v.seen w.history) book (ends.seen (length hands + index) hand stands);
          record_is = subst (λ (v : View). IsRecord grid.shape w (the_lane v)) book
              (ends.records (length hands + index) hand (the_lane hand.me.0) stands (own-lane hand (subst IsOne (sym book) is.2.fits.seat.one)));
          free = is.2;
        }

    pub dealt-begins : (index : ℕ) (guest : GuestOf) → slice_get dealt index ≡ Some guest → IsPrefix guest.book.seen w.history
    dealt-begins index guest at = (dealt-ends index guest at).seen

    pub dealt-own : (index : ℕ) (guest : GuestOf) → slice_get dealt index ≡ Some guest → (the_lane guest.book).mine ≡ acts_of guest.number w.history
    dealt-own index guest at =
        let e = dealt-ends index guest at in
        let fits = dealt-fits index guest at e.free in
        guest-mine ends.stands.rule guest.number fits.0 e.free.idle fits.1 e.seen e.record_is

    -- and of one that was never dealt
    pub record RestEnds (number : ℕ) : Type 0 where
      pub fits : FitsGuest grid.shape (first_book number) number
      pub seen : IsPrefix (first_book number).seen w.history
      pub record_is : IsRecord grid.shape w (the_lane (first_book number))

    rest-ends : (number : ℕ) → undealt.next ≤ number → number < callers grid.shape → RestEnds number
    rest-ends number high low =
        let there = rests.has number high (subst (λ (z : Shape). number < callers z) (sym are.rest.1) low) in
        let hand : Seat (Option (Share T)) View = there.1 in
        let stands = behind hands (front ++ rest) (length front + there.0) hand (behind front rest there.0 hand there.2) in
        let first = are.count in record {
          fits = first-guest grid.shape number (omega (arith, high, first)) low;
          seen = subst (λ (acts : List Act). IsPrefix acts w.history) there.4 (ends.seen (length hands + (length front + there.0)) hand stands);
          record_is = ends.records (length hands + (length front + there.0)) hand (first_record number) stands there.3;
        }

    pub rest-unmade : (number : ℕ) → undealt.next ≤ number → number < callers grid.shape → acts_of number w.history ≡ []
    rest-unmade number high low =
        let e = rest-ends number high low in
        sym (guest-mine ends.stands.rule number e.fits refl (first-bare grid.shape number) e.seen e.record_is)

    -- so all guests are gone
    pub all-gone : AreGone grid.shape w
    all-gone number high low = ⊎_elim
        (λ (was_dealt : number < undealt.next).
        let there = are.all number high was_dealt in
        let guest : GuestOf = there.1 in
        let e = dealt-ends there.0 guest there.2 in
        let fits = dealt-fits there.0 guest there.2 e.free in
        subst (λ (n : ℕ). IsGone grid.shape w n) there.3 (guest-gone ends.stands.rule guest.number fits.0 e.free.idle fits.1 e.seen e.record_is))
        (λ (never : undealt.next ≤ number).
        let e = rest-ends number never low in
        guest-gone ends.stands.rule number e.fits refl (first-bare grid.shape number) e.seen e.record_is)
        (cases_lt number undealt.next)
