-- One hand takes in all others, and at the end it knows what each of them knew.
use Rattle.poolsteps.specs.Layout.{spots_at}
use Rattle.std.proofs.Common.{◌≡◌, ◌⊎◌, inl, inr, ⊎_elim, ℕ, zero, suc, List, [], ◌∷◌, ◌++◌, length, slice_get, Option, Some, ap, sym, ◌∙◌, subst}
use Rattle.std.specs.List.{All}
use Rattle.std.proofs.lemmas.List.Elements.{All-head, All-tail}
use Rattle.atomic_table.specs.declared.shared.Seat.{Seat}
use Rattle.atomic_table.specs.Table.{Me, Final, Seen}
use Rattle.poolsteps.specs.Share.{Share}
use Rattle.poolsteps.specs.declared.grid.Grid.{Grid}
use Rattle.poolsteps.specs.declared.view.LaneRecord.{LaneRecord}
use Rattle.poolsteps.specs.declared.view.View.{View}
use Rattle.poolsteps.specs.declared.view.Heard.{Heard}
use Rattle.poolsteps.specs.Views.{In}
use Rattle.poolsteps.specs.Rule.{World, IsBeginning, HasSeen, Stands, Kept}
use Rattle.poolsteps.specs.Seats.{heard_of, both_of}
use Rattle.poolsteps.specs.Grids.{IsOf, SameSeat, AreHands, EndsWith}
use Rattle.poolsteps.proofs.ViewLemmas.{in-front, in-behind, entry-of, entry-before, entry-last, all-split}

-- ---- what seats know

-- the history begins with what the seat saw, and with each that it was told of, with the rooms beside them
abbrev pub Begins : World → View → Type 0
Begins world v = HasSeen world v × All (IsBeginning world) v.told

-- a seat has the lanes that another has, and knows what it knows
pub record Knows (v w : View) : Type 0 where
  pub lanes : (r : LaneRecord) → In r w.lanes → In r v.lanes
  pub begins : (world : World) → Begins world v → Begins world w

knows-itself : (v : View) → Knows v v
knows-itself v = record { lanes = λ r among. among; begins = λ world begins. begins }

knows-further : (u v w : View) → Knows u v → Knows v w → Knows u w
knows-further u v w first then = record {
  lanes = λ r among. first.lanes r (then.lanes r among);
  begins = λ world begins. then.begins world (first.begins world begins);
}

-- two seats at one know what either knew
knows-both : (v w : View) → Knows (both_of v w) v × Knows (both_of v w) w
knows-both v w = (
  record { lanes = λ r among. in-front r v.lanes w.lanes among; begins = λ world begins. (told world begins).0 },
  record { lanes = λ r among. in-behind r v.lanes w.lanes among; begins = λ world begins. (told world begins).1 },
)
  where
    told : (world : World) → Begins world (both_of v w) → Begins world v × Begins world w
    told world begins =
        let P : Heard → Type 0 = IsBeginning world in
        let first : Heard = heard_of v in
        let second : Heard = heard_of w in
        let rest = All-tail P first (second ∷ v.told ++ w.told) begins.1 in
        let split = all-split P v.told w.told (All-tail P second (v.told ++ w.told) rest) in
        ((All-head P first (second ∷ v.told ++ w.told) begins.1, split.0), (All-head P second (v.told ++ w.told) rest, split.1))

-- ---- the hands

module _ {T : Type 0} (grid : Grid T) (hands : List (Seat (Option (Share T)) View)) where
  -- what a slot has
  abbrev S : Type 0
  S = Option (Share T)

  -- the seat knows what each of the hands knows, but for those that are left
  pub record AreGathered (seat : Seat S View) (left : List (Seat S View)) : Type 0 where
    pub seat_of : IsOf grid seat
    pub empty : seat.me.1 ≡ []
    pub among : (index : ℕ) (hand : Seat S View) → slice_get left index ≡ Some hand → (at : ℕ) × (slice_get hands at ≡ Some hand)
    pub each : (index : ℕ) (hand : Seat S View) → slice_get hands index ≡ Some hand
        → Knows seat.me.0 hand.me.0 ⊎ ((at : ℕ) × (slice_get left at ≡ Some hand))

  module _ (are : AreHands grid hands) where
    -- the last hand is to take in the others
    pub one-gathered : (last : Seat S View) (left : List (Seat S View)) → hands ≡ left ++ last ∷ [] → AreGathered last left
    one-gathered last left is =
        let of : slice_get hands (length left) ≡ Some last = ap (λ (list : List (Seat S View)). slice_get list (length left)) is ∙ entry-last left last in
        let own = are.each (length left) last of in record {
          seat_of = own.0;
          empty = own.1;
          among = λ index hand at. (index, ap (λ (list : List (Seat S View)). slice_get list index) is ∙ entry-before left last hand index at);
          each = λ index hand at. ⊎_elim
              (λ (there : slice_get left index ≡ Some hand). inr (index, there))
              (λ (here : (index ≡ length left) × (last ≡ hand)). inl (subst (λ (h : Seat S View). Knows last.me.0 h.me.0) here.1 (knows-itself last.me.0)))
              (entry-of left last hand index (ap (λ (list : List (Seat S View)). slice_get list index) (sym is) ∙ at));
        }

    -- the next that is left is a hand of the grid, with no slot
    pub next-hand : (seat hand : Seat S View) (left more : List (Seat S View)) → AreGathered seat left → left ≡ hand ∷ more → IsOf grid hand × (hand.me.1 ≡ [])
    next-hand seat hand left more gathered is =
        let among = gathered.among 0 hand (ap (λ (list : List (Seat S View)). slice_get list 0) is) in
        let own = are.each among.0 hand among.1 in (own.0, own.1)

    -- it is taken in
    pub more-gathered : (seat after hand : Seat S View) (left more : List (Seat S View)) → AreGathered seat left → left ≡ hand ∷ more → SameSeat seat after
        → after.me ≡ (both_of seat.me.0 hand.me.0, seat.me.1) → AreGathered after more
    more-gathered seat after hand left more gathered is same me = record {
      seat_of = same.0 ∙ gathered.seat_of;
      empty = ap (λ (m : Me S View). m.1) me ∙ gathered.empty;
      among = λ index other at. gathered.among (suc index) other (ap (λ (list : List (Seat S View)). slice_get list (suc index)) is ∙ at);
      each = λ index other at. ⊎_elim
          (λ (known : Knows seat.me.0 other.me.0). inl (of_view other (knows-further (both_of seat.me.0 hand.me.0) seat.me.0 other.me.0 both.0 known)))
          (λ (there : (at : ℕ) × (slice_get left at ≡ Some other)).
          was-left other there.0 (ap (λ (list : List (Seat S View)). slice_get list there.0) (sym is) ∙ there.1))
          (gathered.each index other at);
    }
      where
        both : Knows (both_of seat.me.0 hand.me.0) seat.me.0 × Knows (both_of seat.me.0 hand.me.0) hand.me.0
        both = knows-both seat.me.0 hand.me.0

        of_view : (other : Seat S View) → Knows (both_of seat.me.0 hand.me.0) other.me.0 → Knows after.me.0 other.me.0
        of_view other known = subst (λ (m : Me S View). Knows m.0 other.me.0) (sym me) known

        was-left : (other : Seat S View) (at : ℕ) → slice_get (hand ∷ more) at ≡ Some other
            → Knows after.me.0 other.me.0 ⊎ ((at : ℕ) × (slice_get more at ≡ Some other))
        was-left other zero at = let first : hand ≡ other = cc at in
            inl (of_view other (subst (λ (h : Seat S View). Knows (both_of seat.me.0 hand.me.0) h.me.0) first both.1))
        was-left other (suc index) at = inr (index, at)

    -- a seat that knows them all is at the end of the table
    pub ends : (content : T → List ℕ) (room : T → ℕ) (seat : Seat S View) (left : List (Seat S View)) (words : List ℕ) (slots : List S) → AreGathered seat left
        → left ≡ [] → Final (Seen (Kept content room (spots_at grid.objects.ptr grid.shape) grid.shape) seat.id seat.me.0) words slots → (w : World) × EndsWith content room grid hands words slots w
    ends content room seat left words slots gathered none final =
        let s = final.0 in
        let w : World = final.1.0.0 in
        let stands = final.1.0.1 in
        let at_end = final.1.1 in
        let begins : (index : ℕ) (hand : Seat S View) → slice_get hands index ≡ Some hand → HasSeen w hand.me.0 =
        λ index hand at. ((known index hand at).begins w (stands.seats.seen seat.id seat.me.0 at_end, stands.seats.told seat.id seat.me.0 at_end)).0 in (
          w,
          record {
            homes = s.homes;
            at_home = final.4;
            views = s.views;
            stands = subst (λ (ws : List ℕ). Stands content room (spots_at grid.objects.ptr grid.shape) grid.shape w s.homes ws s.views) final.2 stands;
            seen = λ index hand at. (begins index hand at).acts;
            rooms = λ index hand at. (begins index hand at).rooms;
            paired = λ index hand at. (begins index hand at).paired;
            records = λ index hand r at among. stands.seats.records r (seat.id, seat.me.0, at_end, (known index hand at).lanes r among);
          },
        )
      where
        known : (index : ℕ) (hand : Seat S View) → slice_get hands index ≡ Some hand → Knows seat.me.0 hand.me.0
        known index hand at = ⊎_elim (λ (known : Knows seat.me.0 hand.me.0). known)
            (λ (there : (at : ℕ) × (slice_get left at ≡ Some hand)).
            absurd (cc (ap (λ (list : List (Seat S View)). slice_get list there.0) (sym none) ∙ there.1)))
            (gathered.each index hand at)
