-- A seat's first lane is dealt out, and the rule goes on; so each lane gets a hand.
use Rattle.poolsteps.specs.Spot.{Spot as CellSpot}
use Rattle.keybits.specs.Shapes.{callers}
use Rattle.std.proofs.Common.{◌≡◌, inl, inr, ⊎_elim, ℕ, zero, suc, ◌+◌, ◌<◌, List, [], ◌∷◌, ◌++◌, length, slice_get, Option, Some, None}
use Rattle.std.proofs.Common.{refl, ap, sym, ◌∙◌, subst, arith}
use Rattle.std.proofs.lemmas.List.{length_push}
use Rattle.atomic_table.specs.declared.shared.Seat.{Seat}
use Rattle.atomic_table.specs.Table.{Me, Splits}
use Rattle.keybits.specs.declared.shape.Shape.{Shape}
use Rattle.poolsteps.specs.Share.{Share}
use Rattle.poolsteps.specs.declared.grid.Grid.{Grid}
use Rattle.poolsteps.specs.declared.view.View.{View}
use Rattle.poolsteps.specs.Rule.{Kept, first_records, first_view}
use Rattle.poolsteps.specs.Seats.{without_first, first_alone}
use Rattle.poolsteps.specs.Grids.{IsOf, SameSeat, IsFirstHand, AreFirstHands, IsUndealt}
use Rattle.poolsteps.proofs.ViewLemmas.{times-split, in-first, in-others, entry-of}
use Rattle.poolsteps.proofs.Joints.{cut}

-- the first lane of a seat
pub dealt : {T : Type 0} (content : T → List ℕ) (room : T → ℕ) (spots : ℕ → CellSpot) (z : Shape) (id : ℕ) (v : View)
    → Splits (Kept content room spots z) id v (without_first v) (first_alone v)
dealt content room spots z id v = cut content room spots z id v (without_first v) (first_alone v)
    record { inside = λ r among. in-others r v.lanes among; seen = refl; rooms = refl; told = inl refl }
    record { inside = λ r among. in-first r v.lanes among; seen = refl; rooms = refl; told = inr refl }
    (λ lane. times-split lane v.lanes)

-- ---- all lanes are dealt out

-- the view of a seat that has so many lanes from this one on, before their first steps
abbrev first_lanes_view : ℕ → ℕ → View
first_lanes_view from count = record { lanes = first_records from count; seen = []; rooms = []; told = []; steps = 0; looks = 0 }

-- a seat of a table of slots for shares
abbrev Hand : Type 0 → Type 0
Hand T = Seat (Option (Share T)) View

module _ {T : Type 0} (grid : Grid T) where
  -- these are the hands of the first lanes of the grid, so many, and the seat has the other lanes
  pub record AreDealt (dealt : ℕ) (seat : Hand T) (hands : List (Hand T)) : Type 0 where
    pub seat_of : IsOf grid seat
    pub more : ℕ
    pub all : dealt + more ≡ (callers grid.shape)
    pub rest : seat.me ≡ (first_lanes_view dealt more, [])
    pub count : length hands ≡ dealt
    pub each : (lane : ℕ) (hand : Hand T) → slice_get hands lane ≡ Some hand → IsFirstHand grid lane hand

  -- the seat has all lanes
  pub none-dealt : (seat : Hand T) (hands : List (Hand T)) → IsOf grid seat → seat.me ≡ (first_view grid.shape, []) → hands ≡ [] → AreDealt 0 seat hands
  none-dealt seat hands of me empty = record {
    seat_of = of;
    more = (callers grid.shape);
    all = omega arith;
    rest = me;
    count = ap length empty;
    each = λ lane hand is. let nowhere : None ≡ Some hand = ap (λ (list : List (Hand T)). slice_get list lane) (sym empty) ∙ is in absurd (cc nowhere);
  }

  -- one lane more is dealt out of the seat
  pub one-dealt : (dealt : ℕ) (before after hand : Hand T) (hands more : List (Hand T)) → AreDealt dealt before hands → dealt < (callers grid.shape)
      → IsOf grid hand → hand.me ≡ (first_alone before.me.0, []) → SameSeat before after → after.me ≡ (without_first before.me.0, before.me.1)
      → more ≡ hands ++ hand ∷ [] → AreDealt (dealt + 1) after more
  one-dealt dealt before after hand hands more are less of me same left longer = next are.more are.all are.rest
    where
      next : (rest : ℕ) → dealt + rest ≡ (callers grid.shape) → before.me ≡ (first_lanes_view dealt rest, []) → AreDealt (dealt + 1) after more
      next zero all had = absurd (omega arith)
      next (suc rest) all had = record {
        seat_of = same.0 ∙ are.seat_of;
        more = rest;
        all = omega arith;
        rest = left ∙ ap (λ (m : Me (Option (Share T)) View). (without_first m.0, m.1)) had;
        count = ap length longer ∙ (length_push hands hand ∙ ap (λ (n : ℕ). n + 1) are.count);
        each = λ lane entry is. ⊎_elim
            (λ (old : slice_get hands lane ≡ Some entry). are.each lane entry old)
            (λ (new : (lane ≡ length hands) × (hand ≡ entry)).
            subst (λ (at : ℕ × Hand T). IsFirstHand grid at.0 at.1) (λ i. (sym (new.0 ∙ are.count) i, new.1 i))
            (of, me ∙ ap (λ (m : Me (Option (Share T)) View). (first_alone m.0, [])) had))
            (entry-of hands hand entry lane (ap (λ (list : List (Hand T)). slice_get list lane) (sym longer) ∙ is));
      }

  -- the lanes are, and the seat has the guests
  pub all-dealt : (dealt : ℕ) (seat : Hand T) (hands : List (Hand T)) → AreDealt dealt seat hands → dealt ≡ grid.shape.lanes
      → AreFirstHands grid hands × IsUndealt grid grid.shape.lanes grid.shape.guests seat
  all-dealt dealt seat hands are end =
      let all = are.all in
      let rest : are.more ≡ grid.shape.guests = omega (arith, all, end) in (
        record { count = are.count ∙ end; each = are.each },
        (are.seat_of, are.rest ∙ (λ i. (first_lanes_view (end i) (rest i), []))),
      )
