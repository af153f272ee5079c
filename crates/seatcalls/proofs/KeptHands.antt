-- The machine value of a kept hand.
use Rattle.std.proofs.Common.{◌≡◌, List, [], ◌∷◌, ◌++◌, ap, ◌∙◌}
use mir.Val.{Val, vstruct, vcons, vnil, of_list}
use denote.RattleType.{RattleType}
use denote.Laws.{Is}
use Rattle.atomic_table.proofs.Fields.{token_val, token_told}
use Rattle.atomic_table.specs.contracts.shared.Seat as seat
use Rattle.poolsteps.specs.contracts.cells.Slot as slot
use Rattle.poolsteps.specs.contracts.view.View as view
use Rattle.seatcalls.specs.contracts.kept_hand.KeptHand as kept

abbrev pub kept_val : Val
kept_val = vstruct (vcons token_val vnil)

module _ (R : RattleType) where
  -- the hand's own type
  abbrev pub Seated : RattleType
  Seated = seat.the_row (slot.the_row R) view.the_row

  pub seat_told : (d : Seated.Denot) (vs : List Val) → Is Seated d vs → vs ≡ token_val ∷ []
  seat_told d vs so = token_told (slot.the_row R) view.the_row vs so.0

  pub kept_told : (d : (kept.the_row R).Denot) (vs : List Val) → Is (kept.the_row R) d vs → vs ≡ kept_val ∷ []
  kept_told d vs so = let is = so.0 in is.1.0 ∙ ap (λ (ws : List Val). vstruct (of_list (ws ++ [])) ∷ []) (seat_told d.hand is.0.0 is.1.1.0)
