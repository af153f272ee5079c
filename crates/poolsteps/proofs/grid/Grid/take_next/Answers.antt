use Rattle.std.proofs.Common.{◌≡◌, ◌∙◌, IsSome, Some, refl, ap, sym, subst}
use Rattle.poolsteps.proofs.Carrying.{first_value}
use Rattle.poolsteps.proofs.grid.Grid.take_next.Goals as goal

pub slot_in-slot-requires : goal.slot_in-slot-requires
slot_in-slot-requires g c = record { row = c.requires.row; spot = c.requires.spot; number = c.requires.number }

pub exchange-requires : goal.exchange-requires
exchange-requires g c = rw c.slot_in-slot.ensures (c.requires.hand, (Some c.requires.held.0, c.requires.held.1))

pub into_share-share-requires : goal.into_share-share-requires
into_share-share-requires g c =
    let same : Some c.requires.held.0 ≡ c.exchange.result = sym (ap first_value c.requires.held.1) ∙ ap first_value c.exchange.ensures.2 in
    subst (λ found. IsSome found) same refl
