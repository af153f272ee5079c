-- Behind the hands stands that of the undealt, if there are any.
use Rattle.std.proofs.Common.{◌≡◌, ℕ, [], ◌∷◌, Some, sym, ◌∙◌, subst, append-nil}
use Rattle.keybits.specs.Shapes.{callers}
use Rattle.shardpool.specs.Tokens.{GuestsOf}
use Rattle.shardpool.specs.Opened.{HasUndealt}
use Rattle.shardpool.proofs.at_close.GuestHands.{none-undealt, all-undealt}
use Rattle.shardpool.proofs.closing.with_undealt.Goals as goal
use Rattle.shardpool.proofs.closing.with_undealt.Goals.{in-Some, in_default}

pub returns : goal.returns
returns g c =
    let dealer = c.guests.inside in
    let grid = dealer.grid.value in
    let view = c.guests.view_is in
    elim c.match-hand.branch [
      | in-Some w ↦ (
        w.in-Some.hand ∷ [],
        (λ i. (w.hands-is i).items) ∙ w.push_reserved.ensures.items,
        all-undealt grid c.args.guests w.in-Some.hand (λ i. (sym view i).table) (λ i. (sym view i).shape)
            (subst (λ (next : ℕ). HasUndealt grid next (Some w.in-Some.hand)) (λ i. (view i).next)
            (subst (HasUndealt grid dealer.next) w.in-Some.is c.guests.invariant.0)),
      )
      | in_default w ↦ (
        [],
        (λ i. (w.hands-is i).items) ∙ sym (append-nil c.args.hands.items),
        none-undealt c.args.guests
            (subst (λ (guests : GuestsOf). guests.next ≡ callers guests.shape) view
            (subst (HasUndealt grid dealer.next) w.in_default.is c.guests.invariant.0)),
      )
    ]
