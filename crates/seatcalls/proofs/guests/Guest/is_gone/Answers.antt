use Rattle.std.proofs.Common.{◌≡◌, ap, sym, ◌∙◌, subst}
use Rattle.keybits.specs.declared.shape.Shape.{Shape}
use Rattle.seatcalls.specs.Visitors.{GuestOf, IsFree}
use Rattle.seatcalls.proofs.parts.Visiting.{free-sees}
use Rattle.seatcalls.proofs.guests.Guest.is_gone.Goals as goal

pub invariant_of-self : goal.invariant_of-self
invariant_of-self g c =
    let z : Shape = c.args.grid.now.shape in
    let same : c.self.inside.shape.value ≡ z = ap (λ (x : GuestOf). x.shape) c.self.view_is ∙ c.requires.of.1 in
    let free = subst (λ (y : Shape). IsFree (record { table = c.self.inside.hand.table_id; shape = y; number = c.self.inside.number; book = c.self.inside.hand.me.0 })) same c.self.invariant.1 in (
      c.generation.ensures.sees.held ∙ c.self.invariant.0,
      subst (λ (y : Shape). IsFree (record { table = c.generation.new.hand.table_id; shape = y; number = c.self.inside.number; book = c.generation.new.hand.me.0 })) (sym same)
          (free-sees c.self.inside.hand.table_id c.generation.new.hand.table_id c.generation.ensures.sees free),
    )
