-- The slot is one of the page opened last.
use Rattle.std.proofs.Common.{ℕ, ◌+◌, ◌-◌, ◌<◌, ◌∷◌, refl, ap, sym, ◌∙◌, arith}
use Rattle.keybits.specs.Shapes.{page_size}
use Rattle.keybits.proofs.ShapeLemmas.{page_size-le}
use Rattle.coresteps.specs.OwnLists.{unused_places}
use Rattle.coresteps.proofs.OwnLemmas.{unused_next}
use Rattle.coresteps.proofs.own.OwnList.take_unused.Goals as goal

pub place_number-place-requires-clause-slot : goal.place_number-place-requires-clause-slot
place_number-place-requires-clause-slot c =
    let few = page_size-le c.args.shape.now (c.args.self.now.opened - 1) in omega arith

pub returns : goal.returns
returns c =
    let own = c.args.self.now in
    let less : own.unused < page_size c.args.shape.now (own.opened - 1) = omega arith in
    record {
      place = (
        unused_next c.args.shape.now c.args.lane own.opened own.unused c.if-self-eq0.false less
            ∙ ap (λ (p : ℕ). p ∷ unused_places c.args.shape.now c.args.lane own.opened (own.unused + 1)) (sym c.place_number-place.ensures),
        refl,
      );
    }
