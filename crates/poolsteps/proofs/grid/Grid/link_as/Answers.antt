use Rattle.poolsteps.specs.Layout.{spots_at}
use Rattle.std.proofs.Common.{ℕ}
use Rattle.keybits.specs.declared.shape.Shape.{Shape}
use Rattle.keybits.specs.declared.step.Word.TheVariants.{Link}
use Rattle.poolsteps.specs.Returned.{Links}
use Rattle.poolsteps.proofs.LayoutLemmas.{index-below}
use Rattle.poolsteps.proofs.Making.{word-allows}
use Rattle.poolsteps.proofs.Linking.{link-makes}
use Rattle.poolsteps.proofs.grid.Grid.link_as.Goals as goal

pub store-requires : goal.store-requires
store-requires g c =
    let content = g.T.Clear.content in
    let room = g.T.Clear.room in
    let spots = spots_at c.args.self.now.objects.ptr c.args.self.now.shape in
    let grid = c.args.self.now in
    let z : Shape = grid.shape in
    let me = c.args.hand.now.me in
    let place : ℕ = c.args.spot.place in
    let top : ℕ = c.args.top in
    let asked = c.requires in (
      asked.hand.0,
      rw (c.link_of.ensures, grid.sized) (index-below z grid.checked (Link place) asked.spot.inside),
      rw (asked.aim, c.link_of.ensures, grid.board_is)
          (word-allows content room spots z grid.table.shared.table_id.slots c.args.hand.now.id me asked.hand.1 (Link place) asked.spot.inside (λ _. top) (λ _. Links z top me)
          (λ words w slots point at small. link-makes content room spots z words w slots point me at place top asked.returns.0 asked.returns.1)),
    )
