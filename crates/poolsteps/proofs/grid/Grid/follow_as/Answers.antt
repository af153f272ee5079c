use Rattle.poolsteps.specs.Layout.{spots_at}
use Rattle.std.proofs.Common.{ℕ}
use Rattle.keybits.specs.declared.shape.Shape.{Shape}
use Rattle.keybits.specs.declared.step.Word.TheVariants.{Link}
use Rattle.poolsteps.specs.Returned.{Follows}
use Rattle.poolsteps.proofs.LayoutLemmas.{index-below}
use Rattle.poolsteps.proofs.Making.{word-allows}
use Rattle.poolsteps.proofs.Following.{follow-makes}
use Rattle.poolsteps.proofs.grid.Grid.follow_as.Goals as goal

pub load-requires : goal.load-requires
load-requires g c =
    let content = g.T.Clear.content in
    let room = g.T.Clear.room in
    let spots = spots_at c.args.self.now.objects.ptr c.args.self.now.shape in
    let grid = c.args.self.now in
    let z : Shape = grid.shape in
    let hand = c.args.hand.now in
    let place : ℕ = c.args.spot.place in
    let asked = c.requires in
    let spot = asked.spot in (
      asked.hand.0,
      rw (c.link_of.ensures, grid.sized) (index-below z grid.checked (Link place) spot.inside),
      rw (asked.aim, c.link_of.ensures, grid.board_is)
          (word-allows content room spots z grid.table.shared.table_id.slots hand.id hand.me asked.hand.1 (Link place) spot.inside (λ n. n) (Follows z hand.me)
          (λ words w slots point at below. follow-makes content room spots z words w slots point hand.me place at asked.lane asked.chain)),
    )
