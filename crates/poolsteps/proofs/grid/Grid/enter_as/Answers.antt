use Rattle.poolsteps.specs.Layout.{spots_at}
use Rattle.std.proofs.Common.{ℕ, ◌+◌, ◌%◌, ◌^◌}
use Rattle.keybits.specs.declared.shape.Shape.{Shape}
use Rattle.keybits.specs.declared.step.Word.TheVariants.{Life}
use Rattle.keybits.specs.Keys.{place_of}
use Rattle.poolsteps.specs.Told.{Enters}
use Rattle.poolsteps.proofs.LayoutLemmas.{index-below}
use Rattle.poolsteps.proofs.PageLemmas.{life-at}
use Rattle.poolsteps.proofs.Making.{life-allows}
use Rattle.poolsteps.proofs.Entering.{enter-makes}
use Rattle.poolsteps.proofs.grid.Grid.enter_as.Goals as goal

pub fetch_add-requires : goal.fetch_add-requires
fetch_add-requires g c =
    let content = g.T.Clear.content in
    let room = g.T.Clear.room in
    let spots = spots_at c.args.self.now.objects.ptr c.args.self.now.shape in
    let grid = c.args.self.now in
    let z : Shape = grid.shape in
    let hand = c.args.hand.now in
    let key : ℕ = c.args.key in
    let asked = c.requires in (
      asked.hand.0,
      rw (life-at asked.spot, grid.sized) (index-below z grid.checked (Life (place_of key)) asked.spot.inside),
      rw (asked.aim.0, asked.aim.1, asked.aim.2, life-at asked.spot, grid.board_is)
          (life-allows content room spots z grid.table.shared.table_id.slots hand.id hand.me asked.hand.1 (place_of key) asked.spot.inside
          (λ word. (word + 4) % 2 ^ 64) (Enters z c.args.purpose key hand.me)
          (λ words w slots point at below. enter-makes content room spots z words w slots point hand.me key at below asked.key asked.idle c.args.purpose asked.room)),
    )
