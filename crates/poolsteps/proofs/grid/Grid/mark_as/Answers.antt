use Rattle.poolsteps.specs.Layout.{spots_at}
use Rattle.std.proofs.Common.{ℕ, bit_or}
use Rattle.keybits.specs.declared.shape.Shape.{Shape}
use Rattle.keybits.specs.declared.step.Word.TheVariants.{Life}
use Rattle.keybits.specs.Keys.{place_of}
use Rattle.poolsteps.specs.Told.{Marks}
use Rattle.poolsteps.proofs.LayoutLemmas.{index-below}
use Rattle.poolsteps.proofs.PageLemmas.{life-at}
use Rattle.poolsteps.proofs.Making.{life-allows}
use Rattle.poolsteps.proofs.Marking.{mark-makes}
use Rattle.poolsteps.proofs.grid.Grid.mark_as.Goals as goal

pub fetch_or-requires : goal.fetch_or-requires
fetch_or-requires g c =
    let content = g.T.Clear.content in
    let room = g.T.Clear.room in
    let spots = spots_at c.args.self.now.objects.ptr c.args.self.now.shape in
    let grid = c.args.self.now in
    let z : Shape = grid.shape in
    let me = c.args.hand.now.me in
    let key : ℕ = c.args.key in
    let spot = c.requires.spot in
    let aim = c.requires.aim in (
      c.requires.hand.0,
      rw (life-at spot, grid.sized) (index-below z grid.checked (Life (place_of key)) spot.inside),
      rw (aim.0, aim.1, life-at spot, grid.board_is)
          (life-allows content room spots z grid.table.shared.table_id.slots c.args.hand.now.id me c.requires.hand.1 (place_of key) spot.inside
          (λ word. bit_or word 2) (Marks z key me)
          (λ words w slots point at small. mark-makes content room spots z words w slots point me key at c.requires.under)),
    )
