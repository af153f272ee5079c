use Rattle.poolsteps.specs.Layout.{spots_at}
use Rattle.std.proofs.Common.{ℕ, ◌+◌, ◌-◌, ◌%◌, ◌^◌}
use Rattle.keybits.specs.declared.shape.Shape.{Shape}
use Rattle.keybits.specs.declared.step.Word.TheVariants.{Life}
use Rattle.keybits.specs.Keys.{place_of}
use Rattle.poolsteps.specs.Told.{Leaves}
use Rattle.poolsteps.proofs.LayoutLemmas.{index-below}
use Rattle.poolsteps.proofs.PageLemmas.{life-at}
use Rattle.poolsteps.proofs.Making.{life-allows}
use Rattle.poolsteps.proofs.Leaving.{leave-makes}
use Rattle.poolsteps.proofs.grid.Grid.leave_as.Goals as goal

pub fetch_sub-requires : goal.fetch_sub-requires
fetch_sub-requires g c =
    let content = g.T.Clear.content in
    let room = g.T.Clear.room in
    let spots = spots_at c.args.self.now.objects.ptr c.args.self.now.shape in
    let grid = c.args.self.now in
    let z : Shape = grid.shape in
    let hand = c.args.hand.now in
    let key : ℕ = c.args.key in
    let asked = c.requires in (
      asked.hand.0,
      rw (life-at asked.spot, grid.sized) (index-below z grid.checked (Life (place_of key)) asked.spot.inside),
      rw (asked.aim.0, asked.aim.1, life-at asked.spot, grid.board_is)
          (life-allows content room spots z grid.table.shared.table_id.slots hand.id hand.me asked.hand.1 (place_of key) asked.spot.inside
          (λ word. (word + (2 ^ 64 - 4)) % 2 ^ 64) (Leaves z key hand.me)
          (λ words w slots point at below. leave-makes content room spots z words w slots point hand.me key at below asked.spot.inside asked.may)),
    )

pub returns-clause-hand : goal.returns-clause-hand
returns-clause-hand g c = (c.fetch_sub.ensures.0, c.fetch_sub.ensures.1)

pub returns-clause-leaves : goal.returns-clause-leaves
returns-clause-leaves g c = rw (c.requires.aim.0, c.requires.aim.1) at c.fetch_sub.ensures.2
