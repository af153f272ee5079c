use Rattle.poolsteps.specs.Layout.{spots_at}
use Rattle.std.proofs.Common.{◌≡◌, ℕ, ◌+◌, ◌%◌, ◌^◌, Bool, ap, sym, ◌∙◌, if◌then◌else◌}
use Rattle.keybits.specs.declared.shape.Shape.{Shape}
use Rattle.keybits.specs.declared.step.Word.TheVariants.{Life}
use Rattle.keybits.specs.Keys.{place_of}
use Rattle.poolsteps.specs.Told.{Publishes}
use Rattle.poolsteps.proofs.LayoutLemmas.{index-below}
use Rattle.poolsteps.proofs.PageLemmas.{life-at}
use Rattle.poolsteps.proofs.Making.{life-allows}
use Rattle.poolsteps.proofs.Publishing.{publish-makes}
use Rattle.poolsteps.proofs.grid.Grid.publish_as.Goals.{then-with_ref, else-with_ref}
use Rattle.poolsteps.proofs.grid.Grid.publish_as.Goals as goal

pub fetch_add-requires : goal.fetch_add-requires
fetch_add-requires g c =
    let content = g.T.Clear.content in
    let room = g.T.Clear.room in
    let spots = spots_at c.args.self.now.objects.ptr c.args.self.now.shape in
    let grid = c.args.self.now in
    let z : Shape = grid.shape in
    let hand = c.args.hand.now in
    let key : ℕ = c.args.key in
    let with_ref : Bool = c.args.with_ref in
    let stored = g.J.Aim.stored in
    let asked = c.requires in
    let more : Bool → ℕ = λ b. if b then 5 else 1 in
    let added : c.if-with_ref.added ≡ more with_ref = elim c.if-with_ref.branch [
      | then-with_ref w ↦ w.added-is ∙ ap more (sym w.if-with_ref.true)
      | else-with_ref w ↦ w.added-is ∙ ap more (sym w.if-with_ref.false)
    ] in (
      asked.hand.0,
      rw (life-at asked.spot, grid.sized) (index-below z grid.checked (Life (place_of key)) asked.spot.inside),
      rw (asked.aim.0, asked.aim.1, asked.aim.2, life-at asked.spot, added, grid.board_is)
          (life-allows content room spots z grid.table.shared.table_id.slots hand.id hand.me asked.hand.1 (place_of key) asked.spot.inside
          (λ word. (word + more with_ref) % 2 ^ 64) (Publishes z key stored with_ref hand.me)
          (λ words w slots point at small. publish-makes content room spots z words w slots point hand.me key stored with_ref at asked.spot.inside asked.may asked.shares asked.cell small)),
    )
