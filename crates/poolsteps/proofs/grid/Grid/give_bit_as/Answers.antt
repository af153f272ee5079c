use Rattle.std.proofs.Common.{◌≡◌, ℕ, ◌+◌, ◌%◌, ◌^◌, ap, ◌∙◌, arith}
use Rattle.keybits.specs.declared.shape.Shape.{Shape}
use Rattle.keybits.specs.Places.{shard_of}
use Rattle.keybits.proofs.ShapeLemmas.{is_place-parts}
use Rattle.steplaws.specs.StepLaws.{row_of, bit_of}
use Rattle.poolsteps.specs.Layout.{bits_index, spots_at}
use Rattle.poolsteps.specs.Returned.{GivesBit}
use Rattle.poolsteps.proofs.Making.{bits-allows}
use Rattle.poolsteps.proofs.BitSteps.{has-row-of, return-makes}
use Rattle.poolsteps.proofs.grid.Grid.give_bit_as.Goals as goal

pub fetch_add-requires : goal.fetch_add-requires
fetch_add-requires g c =
    let content = g.T.Clear.content in
    let room = g.T.Clear.room in
    let spots = spots_at c.args.self.now.objects.ptr c.args.self.now.shape in
    let grid = c.args.self.now in
    let z : Shape = grid.shape in
    let hand = c.args.hand.now in
    let place : ℕ = c.args.spot.place in
    let asked = c.requires in
    let word : c.bits_of-word.result ≡ bits_index z (shard_of place) (row_of place) =
    c.bits_of-word.ensures.word ∙ ap (λ (s : ℕ). bits_index z s (row_of place)) c.shard_of.ensures in (
      asked.hand.0,
      rw (grid.sized) c.bits_of-word.ensures.inside,
      rw (asked.aim, word, c.bit_value.ensures, grid.board_is)
          (bits-allows content room spots z grid.table.shared.table_id.slots hand.id hand.me asked.hand.1 (shard_of place) (row_of place) (has-row-of z place asked.spot.inside)
          (λ n. (n + 2 ^ bit_of place) % 2 ^ 64) (GivesBit z hand.me)
          (λ words w slots point at below. return-makes content room spots z words w slots point hand.me at place asked.returns asked.guest asked.rests)),
    )

pub bits_of-word-requires : goal.bits_of-word-requires
bits_of-word-requires g c =
    let parts = is_place-parts c.args.self.now.shape c.args.spot.place c.requires.spot.inside in
    let shard = c.shard_of.ensures in
    let low = parts.0 in
    let page = parts.1 in
    record { row = (omega (arith, low, shard), omega (arith, page)) }

pub returns-clause-hand : goal.returns-clause-hand
returns-clause-hand g c = (c.fetch_add.ensures.0, c.fetch_add.ensures.1)

pub returns-clause-gives : goal.returns-clause-gives
returns-clause-gives g c = rw (c.requires.aim) at c.fetch_add.ensures.2
