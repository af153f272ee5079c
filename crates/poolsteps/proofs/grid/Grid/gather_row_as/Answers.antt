use Rattle.std.proofs.Common.{◌≡◌, ℕ, true, ap, ◌∙◌, ◌<◌, subst}
use Rattle.std.proofs.lemmas.Bool.{and_from, lt-ltb}
use Rattle.keybits.specs.declared.shape.Shape.{Shape}
use Rattle.poolsteps.specs.Layout.{bits_index, has_row, row_count, spots_at}
use Rattle.poolsteps.specs.Views.{the_lane}
use Rattle.poolsteps.specs.Returned.{EmptiesRow}
use Rattle.poolsteps.proofs.Making.{bits-allows}
use Rattle.poolsteps.proofs.BitSteps.{gather-makes}
use Rattle.poolsteps.proofs.grid.Grid.gather_row_as.Goals as goal

pub swap-requires : goal.swap-requires
swap-requires g c =
    let content = g.T.Clear.content in
    let room = g.T.Clear.room in
    let spots = spots_at c.args.self.now.objects.ptr c.args.self.now.shape in
    let grid = c.args.self.now in
    let z : Shape = grid.shape in
    let hand = c.args.hand.now in
    let row : ℕ = c.args.row in
    let asked = c.requires in
    let lane : ℕ = (the_lane hand.me.0).lane in
    let own : c.args.lane ≡ lane = asked.lane.0 in
    let below : lane < z.lanes = subst (λ (l : ℕ). l < z.lanes) own asked.lane.1 in
    let word : c.bits_of-word.result ≡ bits_index z lane row = c.bits_of-word.ensures.word ∙ ap (λ (l : ℕ). bits_index z l row) own in
    let inside : has_row z lane row ≡ true = and_from _ _ (lt-ltb lane z.lanes below) (lt-ltb row (row_count z) asked.row) in (
      asked.hand.0,
      rw (grid.sized) c.bits_of-word.ensures.inside,
      rw (asked.aim.0, asked.aim.1, word, grid.board_is)
          (bits-allows content room spots z grid.table.shared.table_id.slots hand.id hand.me asked.hand.1 lane row inside (λ n. 0) (EmptiesRow z row hand.me)
          (λ words w slots point at small. gather-makes content room spots z words w slots point hand.me at row below)),
    )

pub bits_of-word-requires : goal.bits_of-word-requires
bits_of-word-requires g c = record { row = (c.requires.lane.1, c.requires.row) }

pub returns-clause-hand : goal.returns-clause-hand
returns-clause-hand g c = (c.swap.ensures.0, c.swap.ensures.1)

pub returns-clause-gathers : goal.returns-clause-gathers
returns-clause-gathers g c = rw (c.requires.aim.0, c.requires.aim.1) at c.swap.ensures.2
