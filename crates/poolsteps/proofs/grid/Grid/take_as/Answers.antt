use Rattle.poolsteps.specs.Layout.{spots_at}
use Rattle.std.proofs.Common.{subst, ◌<◌, ◌≡◌, ◌≢◌, ℕ, true, ap, sym, ◌∙◌}
use Rattle.std.specs.Cmp.Derive.{both_true}
use Rattle.std.proofs.lemmas.Bool.{lt-ltb}
use Rattle.keybits.specs.declared.shape.Shape.{Shape}
use Rattle.keybits.specs.declared.step.Word.TheVariants.{Stack}
use Rattle.poolsteps.specs.Layout.{has_word, index_in}
use Rattle.poolsteps.specs.Views.{the_lane}
use Rattle.poolsteps.specs.Returned.{Takes}
use Rattle.poolsteps.proofs.Making.{word-allows}
use Rattle.poolsteps.proofs.Taking.{take-makes}
use Rattle.poolsteps.proofs.grid.Grid.take_as.Goals as goal

pub swap-requires : goal.swap-requires
swap-requires g c =
    let content = g.T.Clear.content in
    let room = g.T.Clear.room in
    let spots = spots_at c.args.self.now.objects.ptr c.args.self.now.shape in
    let grid = c.args.self.now in
    let z : Shape = grid.shape in
    let hand = c.args.hand.now in
    let from : ℕ = c.args.from in
    let asked = c.requires in
    let lane : ℕ = (the_lane hand.me.0).lane in
    let own : c.args.lane ≡ lane = asked.lane.0 in
    let word : c.stack_of-word.result ≡ index_in z (Stack lane from) = c.stack_of-word.ensures.word ∙ ap (λ (l : ℕ). index_in z (Stack l from)) own in
    let inside : has_word z (Stack lane from) ≡ true = both_true (rw (sym own) (lt-ltb c.args.lane z.lanes asked.lane.1)) (lt-ltb from z.lanes asked.from.0) in
    let apart : from ≢ lane = λ same. asked.from.1 (same ∙ sym own) in (
      asked.hand.0,
      rw (grid.sized) c.stack_of-word.ensures.inside,
      rw (asked.aim.0, asked.aim.1, word, grid.board_is)
          (word-allows content room spots z grid.table.shared.table_id.slots hand.id hand.me asked.hand.1 (Stack lane from) inside (λ n. 0) (Takes z from hand.me)
          (λ words w slots point at below. take-makes content room spots z words w slots point hand.me from at (subst (λ (n : ℕ). n < z.lanes) own asked.lane.1) asked.from.0 apart)),
    )

pub stack_of-word-requires : goal.stack_of-word-requires
stack_of-word-requires g c = record { lanes = (c.requires.lane.1, c.requires.from.0) }

pub returns-clause-hand : goal.returns-clause-hand
returns-clause-hand g c = (c.swap.ensures.0, c.swap.ensures.1)

pub returns-clause-takes : goal.returns-clause-takes
returns-clause-takes g c = rw (c.requires.aim.0, c.requires.aim.1) at c.swap.ensures.2
