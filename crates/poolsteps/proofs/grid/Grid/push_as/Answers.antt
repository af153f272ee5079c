use Rattle.poolsteps.specs.Layout.{spots_at}
use Rattle.std.proofs.Common.{◌≡◌, ◌==◌, ℕ, ◌<◌, true, ap, ◌∙◌, subst}
use prog.Atomic.{either}
use Rattle.keybits.specs.declared.shape.Shape.{Shape}
use Rattle.keybits.specs.declared.step.Word.{Word}
use Rattle.keybits.specs.declared.step.Word.TheVariants.{Stack}
use Rattle.keybits.specs.Places.{shard_of}
use Rattle.keybits.specs.Links.{link_to}
use Rattle.keybits.proofs.ShapeLemmas.{is_place-parts}
use Rattle.poolsteps.specs.Layout.{index_in, has_word}
use Rattle.poolsteps.specs.Views.{the_lane}
use Rattle.poolsteps.specs.Returned.{Pushes}
use Rattle.poolsteps.proofs.LayoutLemmas.{index-below}
use Rattle.poolsteps.proofs.Making.{word-allows}
use Rattle.poolsteps.proofs.Pushing.{has-stack, push-makes}
use Rattle.poolsteps.proofs.grid.Grid.push_as.Goals as goal

pub compare_exchange-requires : goal.compare_exchange-requires
compare_exchange-requires g c =
    let content = g.T.Clear.content in
    let room = g.T.Clear.room in
    let spots = spots_at c.args.self.now.objects.ptr c.args.self.now.shape in
    let grid = c.args.self.now in
    let z : Shape = grid.shape in
    let me = c.args.hand.now.me in
    let place : ℕ = c.args.spot.place in
    let lane : ℕ = (the_lane me.0).lane in
    let top : ℕ = c.args.top in
    let asked = c.requires in
    let stack : Word = Stack (shard_of place) lane in
    let inside : has_word z stack ≡ true = has-stack z place lane asked.spot.inside (subst (λ (n : ℕ). n < z.lanes) asked.lane.0 asked.lane.1) in
    let index : c.stack_of-word.result ≡ index_in z stack = c.stack_of-word.ensures.word
    ∙ (ap (λ (shard : ℕ). index_in z (Stack shard c.args.lane)) c.shard_of.ensures ∙ ap (λ (n : ℕ). index_in z (Stack (shard_of place) n)) asked.lane.0) in (
      asked.hand.0,
      rw (index, grid.sized) (index-below z grid.checked stack inside),
      rw (asked.aim, index, c.link_to.ensures.word, grid.board_is)
          (word-allows content room spots z grid.table.shared.table_id.slots c.args.hand.now.id me asked.hand.1 stack inside
          (λ word. either (word == top) (link_to place) word) (Pushes z top me)
          (λ words w slots point at small. push-makes content room spots z words w slots point me at top (subst (λ (n : ℕ). n < z.lanes) asked.lane.0 asked.lane.1) place asked.returns asked.aims asked.rests)),
    )

pub stack_of-word-requires : goal.stack_of-word-requires
stack_of-word-requires g c = record { lanes = (rw c.shard_of.ensures (is_place-parts c.args.self.now.shape c.args.spot.place c.requires.spot.inside).0, c.requires.lane.1) }

pub returns-clause-hand : goal.returns-clause-hand
returns-clause-hand g c = (c.compare_exchange.ensures.0, c.compare_exchange.ensures.1)

pub returns-clause-pushes : goal.returns-clause-pushes
returns-clause-pushes g c = rw c.requires.aim at c.compare_exchange.ensures.2
