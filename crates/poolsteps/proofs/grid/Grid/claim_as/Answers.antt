use Rattle.poolsteps.specs.Layout.{spots_at}
use Rattle.std.proofs.Common.{◌≡◌, ◌==◌, ℕ, subst}
use prog.Atomic.{either}
use Rattle.keybits.specs.declared.shape.Shape.{Shape}
use Rattle.keybits.specs.declared.step.Word.TheVariants.{Life}
use Rattle.keybits.specs.Words.{claimable}
use Rattle.steplaws.specs.declared.pending.Pending.{Pending}
use Rattle.poolsteps.specs.Told.{Claims, place_owed, generation_owed}
use Rattle.poolsteps.proofs.LayoutLemmas.{index-below}
use Rattle.poolsteps.proofs.PageLemmas.{life-at}
use Rattle.poolsteps.proofs.Making.{life-allows}
use Rattle.poolsteps.proofs.Claiming.{claim-given, claim-makes}
use Rattle.poolsteps.proofs.grid.Grid.claim_as.Goals as goal

pub compare_exchange-requires : goal.compare_exchange-requires
compare_exchange-requires g c =
    let content = g.T.Clear.content in
    let room = g.T.Clear.room in
    let spots = spots_at c.args.self.now.objects.ptr c.args.self.now.shape in
    let grid = c.args.self.now in
    let z : Shape = grid.shape in
    let hand = c.args.hand.now in
    let place : ℕ = c.args.spot.place in
    let generation : ℕ = c.args.generation in
    let new : ℕ = c.claimed-new.result in
    let asked = c.requires in
    let old : c.claimable-old.result ≡ claimable generation = c.claimable-old.ensures in (
      asked.hand.0,
      rw (life-at asked.spot, grid.sized) (index-below z grid.checked (Life place) asked.spot.inside),
      rw (asked.aim, life-at asked.spot, old, asked.owes, grid.board_is)
          (life-allows content room spots z grid.table.shared.table_id.slots hand.id hand.me asked.hand.1 place asked.spot.inside
          (λ word. either (word == claimable generation) new word) (Claims z place generation hand.me)
          (λ words w slots point at small. claim-makes content room spots z words w slots point hand.me place generation new at asked.spot.inside asked.owes
          (claim-given z.last_generation generation c.claimable-old.result new old c.claimed-new.ensures.step))),
    )

pub returns-clause-hand : goal.returns-clause-hand
returns-clause-hand g c = (c.compare_exchange.ensures.0, c.compare_exchange.ensures.1)

pub returns-clause-claims : goal.returns-clause-claims
returns-clause-claims g c =
    let me = c.args.hand.now.me in
    let then = c.compare_exchange.new.seat.me in
    subst (λ (p : Pending). Claims c.args.self.now.shape (place_owed p) (generation_owed p) me c.compare_exchange.result then) c.requires.owes
    (rw c.requires.aim at c.compare_exchange.ensures.2)
