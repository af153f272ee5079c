use Rattle.poolsteps.specs.Layout.{spots_at}
use Rattle.std.proofs.Common.{◌≡◌, ◌-◌, ℕ, ap, ◌∙◌, arith}
use Rattle.keybits.specs.declared.shape.Shape.{Shape}
use Rattle.keybits.specs.declared.step.Word.TheVariants.{Life}
use Rattle.keybits.specs.Keys.{place_of, generation_of}
use Rattle.keybits.specs.Words.{claimable}
use Rattle.poolsteps.specs.AtOnce.{unpublished}
use Rattle.poolsteps.proofs.LayoutLemmas.{index-below}
use Rattle.poolsteps.proofs.PageLemmas.{life-at}
use Rattle.poolsteps.proofs.Claiming.{claim-given}
use Rattle.poolsteps.proofs.AtOnce.{withdraw-allows}
use Rattle.poolsteps.proofs.grid.Grid.withdraw_as.Goals as goal

pub compare_exchange-requires : goal.compare_exchange-requires
compare_exchange-requires g c =
    let spots = spots_at c.args.self.now.objects.ptr c.args.self.now.shape in
    let grid = c.args.self.now in
    let z : Shape = grid.shape in
    let hand = c.args.hand.now in
    let key : ℕ = c.args.key in
    let generation : ℕ = generation_of key in
    let new : ℕ = c.claimed.result in
    let asked = c.requires in
    let old : c.claimable-marked.result ≡ claimable generation = c.claimable-marked.ensures ∙ ap claimable c.generation_of.ensures in
    let first : c.claimable-marked.result - 2 - 1 ≡ unpublished generation = ap (λ (n : ℕ). n - 2 - 1) old ∙ omega arith in (
      asked.hand.0,
      rw (life-at asked.spot, grid.sized) (index-below z grid.checked (Life (place_of key)) asked.spot.inside),
      rw (asked.aim.0, asked.aim.1, life-at asked.spot, first, grid.board_is)
          (withdraw-allows g.T.Clear.content g.T.Clear.room spots z grid.table.shared.table_id.slots hand.id hand.me asked.hand.1 key asked.may asked.shares new
          (claim-given z.last_generation generation c.claimable-marked.result new old c.claimed.ensures.step)),
    )

pub returns-clause-withdraws : goal.returns-clause-withdraws
returns-clause-withdraws g c = rw (c.requires.aim.0, c.requires.aim.1) at c.compare_exchange.ensures.2
