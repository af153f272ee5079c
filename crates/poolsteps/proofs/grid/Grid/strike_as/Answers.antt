use Rattle.poolsteps.specs.Layout.{spots_at}
use Rattle.std.proofs.Common.{ℕ}
use Rattle.keybits.specs.declared.shape.Shape.{Shape}
use Rattle.keybits.specs.declared.step.Word.TheVariants.{Life}
use Rattle.keybits.specs.Keys.{place_of}
use Rattle.poolsteps.proofs.LayoutLemmas.{index-below}
use Rattle.poolsteps.proofs.PageLemmas.{life-at}
use Rattle.poolsteps.proofs.AtOnce.{strike-allows, struck}
use Rattle.poolsteps.proofs.grid.Grid.strike_as.Goals as goal

pub compare_exchange-requires : goal.compare_exchange-requires
compare_exchange-requires g c =
    let spots = spots_at c.args.self.now.objects.ptr c.args.self.now.shape in
    let grid = c.args.self.now in
    let z : Shape = grid.shape in
    let hand = c.args.hand.now in
    let key : ℕ = c.args.key in
    let asked = c.requires in (
      asked.hand.0,
      rw (life-at asked.spot, grid.sized) (index-below z grid.checked (Life (place_of key)) asked.spot.inside),
      rw (asked.aim.0, asked.aim.1, life-at asked.spot, grid.board_is, struck key c.args.expected asked.hit c.ranges.expected.fits)
          (strike-allows g.T.Clear.content g.T.Clear.room spots z grid.table.shared.table_id.slots hand.id hand.me asked.hand.1 key asked.key asked.idle c.args.expected asked.hit),
    )

pub returns-clause-strikes : goal.returns-clause-strikes
returns-clause-strikes g c = rw (c.requires.aim.0, c.requires.aim.1) at c.compare_exchange.ensures.2
