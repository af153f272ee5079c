use Rattle.std.proofs.Common.{ℕ, ap, ◌∙◌, arith}
use Rattle.keybits.proofs.PlaceLemmas.{page_of-lt, slot_of-lt}
use Rattle.keybits.specs.Keys.{key_number}
use Rattle.shardpool.proofs.parts.Keying.{seen-low, look-may}
use Rattle.shardpool.proofs.create.next_key.Goals as goal

pub unreachable-requires : goal.unreachable-requires
unreachable-requires g c =
    let place = c.of_number-place.ensures in
    let page = page_of-lt c.args.spot.place in
    let slot = slot_of-lt c.args.spot.place in
    let seen = seen-low c.args.grid.now.shape c.generation-generation.new.hand.me.0 c.args.spot.place c.generation-generation.ensures.sees.goes.legal in
    let is = c.generation-generation.ensures.generation in
    let at = place.page in
    let there = place.slot in
    let bad = c.in-None.ensures.some.1 (omega arith, omega arith, omega arith) in cc bad

pub returns-clause-may : goal.returns-clause-may
returns-clause-may g c =
    look-may c.generation-generation.ensures.sees c.args.grid.now.checked c.args.spot.place c.generation-generation.result c.number.result c.requires.spot.inside
    c.generation-generation.ensures.generation c.generation-generation.type_inv
    (c.number.ensures.number ∙ (c.in-Some.ensures.number ∙ ap (λ (p : ℕ). key_number c.args.grid.now.shape.tag p c.generation-generation.result) c.of_number-place.ensures.numbered))
    c.requires.idle c.requires.own c.requires.place c.requires.unchained
