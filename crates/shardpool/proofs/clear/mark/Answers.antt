use Rattle.std.proofs.Common.{◌≡◌, inl, inr, sym, arith, eq-eqb}
use Rattle.keybits.specs.Words.{state_in}
use Rattle.shardpool.proofs.clear.mark.Goals as goal

-- the word that is expected is present, as the one that the ENTER found
pub returns-then-found-expected-clause-marks : goal.returns-then-found-expected-clause-marks
returns-then-found-expected-clause-marks g c =
    let same = c.if-found-expected.true in
    let present : state_in c.mark_from-found.result ≡ 1 = omega (arith, c.requires.present, same) in
    (c.mark_from-found.result, inl (c.mark_from-found.ensures.marks.0 same), sym (eq-eqb (state_in c.mark_from-found.result) 1 present))

pub returns-clause-marks : goal.returns-clause-marks
returns-clause-marks g c =
    (c.mark.result, inr (c.mark_from-found.new.hand.me, c.mark_from-found.ensures.marks.1 c.if-found-expected.false, c.mark.ensures.marks), c.is_present.ensures)
