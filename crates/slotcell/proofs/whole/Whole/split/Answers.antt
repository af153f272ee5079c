use Rattle.std.proofs.Common.{◌≡◌, ◌+◌, [], ◌∷◌, ◌++◌, length, Some, sym, ap, ◌∙◌, arith}
use Rattle.slotcell.specs.Parts.{shown_by}
use Rattle.slotcell.specs.Share.{share_of, shares_below}
use Rattle.slotcell.proofs.ShareLemmas.{shares_below-length, shares_below-more}
use Rattle.slotcell.proofs.whole.Whole.split.Goals as goal

pub loop-init : goal.loop-init
loop-init g c = let lent = c.lend-portion.ensures in ((λ i. record c.lend-portion.result { parts = lent.1 i; number = lent.3 i }), c.new-shares.ensures)

pub push-requires : goal.push-requires
push-requires g c = let many = ap length c.loop.invariant.1 ∙ shares_below-length _ _ _ c.loop.counter in (omega arith, omega arith)

pub push-requires-2 : goal.push-requires-2
push-requires-2 g c = let many = ap length c.loop.invariant.1 ∙ shares_below-length _ _ _ c.loop.counter in (omega arith, omega arith)

pub returns : goal.returns
returns g c = let cell = c.lend-portion.result.cell in let n = c.args.n in let x = c.args.self in let i = c.loop.counter in let h = c.loop.invariant in let lent = c.lend-portion.ensures in
    let at : i + 1 ≡ n = omega arith in let object : c.lend-portion.result.object ≡ x = lent.0 ∙ (c.from_box.ensures ∙ c.self.view_is) in
    let last = c.from_portion-2.ensures ∙ (ap shown_by h.0 ∙ (λ j. share_of cell (lent.4 j) (object j) i)) in
    (cell, c.push-2.ensures.items ∙ ((λ j. h.1 j ++ Some (last j) ∷ []) ∙ (sym (shares_below-more cell n x i) ∙ ap (shares_below cell n x) at)))
