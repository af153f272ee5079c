use Rattle.std.proofs.Common.{◌++◌, ◌∷◌, [], Some, length, length-append, sym, ap, ◌∙◌, arith}
use Rattle.slotcell.proofs.ShareLemmas.{all_some, all_not_empty}
use Rattle.slotcell.proofs.Merging.{left_some, merges_first, next_cell, next_fits, merges_next, merged_all, all_show}
use Rattle.slotcell.proofs.whole.join.Goals as goal

pub take_last-requires : goal.take_last-requires
take_last-requires g c = let xs = c.args.shares.items in (omega arith, (all_not_empty xs c.requires, all_some xs c.requires))

pub loop-init : goal.loop-init
loop-init g c = let xs = c.args.shares.items in let front = c.take_last.new.shares.items in let e = c.into_portion-all.ensures in
    let is = c.take_last.ensures ∙ (λ i. front ++ Some (sym e.share i) ∷ []) in let long = ap length is ∙ length-append front _ in
    let fits = c.len-count.ensures.fits in let many = c.len-count.ensures.value in
    (omega arith, merges_first xs front c.into_portion-all.result c.requires (omega arith) is e.parts)

pub take_last-requires-in-loop : goal.take_last-requires-in-loop
take_last-requires-in-loop g c = let xs = c.args.shares.items in let left = c.loop.invariant.0 in let below = c.loop-test.true in
    (omega arith, (omega arith, left_some xs c.loop.shares.items c.loop.all c.loop.invariant.1 (all_some xs c.requires)))

pub merge-requires : goal.merge-requires
merge-requires g c = let xs = c.args.shares.items in let left = c.loop.shares.items in let front = c.take_last-in-loop.new.shares.items in
    let q = c.into_portion.result in let e = c.into_portion.ensures in let is = c.take_last-in-loop.ensures ∙ (λ i. front ++ Some (sym e.share i) ∷ []) in let h = c.loop.invariant.1 in
    (next_cell xs left front c.loop.all q h is e.parts, h.some, next_fits xs left front c.loop.all q h is e.parts)

pub loop-preserved : goal.loop-preserved
loop-preserved g c = let xs = c.args.shares.items in let left = c.loop.shares.items in let front = c.take_last-in-loop.new.shares.items in
    let q = c.into_portion.result in let e = c.into_portion.ensures in let is = c.take_last-in-loop.ensures ∙ (λ i. front ++ Some (sym e.share i) ∷ []) in let h = c.loop.invariant in
    let long = ap length is ∙ length-append front _ in let turns = h.0 in
    (omega arith, merges_next xs left front c.loop.all q h.1 is e.parts c.merge.new.self c.merge.ensures.0 c.merge.ensures.1)

pub from_portion-requires : goal.from_portion-requires
from_portion-requires g c = let h = c.loop.invariant in let turns = h.0 in let done = c.loop-test.false in
    let all = merged_all c.args.shares.items c.loop.shares.items c.loop.all h.1 (omega arith) in (all.0, all.1)

pub returns : goal.returns
returns g c = let xs = c.args.shares.items in let h = c.loop.invariant in let turns = h.0 in let done = c.loop-test.false in
    let all = merged_all xs c.loop.shares.items c.loop.all h.1 (omega arith) in all_show xs c.from_portion.ensures all.2
