-- The row is cut at the two commands, and the part between the two counts is what stands between them.
use Rattle.std.proofs.Common.{◌<◌, All, length, subst, sym, rules}
use Rattle.coresteps.proofs.WriteLemmas.{first_cut, end_cut, part, stands_inside}
use Rattle.coresteps.proofs.commands.Commands.writes_between.Goals as goal

pub count_below-first-requires : goal.count_below-first-requires
count_below-first-requires c = first_cut c.args.self.now c.args.register.number c.args.created c.args.done c.requires.created c.requires.done
    c.row-row.result.now c.row-row.ensures

pub count_below-end-requires : goal.count_below-end-requires
count_below-end-requires c = end_cut c.args.self.now c.args.register.number c.args.created c.args.done c.requires.created c.requires.done
    c.row-row.result.now c.row-row.ensures

pub slice_bounds-result-count : goal.slice_bounds-result-count
slice_bounds-result-count c = (part c.args.self.now c.args.register.number c.args.created c.args.done c.requires.created c.requires.done
    c.row-row.result.now c.row-row.ensures c.count_below-first.result c.count_below-end.result
    c.count_below-first.ensures.count c.count_below-end.ensures.count).order

pub slice_bounds-result-start : goal.slice_bounds-result-start
slice_bounds-result-start c =
    let order = (part c.args.self.now c.args.register.number c.args.created c.args.done c.requires.created c.requires.done
    c.row-row.result.now c.row-row.ensures c.count_below-first.result c.count_below-end.result
    c.count_below-first.ensures.count c.count_below-end.ensures.count).order in
    search rules

pub returns-clause-inside : goal.returns-clause-inside
returns-clause-inside c =
    let script = c.args.self.now in
    let number = c.args.register.number in
    subst (All (λ index. index < length script)) (sym (part script number c.args.created c.args.done c.requires.created c.requires.done
    c.row-row.result.now c.row-row.ensures c.count_below-first.result c.count_below-end.result
    c.count_below-first.ensures.count c.count_below-end.ensures.count).is)
    (stands_inside script number c.args.created c.args.done c.requires.created c.requires.done)

pub returns-clause-writes : goal.returns-clause-writes
returns-clause-writes c = (part c.args.self.now c.args.register.number c.args.created c.args.done c.requires.created c.requires.done
    c.row-row.result.now c.row-row.ensures c.count_below-first.result c.count_below-end.result
    c.count_below-first.ensures.count c.count_below-end.ensures.count).is
