-- Each round of the loop takes in one hand more.
use Rattle.std.proofs.Common.{rules, ◌≡◌, [], length, ap, ◌∙◌, sym, arith}
use Rattle.std.specs.Mem.Slots.{slots_items}
use Rattle.std.specs.Vec.Iter.{into_iter_items}
use Rattle.std.proofs.lemmas.List.{nil_from_length}
use Rattle.poolsteps.proofs.Ending.{one-gathered, next-hand, more-gathered, ends}
use Rattle.poolsteps.proofs.grid.Grid.end.Goals as goal

pub loop-hand-init : goal.loop-hand-init
loop-hand-init g c =
    let began = c.into_iter-hand-iterator.ensures.into_iter_gives in (
      one-gathered c.args.self c.args.hands.items c.requires c.in-Some.all (into_iter_items c.into_iter-hand-iterator.result)
          (rw began.0 c.in-Some.ensures.items),
      search rules,
    )

pub gather-requires-clause-seats : goal.gather-requires-clause-seats
gather-requires-clause-seats g c =
    let before = c.loop-hand in
    let gathered = before.invariant.0 in (
      gathered.seat_of,
      (next-hand c.args.self c.args.hands.items c.requires before.all c.in-Some-hand.hand (into_iter_items before.hand-iterator)
          (into_iter_items c.next.new.self) gathered c.in-Some-hand.ensures.steps.0).0,
    )

pub gather-requires-clause-empty : goal.gather-requires-clause-empty
gather-requires-clause-empty g c =
    let before = c.loop-hand in
    (next-hand c.args.self c.args.hands.items c.requires before.all c.in-Some-hand.hand (into_iter_items before.hand-iterator)
    (into_iter_items c.next.new.self) before.invariant.0 c.in-Some-hand.ensures.steps.0).1

pub loop-hand-preserved : goal.loop-hand-preserved
loop-hand-preserved g c =
    let before = c.loop-hand in (
      more-gathered c.args.self c.args.hands.items c.requires before.all c.gather.new.seat c.in-Some-hand.hand (into_iter_items before.hand-iterator)
          (into_iter_items c.next.new.self) before.invariant.0 c.in-Some-hand.ensures.steps.0 c.gather.ensures.0 c.gather.ensures.1,
      let was = before.invariant.1 in
          let gone = c.in-Some-hand.ensures.steps.1 in
          let shorter = ap length c.in-Some-hand.ensures.steps.0 in omega arith,
    )

pub returns-clause-world : goal.returns-clause-world
returns-clause-world g c =
    let last = c.loop-hand in
    let none : into_iter_items last.hand-iterator ≡ [] =
    nil_from_length (into_iter_items last.hand-iterator) (sym last.invariant.1 ∙ c.in-None.ensures.steps.0) in
    ends c.args.self c.args.hands.items c.requires g.T.Clear.content g.T.Clear.room last.all (into_iter_items last.hand-iterator)
    (slots_items c.close_with.result.words) (slots_items c.close_with.result.slots) last.invariant.0 none
    (rw c.args.self.board_is at c.close_with.ensures.values.2)

pub returns-clause-words : goal.returns-clause-words
returns-clause-words g c = (c.close_with.ensures.values.0, c.close_with.ensures.counts.0 ∙ c.args.self.sized)

pub returns-clause-slots : goal.returns-clause-slots
returns-clause-slots g c = (c.close_with.ensures.values.1, c.close_with.ensures.counts.1 ∙ c.args.self.deep)
