-- Each round of the loop adds the hand of one guest more.
use Rattle.std.proofs.Common.{rules, ◌≡◌, List, [], ◌∷◌, ◌++◌, length, refl, sym, ap, ◌∙◌, subst, arith, append_assoc, append-nil, length-append}
use Rattle.std.specs.Prelude.{Option}
use Rattle.std.specs.Vec.Iter.{into_iter_items}
use Rattle.std.proofs.lemmas.List.{nil_from_length}
use Rattle.atomic_table.specs.declared.shared.Seat.{Seat}
use Rattle.poolsteps.specs.Share.{Share}
use Rattle.poolsteps.specs.declared.view.View.{View}
use Rattle.seatcalls.specs.Visitors.{GuestOf}
use Rattle.shardpool.specs.Partings.{AreHandsOf}
use Rattle.shardpool.proofs.at_close.GuestHands.{no-hands, one-hand}
use Rattle.shardpool.proofs.closing.with_dealt.Goals as goal

pub loop-guest-init : goal.loop-guest-init
loop-guest-init g c = record {
  more = [];
  hands = sym (append-nil c.args.hands.items);
  are = no-hands;
  all = c.into_iter-guest-iterator.ensures.into_iter_gives.0;
  rest = search rules;
  capacity = refl;
}

pub push_reserved-requires : goal.push_reserved-requires
push_reserved-requires g c =
    let was = c.loop-guest.invariant in
    let front = ap length was.hands ∙ length-append c.args.hands.items was.more in
    let same = was.are.count in
    let all = sym (ap length was.all) ∙ length-append c.loop-guest.yielded (into_iter_items c.loop-guest.guest-iterator) in
    let one = ap length c.in-Some.ensures.steps.0 in
    let room = c.requires in
    let capacity = was.capacity in
    let stand = c.loop-guest.hands.ok.0 in
    omega (arith, front, same, all, one, room, capacity, stand)

pub loop-guest-preserved : goal.loop-guest-preserved
loop-guest-preserved g c =
    let was = c.loop-guest.invariant in
    let step = c.in-Some.ensures.steps in
    let hand = c.into_hand-hand.result.0 in record {
      more = was.more ++ hand ∷ [];
      hands = c.push_reserved.ensures.items
          ∙ (ap (λ (l : List (Seat (Option (Share g.row.T.Denot)) View)). l ++ hand ∷ []) was.hands ∙ append_assoc c.args.hands.items was.more (hand ∷ []));
      are = one-hand c.loop-guest.yielded was.more c.in-Some.guest hand was.are (c.into_hand-hand.ensures.hand.0, c.into_hand-hand.ensures.hand.1, c.into_hand-hand.ensures.free);
      all = append_assoc c.loop-guest.yielded (c.in-Some.guest ∷ []) (into_iter_items c.next.new.self)
          ∙ (ap (λ (list : List GuestOf). c.loop-guest.yielded ++ list) (sym step.0) ∙ was.all);
      rest = let before = was.rest in let gone = step.1 in let shorter = ap length step.0 in omega arith;
      capacity = c.push_reserved.ensures.capacity ∙ was.capacity;
    }

pub returns-clause-hands : goal.returns-clause-hands
returns-clause-hands g c =
    let was = c.loop-guest.invariant in
    let none : into_iter_items c.loop-guest.guest-iterator ≡ [] = nil_from_length (into_iter_items c.loop-guest.guest-iterator) (sym was.rest ∙ c.in-None.ensures.steps.0) in
    let all : c.loop-guest.yielded ≡ c.args.guests.items =
    sym (append-nil c.loop-guest.yielded) ∙ (ap (λ (list : List GuestOf). c.loop-guest.yielded ++ list) (sym none) ∙ was.all) in
    (was.more, was.hands, subst (λ (list : List GuestOf). AreHandsOf list was.more) all was.are)
