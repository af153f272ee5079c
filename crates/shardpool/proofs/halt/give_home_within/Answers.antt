use Rattle.std.proofs.Common.{None, Some, true, false, sym, ◌∙◌, arith}
use Rattle.seatcalls.proofs.parts.Returning.{linked-rests, rests-again}
use Rattle.seatcalls.proofs.parts.Standing.{IsReturning, linked-returning, failed-returning, then-returning, to-return, first-return, aims-first, aims-again}
use Rattle.shardpool.proofs.parts.Giving.{gives-link, gives-home, gives-failed, gives-again, gives-last}
use Rattle.shardpool.proofs.halt.give_home_within.Goals as goal
use Rattle.shardpool.proofs.halt.give_home_within.Goals.{then-found-top-via-then-found-top, then-found-top-via-else-found-top+then-limit-eq2}

pub returns-then-limit-eq1-clause-gives : goal.returns-then-limit-eq1-clause-gives
returns-then-limit-eq1-clause-gives g c = gives-link c.args.limit (c.top-top.ensures ∙ c.requires.at.top) c.requires.returns c.link.ensures.links c.if-limit-eq1.true

pub link-requires : goal.link-requires
link-requires g c = record { hand = c.requires.hand; spot = c.requires.at.spot; returns = (None, first-return c.args.hand.now.me.0 c.args.at.spot.place c.requires.returns) }

pub returns-then-limit-eq1-clause-hand : goal.returns-then-limit-eq1-clause-hand
returns-then-limit-eq1-clause-hand g c = c.link.ensures.hand

pub push-found-requires : goal.push-found-requires
push-found-requires g c =
    let first : IsReturning c.args.at.spot.place (Some c.top-top.result) false c.args.hand.now.me c.link.new.hand.me = linked-returning c.requires.returns c.link.ensures.links in
    record {
      hand = (c.link.ensures.hand.0 ∙ c.requires.hand.0, first.one);
      spot = c.requires.at.spot;
      lane = (c.requires.at.lane ∙ sym first.lane, c.requires.at.below);
      returns = to-return first;
      aims = aims-first (c.top-top.ensures ∙ c.requires.at.top) first;
      rests = (linked-rests c.requires.returns c.link.ensures.links c.shares_law.ensures.stays c.requires.place c.requires.rests).1;
    }

pub link-requires-2 : goal.link-requires-2
link-requires-2 g c =
    let first : IsReturning c.args.at.spot.place (Some c.top-top.result) false c.args.hand.now.me c.link.new.hand.me = linked-returning c.requires.returns c.link.ensures.links in
    let second : IsReturning c.args.at.spot.place None true c.args.hand.now.me c.push-found.new.hand.me = then-returning first (failed-returning first.under c.push-found.ensures.pushes c.if-found-top.false) in
    record {
      hand = (c.push-found.ensures.hand.0 ∙ (c.link.ensures.hand.0 ∙ c.requires.hand.0), second.one);
      spot = c.requires.at.spot;
      returns = (None, to-return second);
    }

pub returns-then-found-top-clause-gives : goal.returns-then-found-top-clause-gives
returns-then-found-top-clause-gives g c =
    let some = c.requires.some in
    let more = c.if-limit-eq1.false in
    elim c.then-found-top.branch [
      | then-found-top-via-then-found-top w ↦
          gives-home c.args.limit (c.top-top.ensures ∙ c.requires.at.top) c.requires.returns c.link.ensures.links c.push-found.ensures.pushes w.if-found-top.true (omega (arith, some, more))
      | then-found-top-via-else-found-top+then-limit-eq2 w ↦
          gives-failed c.args.limit (c.top-top.ensures ∙ c.requires.at.top) c.requires.returns c.link.ensures.links c.push-found.ensures.pushes w.if-found-top.false w.if-limit-eq2.true
    ]

pub push-requires : goal.push-requires
push-requires g c =
    let first : IsReturning c.args.at.spot.place (Some c.top-top.result) false c.args.hand.now.me c.link.new.hand.me = linked-returning c.requires.returns c.link.ensures.links in
    let second : IsReturning c.args.at.spot.place None true c.args.hand.now.me c.push-found.new.hand.me = then-returning first (failed-returning first.under c.push-found.ensures.pushes c.if-found-top.false) in
    let third : IsReturning c.args.at.spot.place (Some 0) true c.args.hand.now.me c.link-2.new.hand.me = then-returning second (linked-returning second.under c.link-2.ensures.links) in
    record {
      hand = (c.link-2.ensures.hand.0 ∙ (c.push-found.ensures.hand.0 ∙ (c.link.ensures.hand.0 ∙ c.requires.hand.0)), third.one);
      spot = c.requires.at.spot;
      lane = (c.requires.at.lane ∙ sym third.lane, c.requires.at.below);
      returns = to-return third;
      aims = aims-again third;
      rests = rests-again (c.top-top.ensures ∙ c.requires.at.top) c.requires.returns c.link.ensures.links c.push-found.ensures.pushes c.if-found-top.false c.link-2.ensures.links
          c.shares_law.ensures.stays c.requires.place c.requires.rests;
    }

pub returns-then-limit-gt3-clause-gives : goal.returns-then-limit-gt3-clause-gives
returns-then-limit-gt3-clause-gives g c =
    gives-last c.args.limit (c.top-top.ensures ∙ c.requires.at.top) c.requires.returns c.link.ensures.links c.push-found.ensures.pushes c.if-found-top.false c.link-2.ensures.links
    c.push.ensures.pushes c.if-limit-gt3.true

pub returns-else-limit-gt3-clause-gives : goal.returns-else-limit-gt3-clause-gives
returns-else-limit-gt3-clause-gives g c =
    let some = c.requires.some in
    let one = c.if-limit-eq1.false in
    let two = c.if-limit-eq2.false in
    let few = c.if-limit-gt3.false in
    gives-again c.args.limit (c.top-top.ensures ∙ c.requires.at.top) c.requires.returns c.link.ensures.links c.push-found.ensures.pushes c.if-found-top.false c.link-2.ensures.links
    (omega (arith, some, one, two, few))

pub returns-then-found-top-clause-hand : goal.returns-then-found-top-clause-hand
returns-then-found-top-clause-hand g c = let one = c.link.ensures.hand in let last = c.push-found.ensures.hand in (last.0 ∙ one.0, last.1 ∙ one.1)

pub returns-then-limit-gt3-clause-hand : goal.returns-then-limit-gt3-clause-hand
returns-then-limit-gt3-clause-hand g c =
    let one = c.link.ensures.hand in
    let two = c.push-found.ensures.hand in
    let three = c.link-2.ensures.hand in
    let last = c.push.ensures.hand in (last.0 ∙ (three.0 ∙ (two.0 ∙ one.0)), last.1 ∙ (three.1 ∙ (two.1 ∙ one.1)))

pub returns-else-limit-gt3-clause-hand : goal.returns-else-limit-gt3-clause-hand
returns-else-limit-gt3-clause-hand g c =
    let one = c.link.ensures.hand in
    let two = c.push-found.ensures.hand in
    let last = c.link-2.ensures.hand in (last.0 ∙ (two.0 ∙ one.0), last.1 ∙ (two.1 ∙ one.1))
