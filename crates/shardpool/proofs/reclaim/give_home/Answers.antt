use Rattle.std.proofs.Common.{None, Some, true, false, sym, ◌∙◌}
use Rattle.seatcalls.proofs.parts.Returning.{linked-rests, rests-again, gives-once, gives-twice}
use Rattle.seatcalls.proofs.parts.Standing.{IsReturning, linked-returning, failed-returning, then-returning, to-return, first-return, aims-first, aims-again, again-finds, made-home}
use Rattle.shardpool.proofs.reclaim.give_home.Goals as goal

pub link-requires : goal.link-requires
link-requires g c = record { hand = c.requires.hand; spot = c.requires.at.spot; returns = (None, first-return c.args.hand.now.me.0 c.args.at.spot.place c.requires.returns) }

pub push-requires : goal.push-requires
push-requires g c =
    let first : IsReturning c.args.at.spot.place (Some c.top-top.result) false c.args.hand.now.me c.link.new.hand.me = linked-returning c.requires.returns c.link.ensures.links in
    record {
      hand = (c.link.ensures.hand.0 ∙ c.requires.hand.0, first.one);
      spot = c.requires.at.spot;
      lane = (c.requires.at.lane ∙ sym first.lane, c.requires.at.below);
      returns = to-return first;
      aims = aims-first (c.top-top.ensures ∙ c.requires.at.top) first;
      rests = (linked-rests c.requires.returns c.link.ensures.links c.shares_law.ensures.stays c.requires.place c.requires.rests).1;
    }

pub link-requires-then-push-top : goal.link-requires-then-push-top
link-requires-then-push-top g c =
    let first : IsReturning c.args.at.spot.place (Some c.top-top.result) false c.args.hand.now.me c.link.new.hand.me = linked-returning c.requires.returns c.link.ensures.links in
    let second : IsReturning c.args.at.spot.place None true c.args.hand.now.me c.push.new.hand.me = then-returning first (failed-returning first.under c.push.ensures.pushes c.if-push-top.true) in
    record {
      hand = (c.push.ensures.hand.0 ∙ (c.link.ensures.hand.0 ∙ c.requires.hand.0), second.one);
      spot = c.requires.at.spot;
      returns = (None, to-return second);
    }

pub push-requires-then-push-top : goal.push-requires-then-push-top
push-requires-then-push-top g c =
    let first : IsReturning c.args.at.spot.place (Some c.top-top.result) false c.args.hand.now.me c.link.new.hand.me = linked-returning c.requires.returns c.link.ensures.links in
    let second : IsReturning c.args.at.spot.place None true c.args.hand.now.me c.push.new.hand.me = then-returning first (failed-returning first.under c.push.ensures.pushes c.if-push-top.true) in
    let third : IsReturning c.args.at.spot.place (Some 0) true c.args.hand.now.me c.link-then-push-top.new.hand.me = then-returning second (linked-returning second.under c.link-then-push-top.ensures.links) in
    record {
      hand = (c.link-then-push-top.ensures.hand.0 ∙ (c.push.ensures.hand.0 ∙ (c.link.ensures.hand.0 ∙ c.requires.hand.0)), third.one);
      spot = c.requires.at.spot;
      lane = (c.requires.at.lane ∙ sym third.lane, c.requires.at.below);
      returns = to-return third;
      aims = aims-again third;
      rests = rests-again (c.top-top.ensures ∙ c.requires.at.top) c.requires.returns c.link.ensures.links c.push.ensures.pushes c.if-push-top.true c.link-then-push-top.ensures.links
          c.shares_law.ensures.stays c.requires.place c.requires.rests;
    }

pub returns-then-push-top-clause-hand : goal.returns-then-push-top-clause-hand
returns-then-push-top-clause-hand g c =
    let one = c.link.ensures.hand in
    let two = c.push.ensures.hand in
    let three = c.link-then-push-top.ensures.hand in
    let last = c.push-then-push-top.ensures.hand in (last.0 ∙ (three.0 ∙ (two.0 ∙ one.0)), last.1 ∙ (three.1 ∙ (two.1 ∙ one.1)))

pub returns-then-push-top-clause-acts : goal.returns-then-push-top-clause-acts
returns-then-push-top-clause-acts g c =
    let first : IsReturning c.args.at.spot.place (Some c.top-top.result) false c.args.hand.now.me c.link.new.hand.me = linked-returning c.requires.returns c.link.ensures.links in
    let second : IsReturning c.args.at.spot.place None true c.args.hand.now.me c.push.new.hand.me = then-returning first (failed-returning first.under c.push.ensures.pushes c.if-push-top.true) in
    let third : IsReturning c.args.at.spot.place (Some 0) true c.args.hand.now.me c.link-then-push-top.new.hand.me = then-returning second (linked-returning second.under c.link-then-push-top.ensures.links) in
    made-home third c.push-then-push-top.ensures.pushes (again-finds third.under c.push-then-push-top.ensures.pushes)

pub returns-then-push-top-clause-gives : goal.returns-then-push-top-clause-gives
returns-then-push-top-clause-gives g c =
    gives-twice (c.top-top.ensures ∙ c.requires.at.top) c.requires.returns c.link.ensures.links c.push.ensures.pushes c.if-push-top.true c.link-then-push-top.ensures.links
    c.push-then-push-top.ensures.pushes

pub returns-else-push-top-clause-hand : goal.returns-else-push-top-clause-hand
returns-else-push-top-clause-hand g c = let one = c.link.ensures.hand in let last = c.push.ensures.hand in (last.0 ∙ one.0, last.1 ∙ one.1)

pub returns-else-push-top-clause-acts : goal.returns-else-push-top-clause-acts
returns-else-push-top-clause-acts g c =
    let first : IsReturning c.args.at.spot.place (Some c.top-top.result) false c.args.hand.now.me c.link.new.hand.me = linked-returning c.requires.returns c.link.ensures.links in
    made-home first c.push.ensures.pushes c.if-push-top.false

pub returns-else-push-top-clause-gives : goal.returns-else-push-top-clause-gives
returns-else-push-top-clause-gives g c = gives-once (c.top-top.ensures ∙ c.requires.at.top) c.requires.returns c.link.ensures.links c.push.ensures.pushes c.if-push-top.false
