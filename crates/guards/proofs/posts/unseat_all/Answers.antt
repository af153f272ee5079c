-- Each round gives one lane back.
use Rattle.std.proofs.Common.{◌∷◌, ◌++◌, [], Some, length, map, sym, ap, ◌∙◌, subst, arith, append-nil}
use Rattle.std.proofs.lemmas.List.{nil_from_length, length-map, map-append}
use Rattle.std.specs.Vec.Iter.{into_iter_items}
use Rattle.guards.specs.Runs.{AreBack}
use Rattle.guards.proofs.Rows.{in-front, back-more, one-of-all, number-of}
use Rattle.guards.proofs.posts.unseat_all.Goals as goal

pub unseat_one-requires-clause-answered : goal.unseat_one-requires-clause-answered
unseat_one-requires-clause-answered g c lifetimes outlives =
    let was = c.loop-post.invariant in
    let step = c.in-Some.ensures.steps in
    let first = in-front c.args.posts.items c.loop-post.yielded (into_iter_items c.loop-post.post-iterator) (into_iter_items c.next.new.self) c.in-Some.post was.all step.0 in
    one-of-all (λ post. post.answer) c.args.posts.items c.loop-post.yielded (into_iter_items c.next.new.self) c.in-Some.post first.1 c.requires.answers.0 c.requires.answers.1

pub push_reserved-requires : goal.push_reserved-requires
push_reserved-requires g c =
    let was = c.loop-post.invariant in
    let first = in-front c.args.posts.items c.loop-post.yielded (into_iter_items c.loop-post.post-iterator) (into_iter_items c.next.new.self) c.in-Some.post was.all c.in-Some.ensures.steps.0 in
    let low = first.0 in
    let long = sym (length-map c.loop-post.answers.items Some) ∙ (ap length was.answers ∙ length-map c.loop-post.yielded (λ post. post.answer)) in
    let room = was.room in
    let stand = c.loop-post.answers.ok.0 in
    omega (arith, low, long, room, stand)

pub loop-post-preserved : goal.loop-post-preserved
loop-post-preserved g c =
    let was = c.loop-post.invariant in
    let step = c.in-Some.ensures.steps in
    let post = c.in-Some.post in
    let yielded = c.loop-post.yielded in
    let first = in-front c.args.posts.items yielded (into_iter_items c.loop-post.post-iterator) (into_iter_items c.next.new.self) post was.all step.0 in
    let pushed = c.push_reserved in
    let gave = c.unseat_one.ensures in
    let before = was.rest in
    let gone = step.1 in
    let shorter = ap length step.0 in
    record {
      pool = gave.pool;
      nothing = gave.nothing;
      back = subst (AreBack c.args.lanes.now c.unseat_one.new.lanes) (sym (map-append (λ post. post.seat.lane) yielded (post ∷ [])))
          (back-more c.args.lanes.now c.loop-post.lanes c.unseat_one.new.lanes (map (λ post. post.seat.lane) yielded) post.seat.lane was.back (gave.pool ∙ sym was.pool)
          (number-of (λ post. post.seat.lane) c.args.posts.items yielded (into_iter_items c.next.new.self) post first.1 c.requires.numbers) gave.here gave.others);
      answers = ap (map Some) pushed.ensures.items
          ∙ (map-append Some c.loop-post.answers.items (c.unseat_one.result ∷ [])
          ∙ (ap (λ list. list ++ Some c.unseat_one.result ∷ []) was.answers
          ∙ (ap (λ answer. map (λ post. post.answer) yielded ++ answer ∷ []) (sym gave.answer) ∙ sym (map-append (λ post. post.answer) yielded (post ∷ [])))));
      room = rw pushed.ensures.capacity was.room;
      all = first.1;
      rest = omega (arith, before, gone, shorter);
    }

pub returns-clause-back : goal.returns-clause-back
returns-clause-back g c =
    let was = c.loop-post.invariant in
    let none = nil_from_length (into_iter_items c.loop-post.post-iterator) (sym was.rest ∙ c.in-None.ensures.steps.0) in
    let all = sym (append-nil c.loop-post.yielded) ∙ (ap (λ list. c.loop-post.yielded ++ list) (sym none) ∙ was.all) in
    subst (λ list. AreBack c.args.lanes.now c.loop-post.lanes (map (λ post. post.seat.lane) list)) all was.back

pub returns-clause-answers : goal.returns-clause-answers
returns-clause-answers g c =
    let was = c.loop-post.invariant in
    let none = nil_from_length (into_iter_items c.loop-post.post-iterator) (sym was.rest ∙ c.in-None.ensures.steps.0) in
    let all = sym (append-nil c.loop-post.yielded) ∙ (ap (λ list. c.loop-post.yielded ++ list) (sym none) ∙ was.all) in
    was.answers ∙ ap (map (λ post. post.answer)) all
