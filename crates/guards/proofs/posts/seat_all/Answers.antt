-- Each round seats one job more.
use Rattle.std.proofs.Common.{◌≡◌, ◌∷◌, ◌++◌, [], Some, length, map, sym, ap, ◌∙◌, subst, arith, length-append, append-nil}
use Rattle.std.proofs.lemmas.List.{nil_from_length, length-map, map-append}
use Rattle.std.specs.Vec.Iter.{into_iter_items}
use Rattle.guards.specs.Here.{lane_at}
use Rattle.guards.specs.Runs.{AreFrom}
use Rattle.guards.proofs.Rows.{in-front, from-more}
use Rattle.guards.proofs.posts.seat_all.Goals as goal

pub seat_one-requires-clause-here : goal.seat_one-requires-clause-here
seat_one-requires-clause-here g c lifetimes outlives =
    let was = c.loop-job.invariant in
    let first = in-front c.args.jobs.items c.loop-job.yielded (into_iter_items c.loop-job.job-iterator) (into_iter_items c.next.new.self) c.in-Some.job was.all c.in-Some.ensures.steps.0 in
    let number = was.number in
    let low = first.0 in
    let here = c.requires.here c.loop-job.number (omega (arith, number, low)) in
    (here.0, was.others c.loop-job.number (omega (arith, number)) ∙ here.1)

pub push_reserved-requires : goal.push_reserved-requires
push_reserved-requires g c =
    let was = c.loop-job.invariant in
    let first = in-front c.args.jobs.items c.loop-job.yielded (into_iter_items c.loop-job.job-iterator) (into_iter_items c.next.new.self) c.in-Some.job was.all c.in-Some.ensures.steps.0 in
    let low = first.0 in
    let long = sym (length-map c.loop-job.posts.items (λ post. post.job)) ∙ (ap length was.jobs ∙ length-map c.loop-job.yielded Some) in
    let room = was.room in
    let stand = c.loop-job.posts.ok.0 in
    omega (arith, low, long, room, stand)

pub loop-job-preserved : goal.loop-job-preserved
loop-job-preserved g c =
    let was = c.loop-job.invariant in
    let step = c.in-Some.ensures.steps in
    let first = in-front c.args.jobs.items c.loop-job.yielded (into_iter_items c.loop-job.job-iterator) (into_iter_items c.next.new.self) c.in-Some.job was.all step.0 in
    let long = length-append c.loop-job.yielded (c.in-Some.job ∷ []) in
    let number = was.number in
    let pushed = c.push_reserved in
    let post = c.seat_one.result in
    let seated = c.seat_one.ensures in
    let posts = c.loop-job.posts.items in
    let stood = sym (length-map posts (λ post. post.job)) ∙ (ap length was.jobs ∙ length-map c.loop-job.yielded Some) in
    let wide = length-map posts (λ post. post.seat.lane) in
    let before = was.rest in
    let gone = step.1 in
    let shorter = ap length step.0 in
    let place : c.loop-job.number ≡ length (map (λ post. post.seat.lane) posts) = omega (arith, number, stood, wide) in
    record {
      number = omega (arith, number, long);
      pool = seated.pool;
      nothing = seated.nothing;
      others = λ n high. seated.others n (omega (arith, high, long, number)) ∙ was.others n (omega (arith, high, long));
      jobs = ap (map (λ post. post.job)) pushed.ensures.items
          ∙ (map-append (λ post. post.job) posts (post ∷ [])
          ∙ (ap (λ list. list ++ post.job ∷ []) was.jobs
          ∙ (ap (λ job. map Some c.loop-job.yielded ++ job ∷ []) seated.job ∙ sym (map-append Some c.loop-job.yielded (c.in-Some.job ∷ [])))));
      lanes = subst (AreFrom c.args.lanes.now) (sym (ap (map (λ post. post.seat.lane)) pushed.ensures.items ∙ map-append (λ post. post.seat.lane) posts (post ∷ [])))
          (from-more c.args.lanes.now (map (λ post. post.seat.lane) posts) post.seat.lane was.lanes
          (ap (lane_at c.args.lanes.now) (sym place) ∙ (sym (was.others c.loop-job.number (omega (arith, number))) ∙ seated.lane.0))
          (seated.lane.1 ∙ place));
      room = rw pushed.ensures.capacity was.room;
      all = first.1;
      rest = omega (arith, before, gone, shorter);
    }

pub returns-clause-others : goal.returns-clause-others
returns-clause-others g c number high =
    let was = c.loop-job.invariant in
    let none = nil_from_length (into_iter_items c.loop-job.job-iterator) (sym was.rest ∙ c.in-None.ensures.steps.0) in
    let all = sym (append-nil c.loop-job.yielded) ∙ (ap (λ list. c.loop-job.yielded ++ list) (sym none) ∙ was.all) in
    was.others number (let long = ap length all in omega (arith, long, high))
