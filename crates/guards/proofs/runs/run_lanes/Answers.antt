-- The lanes are back, and the answers are those of the jobs.
use Rattle.std.proofs.Common.{Some, length, sym, ap, ◌∙◌, arith}
use Rattle.std.proofs.lemmas.List.{length-map}
use Rattle.guards.proofs.Slots.{same-pool}
use Rattle.guards.proofs.Rows.{done-numbers, done-answers, all-ran, still-here}
use Rattle.guards.proofs.runs.run_lanes.Goals as goal

pub unseat_all-requires-clause-numbers : goal.unseat_all-requires-clause-numbers
unseat_all-requires-clause-numbers g c lifetimes outlives =
    done-numbers (λ post. post.seat.lane) (λ post. post.job) (λ post. post.answer) g.J.Job.does c.args.jobs.items c.seat_all-posts.result.items c.work_all.new.posts.items
    c.seat_all-posts.ensures.jobs c.work_all.ensures.count c.work_all.ensures.done c.args.opened.now.lanes c.seat_all-posts.ensures.lanes

pub unseat_all-requires-clause-answers : goal.unseat_all-requires-clause-answers
unseat_all-requires-clause-answers g c lifetimes outlives =
    done-answers (λ post. post.seat.lane) (λ post. post.job) (λ post. post.answer) g.J.Job.does c.args.jobs.items c.seat_all-posts.result.items c.work_all.new.posts.items
    c.seat_all-posts.ensures.jobs c.work_all.ensures.count c.work_all.ensures.done c.args.opened.now.lanes c.seat_all-posts.ensures.lanes

pub unseat_all-requires-clause-room : goal.unseat_all-requires-clause-room
unseat_all-requires-clause-room g c lifetimes outlives =
    let posts = c.seat_all-posts.result.items in
    let long = sym (length-map posts (λ post. post.job)) ∙ (ap length c.seat_all-posts.ensures.jobs ∙ length-map c.args.jobs.items Some) in
    let room = c.in-Ok-with_capacity.ensures.capacity in
    let count = c.work_all.ensures.count in
    (c.in-Ok-with_capacity.ensures.items, omega (arith, long, room, count))

pub returns-clause-ran : goal.returns-clause-ran
returns-clause-ran g c =
    let opened = c.args.opened.now in
    all-ran (λ post. post.seat.lane) (λ post. post.job) (λ post. post.answer) g.J.Job.does c.args.jobs.items c.seat_all-posts.result.items c.work_all.new.posts.items
    c.seat_all-posts.ensures.jobs c.work_all.ensures.count c.work_all.ensures.done c.args.opened.now.lanes c.seat_all-posts.ensures.lanes
    c.seat_all-posts.new.lanes c.unseat_all.new.lanes c.unseat_all.result.items
    (c.seat_all-posts.ensures.pool ∙ sym (same-pool opened.lanes.pool opened.pool opened.table opened.directory opened.shape ∙ c.requires.pool)) c.seat_all-posts.ensures.others c.unseat_all.ensures.back c.unseat_all.ensures.answers

pub returns-clause-here : goal.returns-clause-here
returns-clause-here g c = still-here c.args.opened.now.lanes c.unseat_all.new.lanes c.args.jobs.items c.unseat_all.result.items (returns-clause-ran g c)
