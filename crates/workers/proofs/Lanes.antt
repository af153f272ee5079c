-- The lanes of workers: from the opening of a pool to its close.
use Rattle.std.proofs.Common.{◌≡◌, ℕ, zero, suc, ◌≤◌, ◌<◌, Bool, List, [], ◌∷◌, length, arith, refl, sym, ap, ◌∙◌, subst}
use Rattle.std.specs.Prelude.{Some, map, slice_get, option_map, unwrap_or}
use Rattle.std.proofs.lemmas.List.{length-map}
use Rattle.std.proofs.lemmas.Option.{slice_get_within, slice_get-map}
use Rattle.poolsteps.specs.declared.view.View.{View}
use Rattle.poolsteps.specs.Views.{the_lane}
use Rattle.seatcalls.specs.Left.{held_after}
use Rattle.shardpool.specs.Tokens.{PoolOf, LaneOf}
use Rattle.shardpool.specs.Lanes.{Owns}
use Rattle.shardpool.specs.Opened.{AreFirstLanes, IsFirstLane}
use Rattle.shardpool.specs.Closings.{AreLanes}
use Rattle.workers.specs.declared.jobs.Job.{Job}
use Rattle.workers.specs.declared.jobs.Done.{Done}
use Rattle.workers.specs.Works.{MayBegin, Answers}

-- what stands in a place of a list
got : {A : Type 0} (xs : List A) (k : ℕ) → k < length xs → (x : A) × (slice_get xs k ≡ Some x)
got [] k below = absurd (omega arith)
got (x ∷ xs) zero below = (x, refl)
got (x ∷ xs) (suc k) below = got xs k (omega arith)

-- the lanes of jobs, and those of what came of them
abbrev pub lanes_before : List Job → List LaneOf
lanes_before jobs = map (λ (job : Job). job.lane) jobs

abbrev pub lanes_after : List Done → List LaneOf
lanes_after dones = map (λ (done : Done). done.lane) dones

map-at : {A B : Type 0} (f : A → B) (xs : List A) (k : ℕ) (x : A) → slice_get xs k ≡ Some x → slice_get (map f xs) k ≡ Some (f x)
map-at f xs k x at = slice_get-map f xs k ∙ ap (λ o. option_map f o) at

-- the lane of a job is a first lane of its number
first-at : (pool : PoolOf) (lanes : List LaneOf) (jobs : List Job) → AreFirstLanes pool lanes → lanes_before jobs ≡ lanes
    → (index : ℕ) (job : Job) → slice_get jobs index ≡ Some job → IsFirstLane pool index job.lane
first-at pool lanes jobs first of index job at =
    let before = map-at (λ (j : Job). j.lane) jobs index job at in
    first.each index job.lane (subst (λ (l : List LaneOf). slice_get l index ≡ Some job.lane) of before)

-- jobs for the lanes of a pool that was just opened may begin
pub may-begin : (pool : PoolOf) (lanes : List LaneOf) (jobs : List Job) → AreFirstLanes pool lanes → lanes_before jobs ≡ lanes
    → MayBegin pool jobs
may-begin pool lanes jobs first of index job at =
    let is = first-at pool lanes jobs first of index job at in
    (is.owned, subst (λ (book : View). held_after (the_lane book).mine 0 ≤ 1048559) (sym is.book) (omega arith))

-- the lanes of the answers of jobs for all lanes of a pool without guests are all its lanes
pub are-lanes : {says : ℕ → ℕ → Bool → Type 0} (pool : PoolOf) (lanes : List LaneOf) (jobs : List Job) (dones : List Done) → pool.shape.guests ≡ 0
    → AreFirstLanes pool lanes
    → lanes_before jobs ≡ lanes → Answers says jobs dones → AreLanes pool (lanes_after dones)
are-lanes pool lanes jobs dones alone first of answers = record {
  alone = alone;
  count = many;
  owned = λ index lane at.
      let low : index < length dones = omega (arith, slice_get_within (lanes_after dones) index lane at, wide) in
      let it = stands index low in
      let same : it.0.lane ≡ lane = ap (λ o. unwrap_or o lane) (sym (map-at (λ (done : Done). done.lane) dones index it.0 it.1) ∙ at) in
      subst (λ (l : LaneOf). Owns pool l) same it.2;
  all = λ number below.
      let low : number < length dones = omega (arith, many, wide, below) in
      let it = stands number low in
      (number, it.0.lane, map-at (λ (done : Done). done.lane) dones number it.0 it.1, it.3);
}
  where
    wide : length (lanes_after dones) ≡ length dones
    wide = length-map dones (λ (done : Done). done.lane)

    many : length (lanes_after dones) ≡ pool.shape.lanes
    many = wide ∙ (answers.count ∙ (sym (length-map jobs (λ (job : Job). job.lane)) ∙ (ap length of ∙ first.count)))

    stands : (index : ℕ) → index < length dones
        → (done : Done) × (slice_get dones index ≡ Some done) × Owns pool done.lane × (done.lane.number ≡ index)
    stands index low =
        let done = got dones index low in
        let job = got jobs index (omega (arith, answers.count, low)) in
        let same = (answers.each index job.0 done.0 job.1 done.1).same in
        let is = first-at pool lanes jobs first of index job.0 job.1 in
        (done.0, done.1, (same.0 ∙ is.owned.0, same.1 ∙ is.owned.1, same.3 ∙ is.owned.2), same.2 ∙ is.number_is)
