-- Schedules in which a lane stops.
use Rattle.std.specs.Prelude.{◌≡◌, ◌==◌, ℕ, not, min, List, ◌++◌, filter, count_by}

-- how many entries of the lane there are
abbrev pub turns_of : ℕ → List ℕ → ℕ
turns_of lane schedule = count_by (λ entry. entry == lane) schedule

-- the schedule without the lane's entries
abbrev pub without : ℕ → List ℕ → List ℕ
without lane schedule = filter (λ entry. not (entry == lane)) schedule

-- the lane stops after its k-th entry: the schedule goes on as it was for k entries of the lane, or for all where there are fewer, and from there on without the lane's
pub record IsStopped (lane k : ℕ) (schedule stopped : List ℕ) : Type 0 where
  pub front : List ℕ
  pub back : List ℕ
  pub whole : schedule ≡ front ++ back
  pub turns : turns_of lane front ≡ min k (turns_of lane schedule)
  pub is : stopped ≡ front ++ without lane back
