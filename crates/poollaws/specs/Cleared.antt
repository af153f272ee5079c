-- Which keys lanes cleared.
use Rattle.std.specs.Prelude.{◌≡◌, ℕ, true, false, List, [], ◌∷◌}
use Rattle.seqpool.specs.declared.act.Act.{Act}
use Rattle.seqpool.specs.declared.act.Act.TheVariants.{Publish, Get, Release, Clear, Reclaim, Home, Collect}
use Rattle.seqpool.specs.Pool.{has}
use Rattle.poolsteps.specs.Views.{the_lane}
use Rattle.shardpool.specs.Tokens.{LaneOf}

-- the keys that these acts cleared, in their order
abbrev pub cleared_in : List Act → List ℕ
cleared_in [] = []
cleared_in (Publish lane key content with_ref ∷ more) = cleared_in more
cleared_in (Get lane key reply ∷ more) = cleared_in more
cleared_in (Release lane key ∷ more) = cleared_in more
cleared_in (Clear lane key true ∷ more) = key ∷ cleared_in more
cleared_in (Clear lane key false ∷ more) = cleared_in more
cleared_in (Reclaim lane key ∷ more) = cleared_in more
cleared_in (Home lane place ∷ more) = cleared_in more
cleared_in (Collect lane places ∷ more) = cleared_in more

-- the keys that the lane cleared
abbrev pub cleared_by : LaneOf → List ℕ
cleared_by lane = cleared_in (the_lane lane.book).mine

-- each of these keys is one of those
abbrev pub AreAmong : List ℕ → List ℕ → Type 0
AreAmong some all = (key : ℕ) → has some key ≡ true → has all key ≡ true
