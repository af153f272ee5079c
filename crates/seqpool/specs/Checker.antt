-- What a checked history is, and what is counted of it.
use Rattle.std.specs.Prelude.{◌≡◌, ◌≢◌, ◌&&◌, ℕ, Bool, true, false, List, length, take, count_by}
use Rattle.keybits.specs.declared.shape.Shape.{Shape}
use Rattle.keybits.specs.Shapes.{is_place}
use Rattle.seqpool.specs.declared.act.Act.{Act}
use Rattle.seqpool.specs.declared.act.Act.TheVariants.{Publish, Get, Release, Clear, Reclaim, Home, Collect}
use Rattle.seqpool.specs.declared.fault.ApplyFault.{ApplyFault}
use Rattle.seqpool.specs.declared.fault.ApplyFault.TheVariants as faults
use Rattle.seqpool.specs.declared.summary.Group.{Group}
use Rattle.seqpool.specs.declared.summary.Group.TheVariants as groups
use Rattle.seqpool.specs.declared.summary.Summary.{Summary}
use Rattle.seqpool.specs.Pool.{Phase, published, home, retired, Pool, has, NoRepeats, pool_after, IsLegal}
use Rattle.seqpool.specs.Histories.{At}
use Rattle.seqpool.specs.Laws.{GetLawOf, ReclaimLawOf, AloneLawOf, OnceLawOf, RetiredLawOf}
use Rattle.seqpool.specs.Refusals.{Refused}

-- so many numbers pass the test: there is a list of just these, each once
abbrev pub AreMany : (ℕ → Bool) → ℕ → Type 0
AreMany test n = (all : List ℕ) × NoRepeats all × ((x : ℕ) → has all x ≡ test x) × (length all ≡ n)

-- the place stands as this group is counted: its key is in the map without the mark, or with it; or it is home, or retired
abbrev pub is_in : Group → Phase → Bool
is_in groups.Present (published content references false) = true
is_in groups.Marked (published content references true) = true
is_in groups.Home home = true
is_in groups.Retired retired = true
is_in group phase = false

-- so many places of the pool are of the group
abbrev pub AreIn : Shape → Pool → Group → ℕ → Type 0
AreIn z pool group n = AreMany (λ place. is_place z place && is_in group (pool place).phase) n

-- whether the act is a Publish
abbrev pub is_publish : Act → Bool
is_publish (Publish lane key content with_ref) = true
is_publish (Get lane key reply) = false
is_publish (Release lane key) = false
is_publish (Clear lane key reply) = false
is_publish (Reclaim lane key) = false
is_publish (Home lane place) = false
is_publish (Collect lane places) = false

-- whether the act is a Reclaim
abbrev pub is_reclaim : Act → Bool
is_reclaim (Publish lane key content with_ref) = false
is_reclaim (Get lane key reply) = false
is_reclaim (Release lane key) = false
is_reclaim (Clear lane key reply) = false
is_reclaim (Reclaim lane key) = true
is_reclaim (Home lane place) = false
is_reclaim (Collect lane places) = false

-- the counts of a history and of the pool after it
pub record IsSummary (z : Shape) (history : List Act) (s : Summary) : Type 0 where
  pub acts : s.acts ≡ length history
  pub published : s.published ≡ count_by is_publish history
  pub reclaimed : s.reclaimed ≡ count_by is_reclaim history
  pub present : AreIn z (pool_after z history) groups.Present s.present
  pub marked : AreIn z (pool_after z history) groups.Marked s.marked
  pub home : AreIn z (pool_after z history) groups.Home s.home
  pub retired : AreIn z (pool_after z history) groups.Retired s.retired

-- the laws of one history
pub record HasLaws (z : Shape) (history : List Act) : Type 0 where
  pub gets : GetLawOf history
  pub reclaims : ReclaimLawOf z history
  pub alone : AloneLawOf history
  pub once : OnceLawOf history
  pub retired : RetiredLawOf z history

-- the acts before this one are legal, and it is refused so
abbrev pub IsIllegalAt : Shape → List Act → ℕ → ApplyFault → Type 0
IsIllegalAt z history i fault =
    IsLegal z (take i history) × (fault ≢ faults.Memory)
    × ((act : Act) × At history i act × Refused z (pool_after z (take i history)) act fault)
