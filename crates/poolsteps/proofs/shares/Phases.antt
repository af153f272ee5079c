-- Who may have the shares of a place, and what its phase tells of its cell, over the changes of its references and its mark.
use Rattle.std.proofs.Common.{◌≡◌, ℕ, ◌+◌, ◌-◌, ◌<◌, Bool, true, List, refl, arith}
use mathlib.Core.Logic.{dite}
use native.Mathlib.Decide.{ℕ_discrete}
use Rattle.seqpool.specs.Pool.{Phase, with, published, home, retired, put, references_in, is_published, is_marked, gained, lost, marked}
use Rattle.seqpool.proofs.Tallies.{put-here, put-else}
use Rattle.steplaws.specs.Facts.{is_home}
use Rattle.poolsteps.specs.declared.view.Stored.{Stored}
use Rattle.poolsteps.specs.Shares.{MayHave, HasAll, IsKept}

-- ---- who may have a share

-- a lane may still have it with a reference more of any lane
pub may-gained : (last lane number l : ℕ) (f : Phase) → MayHave last lane number f → MayHave last lane number (gained l f)
may-gained last lane number l (with owner) may = may
may-gained last lane number l (published content references mark) may = (
  may.0,
  dite (ℕ_discrete lane l)
      (λ e. let now = put-here references l (references l + 1) lane e in omega arith)
      (λ n. let now = put-else references l (references l + 1) lane n in let old = may.1 in omega arith),
)
may-gained last lane number l home may = may
may-gained last lane number l retired may = may

-- and with a reference less, but for its own last one
pub may-lost : (last lane number l : ℕ) (f : Phase) → (lane ≡ l → 1 < references_in f l) → MayHave last lane number f → MayHave last lane number (lost l f)
may-lost last lane number l (with owner) more may = may
may-lost last lane number l (published content references mark) more may = (
  may.0,
  dite (ℕ_discrete lane l)
      (λ e. let now = put-here references l (references l - 1) lane e in let two = more e in omega arith)
      (λ n. let now = put-else references l (references l - 1) lane n in let old = may.1 in omega arith),
)
may-lost last lane number l home more may = may
may-lost last lane number l retired more may = may

-- and with the mark
pub may-marked : (last lane number : ℕ) (f : Phase) → MayHave last lane number f → MayHave last lane number (marked f)
may-marked last lane number (with owner) may = may
may-marked last lane number (published content references mark) may = may
may-marked last lane number home may = may
may-marked last lane number retired may = may

-- a lane with a reference may have its own share alone
pub may-own : (last lane number : ℕ) (f : Phase) → 0 < references_in f lane → MayHave last lane number f → number ≡ lane
may-own last lane number (with owner) some may = absurd (omega arith)
may-own last lane number (published content references mark) some may = may.0
may-own last lane number home some may = absurd may
may-own last lane number retired some may = absurd (omega arith)

-- no lane may have a share of a marked place that it doesn't refer to
pub none-marked : (last lane number : ℕ) (f : Phase) → is_marked f ≡ true → references_in f lane ≡ 0 → MayHave last lane number f → ⊥
none-marked last lane number (with owner) is none may = cc is
none-marked last lane number (published content references mark) is none may = let some = may.1 in omega arith
none-marked last lane number home is none may = may
none-marked last lane number retired is none may = cc is

-- ---- phases that differ by their references and their mark alone

-- what both tell alike: home or not, who has all shares, whether its key is in the map, and what is known of the cell
pub record Alike (f g : Phase) : Type 0 where
  pub homes : is_home g ≡ is_home f
  pub all_from : (last lane : ℕ) → HasAll last lane g → HasAll last lane f
  pub all_then : (last lane : ℕ) → HasAll last lane f → HasAll last lane g
  pub rows : is_published g ≡ is_published f
  pub kept : (c : Stored) (room : ℕ) → IsKept c room f → IsKept c room g

pub alike-same : (f : Phase) → Alike f f
alike-same f = record { homes = refl; all_from = λ last lane a. a; all_then = λ last lane a. a; rows = refl; kept = λ c room a. a }

alike-published : (content : List ℕ) (references then : ℕ → ℕ) (mark shut : Bool) → Alike (published content references mark) (published content then shut)
alike-published content references then mark shut =
    record { homes = refl; all_from = λ last lane a. a; all_then = λ last lane a. a; rows = refl; kept = λ c room a. a }

pub alike-gained : (l : ℕ) (f : Phase) → Alike f (gained l f)
alike-gained l (with owner) = alike-same (with owner)
alike-gained l (published content references mark) = alike-published content references (put references l (references l + 1)) mark mark
alike-gained l home = alike-same home
alike-gained l retired = alike-same retired

pub alike-lost : (l : ℕ) (f : Phase) → Alike f (lost l f)
alike-lost l (with owner) = alike-same (with owner)
alike-lost l (published content references mark) = alike-published content references (put references l (references l - 1)) mark mark
alike-lost l home = alike-same home
alike-lost l retired = alike-same retired

pub alike-marked : (f : Phase) → Alike f (marked f)
alike-marked (with owner) = alike-same (with owner)
alike-marked (published content references mark) = alike-published content references references mark true
alike-marked home = alike-same home
alike-marked retired = alike-same retired
