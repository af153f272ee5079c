-- Trials of schedules, and a shortest schedule that passes one.
use Rattle.std.specs.Prelude.{◌≡◌, ℕ, ◌-◌, ◌<◌, ◌==◌, not, ⊤, Bool, true, false, List, Option, Some, None, length}
use Rattle.shortening.specs.Parts.{IsPart, without}
use Rattle.shortening.specs.declared.short.Short.{Short}
use Rattle.shortening.specs.declared.fault.Unshortened.{Unshortened}
use Rattle.shortening.specs.declared.fault.Unshortened.TheVariants.{Fails, Limit, Memory}

-- what is left of the whole passes, and it fails as soon as any one entry more is left out
pub record IsShortest (passes fails : List ℕ → Type 0) (whole short : List ℕ) : Type 0 where
  pub part : IsPart short whole
  pub passed : passes short
  pub least : (at : ℕ) → at < length short → fails (without at 1 short)

-- whether a try is left, of so many or of any number
abbrev pub is_left : Option ℕ → Bool
is_left None = true
is_left (Some tries) = not (tries == 0)

-- one try less
abbrev pub one_less : Option ℕ → Option ℕ
one_less None = None
one_less (Some tries) = Some (tries - 1)

-- what is left of the whole passes: it is a shortest, or no try is left
pub record IsShortened (passes fails : List ℕ → Type 0) (tries : Option ℕ) (whole : List ℕ) (short : Short) : Type 0 where
  pub part : IsPart short.schedule.items whole
  pub passed : passes short.schedule.items
  pub least : short.least ≡ true → IsShortest passes fails whole short.schedule.items
  pub ended : short.least ≡ false → is_left tries ≡ false

-- the same schedules pass, and the same fail; where any number may be tried, any number may be still
pub record IsSameTrial (passes fails : List ℕ → Type 0) (tries : Option ℕ)
    (passes_now fails_now : List ℕ → Type 0) (tries_now : Option ℕ) : Type 0 where
  pub passes_still : (schedule : List ℕ) → passes schedule → passes_now schedule
  pub passed_before : (schedule : List ℕ) → passes_now schedule → passes schedule
  pub failed_before : (schedule : List ℕ) → fails_now schedule → fails schedule
  pub endless : tries ≡ None → tries_now ≡ None

-- why a trial, or a search by trials, gives up: it may try no more, or memory was refused
abbrev pub GivesUp : Type 0 → Unshortened → Type 0
GivesUp spent Fails = ⊥
GivesUp spent Limit = spent
GivesUp spent Memory = ⊤
