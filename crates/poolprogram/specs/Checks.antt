-- What a check of acts writes.
use Rattle.std.specs.Prelude.{◌≡◌, ℕ, List, ◌++◌, Bool, true, false, Option, decimal, codes}
use Rattle.std.specs.Io.KnownBytes.{Appends}
use Rattle.keybits.specs.declared.shape.Shape.{Shape}
use Rattle.seqpool.specs.declared.act.Act.{Act}
use Rattle.seqpool.specs.declared.summary.Summary.{Summary}
use Rattle.seqpool.specs.declared.fault.ApplyFault.{ApplyFault}
use Rattle.seqpool.specs.Checker.{IsSummary, IsIllegalAt}
use Rattle.seqpool.specs.Pool.{IsLegal}
use Rattle.seqpool.specs.ActsPlaces.{RefusesText}
use Rattle.seqpool.specs.ActsText.{StandsFor}
use Rattle.seqpool.specs.FaultNames.{apply_fault_name}
use Rattle.seqpool.specs.Refusals.{apply_fault_number}
use Rattle.poolprogram.specs.declared.run_fault.RunFault.{RunFault}
use Rattle.poolprogram.specs.declared.run_fault.RunFault.TheVariants as runs

-- the line of a legal history
abbrev pub summary_text : Summary → List ℕ
summary_text s =
    codes "legal acts " ++ decimal s.acts ++ codes " published " ++ decimal s.published ++ codes " reclaimed " ++ decimal s.reclaimed
    ++ codes " present " ++ decimal s.present ++ codes " marked " ++ decimal s.marked
    ++ codes " home " ++ decimal s.home ++ codes " retired " ++ decimal s.retired ++ codes "\n"

-- the line of a history whose act at this index, counted from 0, is the first that is refused
abbrev pub illegal_text : ℕ → ApplyFault → List ℕ
illegal_text index fault = codes "illegal " ++ decimal index ++ codes " " ++ decimal (apply_fault_number fault) ++ codes " "
    ++ apply_fault_name fault ++ codes "\n"

-- the bytes stand for a legal history, and the text is the line of its summary
pub record IsLegalLine (bytes text : List ℕ) : Type 0 where
  pub shape : Shape
  pub history : List Act
  pub stands : StandsFor bytes shape history
  pub legal : IsLegal shape history
  pub summary : Summary
  pub counts : IsSummary shape history summary
  pub is : text ≡ summary_text summary

-- the bytes stand for a history of which an act is refused, and the text is the line of the first
pub record IsIllegalLine (bytes text : List ℕ) : Type 0 where
  pub shape : Shape
  pub history : List Act
  pub stands : StandsFor bytes shape history
  pub index : ℕ
  pub fault : ApplyFault
  pub illegal : IsIllegalAt shape history index fault
  pub is : text ≡ illegal_text index fault

-- what is said of the bytes: that they stand for a legal history, or that they stand for another
abbrev pub IsVerdict : List ℕ → Bool → List ℕ → Type 0
IsVerdict bytes true text = IsLegalLine bytes text
IsVerdict bytes false text = IsIllegalLine bytes text

-- known bytes grow by what is said
pub record WritesVerdict (bytes : List ℕ) (legal : Bool) (old new : Option (List ℕ)) : Type 0 where
  pub text : List ℕ
  pub verdict : IsVerdict bytes legal text
  pub appended : Appends old new text

-- there is a line to say of the bytes
pub record HasVerdict (bytes : List ℕ) : Type 0 where
  pub legal : Bool
  pub text : List ℕ
  pub verdict : IsVerdict bytes legal text

-- the bytes are refused with this fault: as a text of acts, or as memory was refused for the check of the acts after the line of a checked shape; or memory was refused for the line that there is to say
abbrev pub RefusesActs : List ℕ → RunFault → Type 0
RefusesActs bytes (runs.Acts refusal) = RefusesText bytes refusal
RefusesActs bytes runs.Memory = HasVerdict bytes
RefusesActs bytes (runs.Read fault) = ⊥
RefusesActs bytes (runs.Core fault) = ⊥
RefusesActs bytes (runs.Shortening fault) = ⊥
RefusesActs bytes (runs.Absent decoded) = ⊥
RefusesActs bytes (runs.TooMany reached) = ⊥
RefusesActs bytes runs.Open = ⊥
RefusesActs bytes (runs.File why) = ⊥
RefusesActs bytes runs.Output = ⊥
