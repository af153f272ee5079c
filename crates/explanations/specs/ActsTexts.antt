-- Why a text of acts is refused, or an act is illegal, in words.
use Rattle.std.specs.Prelude.{◌≡◌, ◌≢◌, ◌⊎◌, ℕ, ◌+◌, ◌-◌, ◌==◌, Bool, true, false, List, [], take, ◌++◌, if◌then◌else◌, decimal, codes}
use Rattle.std.specs.Io.BufRead.{ends_with_byte}
use Rattle.keybits.specs.declared.shape.Shape.{Shape}
use Rattle.scripts.specs.ScriptPlaces.{field_text, faulty_field}
use Rattle.seqpool.specs.ActsPlaces.{RefusesText}
use Rattle.seqpool.specs.ActsText.{StandsFor}
use Rattle.seqpool.specs.Checker.{IsIllegalAt}
use Rattle.seqpool.specs.Pool.{IsLegal}
use Rattle.seqpool.specs.Histories.{At}
use Rattle.seqpool.specs.declared.act.Act.{Act}
use Rattle.seqpool.specs.declared.acts_fault.ActsFault.{ActsFault}
use Rattle.seqpool.specs.declared.acts_fault.ActsFault.TheVariants as faults
use Rattle.seqpool.specs.declared.acts_refusal.ActsPlace.{ActsPlace}
use Rattle.seqpool.specs.declared.acts_refusal.ActsPlace.TheVariants.{Text, Line}
use Rattle.seqpool.specs.declared.acts_refusal.ActsRefusal.{ActsRefusal}
use Rattle.seqpool.specs.declared.fault.ApplyFault.{ApplyFault}
use Rattle.streams.specs.Lines.{after_line, line_at}
use Rattle.streams.specs.Shown.{cut_text, line_text}
use Rattle.explanations.specs.ActsFields.{shape_line_told, act_line_told}
use Rattle.explanations.specs.Reasons.{TellsReason}
use Rattle.explanations.specs.Wanted.{shape_wanted}

-- what is wrong with a line of which this is the last byte, and which has this number
abbrev pub line_by : Bool → ℕ → List ℕ → List ℕ
line_by true number line = codes "the line ends with a carriage return and a line feed; lines end with a line feed alone"
line_by false number line = if number == 1 then shape_line_told line else act_line_told line

-- what is wrong with this line, which has this number, by the fault of the text
abbrev pub line_told : ActsFault → ℕ → List ℕ → List ℕ
line_told faults.ActsLine number line = line_by (ends_with_byte 13 line) number line
line_told (faults.Shape fault) number line = codes "field " ++ field_text (faulty_field fault) ++ codes " " ++ shape_wanted fault
line_told faults.Memory number line = codes "memory was refused"

-- the line of this number, and what is wrong with it
abbrev pub numbered_told : ActsFault → ℕ → List ℕ → List ℕ
numbered_told fault number bytes =
    codes "line " ++ decimal number ++ codes ": \"" ++ cut_text (line_at (number - 1) bytes) ++ codes "\": "
    ++ line_told fault number (line_at (number - 1) bytes)

-- what is wrong with a text, by the place of the fault
abbrev pub told_at : ActsFault → ActsPlace → List ℕ → List ℕ
told_at fault Text bytes = codes "memory was refused"
told_at fault (Line number) bytes = numbered_told fault number bytes

-- the line that explains why a text of acts is refused
abbrev pub acts_explanation : List ℕ → ActsRefusal → List ℕ
acts_explanation bytes refusal = line_text (told_at refusal.fault refusal.place bytes)

-- what is told of the act of this index; it stands behind the shape's line
abbrev pub illegal_told : List ℕ → ℕ → List ℕ → List ℕ
illegal_told bytes index reason =
    codes "act " ++ decimal index ++ codes " (line " ++ decimal (index + 2) ++ codes "): \"" ++ cut_text (line_at index (after_line bytes))
    ++ codes "\": " ++ reason

-- the bytes stand for a history of which an act is refused, and the text explains the first, by its reason
pub record ExplainsIllegal (bytes text : List ℕ) : Type 0 where
  pub shape : Shape
  pub history : List Act
  pub stands : StandsFor bytes shape history
  pub index : ℕ
  pub fault : ApplyFault
  pub illegal : IsIllegalAt shape history index fault
  pub act : Act
  pub at : At history index act
  pub reason : List ℕ
  pub tells : TellsReason shape (take index history) act fault reason
  pub is : text ≡ line_text (illegal_told bytes index reason)

-- the bytes stand for no acts, by this refusal, which is no want of memory
pub record IsNoHistory (bytes : List ℕ) : Type 0 where
  pub refusal : ActsRefusal
  pub refused : RefusesText bytes refusal
  pub known : refusal.fault ≢ faults.Memory

-- the bytes stand for a legal history
pub record IsLegalText (bytes : List ℕ) : Type 0 where
  pub shape : Shape
  pub history : List Act
  pub stands : StandsFor bytes shape history
  pub legal : IsLegal shape history

-- no act is refused of the bytes
abbrev pub HasNoIllegal : List ℕ → Type 0
HasNoIllegal bytes = IsNoHistory bytes ⊎ IsLegalText bytes

-- the bytes' first act that is refused is explained; nothing is, where none is refused
abbrev pub ExplainsCheck : List ℕ → List ℕ → Type 0
ExplainsCheck bytes text = ((text ≡ []) × HasNoIllegal bytes) ⊎ ExplainsIllegal bytes text
