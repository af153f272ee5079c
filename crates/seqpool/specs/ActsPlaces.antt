-- Where a text of acts is refused.
use Rattle.std.specs.Prelude.{◌≡◌, ◌⊎◌, ℕ, ◌+◌, ◌<◌, List, ◌++◌, length, flat_map}
use Rattle.std.specs.List.{AllByRecursion}
use Rattle.keybits.specs.declared.shape.Shape.{Shape}
use Rattle.keybits.specs.Shapes.{IsNarrow}
use Rattle.seqpool.specs.declared.act.Act.{Act}
use Rattle.seqpool.specs.declared.acts_fault.ActsFault.{ActsFault}
use Rattle.seqpool.specs.declared.acts_fault.ActsFault.TheVariants as faults
use Rattle.seqpool.specs.declared.acts_refusal.ActsPlace.{ActsPlace}
use Rattle.seqpool.specs.declared.acts_refusal.ActsPlace.TheVariants as places
use Rattle.seqpool.specs.declared.acts_refusal.ActsRefusal.{ActsRefusal}
use Rattle.seqpool.specs.ActsText.{act_text, HasLine, AreNumbers, IsShapeText, BeginsWith, HasShape, HasShapeFault, StandsForNothing}
use Rattle.seqpool.specs.ReadTexts.{NothingHas, IsAct, AreActs, IsFirstLine}

-- the refusal for a fault at a place
abbrev pub refusal : ActsFault → ActsPlace → ActsRefusal
refusal fault place = record { fault = fault; place = place }

-- the refusal for want of memory, which has no place in the text
abbrev pub out_of_memory : ActsRefusal
out_of_memory = refusal faults.Memory places.Text

-- the text begins with the lines of these acts, and the line behind them is none of an act
pub record IsWrongBehind (acts : List Act) (text : List ℕ) : Type 0 where
  pub lines : AllByRecursion HasLine acts
  pub behind : List ℕ
  pub begins : text ≡ flat_map act_text acts ++ behind
  pub some : 0 < length behind
  pub line : List ℕ
  pub rest : List ℕ
  pub first : IsFirstLine line rest behind
  pub wrong : NothingHas IsAct line

-- the line of this number is none of an act, and those before it are that of a shape within the narrow limits, which is line 1, and those of acts
pub record IsWrongAct (bytes : List ℕ) (number : ℕ) : Type 0 where
  pub shape : Shape
  pub checked : IsNarrow shape
  pub numbers : AreNumbers shape
  pub first : List ℕ
  pub first_line : IsShapeText shape first
  pub rest : List ℕ
  pub text : bytes ≡ first ++ rest
  pub acts : List Act
  pub wrong : IsWrongBehind acts rest
  pub is : number ≡ length acts + 2

-- the line of this number is the first that is wrong: line 1, where the bytes begin with no shape's line; or one that is none of an act
abbrev pub IsWrongLine : List ℕ → ℕ → Type 0
IsWrongLine bytes number = ((number ≡ 1) × ((z : Shape) → BeginsWith bytes z → ⊥)) ⊎ IsWrongAct bytes number

-- what a refusal of the whole text says: it stands for nothing, by its first wrong line; or line 1 is of a shape with this fault; or memory was refused
abbrev pub RefusesTextAt : List ℕ → ActsFault → ActsPlace → Type 0
RefusesTextAt bytes faults.ActsLine (places.Line number) = StandsForNothing bytes × IsWrongLine bytes number
RefusesTextAt bytes faults.ActsLine places.Text = ⊥
RefusesTextAt bytes (faults.Shape fault) place = HasShapeFault bytes fault × (place ≡ places.Line 1)
RefusesTextAt bytes faults.Memory place = HasShape bytes × (place ≡ places.Text)

-- the same of a refusal
abbrev pub RefusesText : List ℕ → ActsRefusal → Type 0
RefusesText bytes refused = RefusesTextAt bytes refused.fault refused.place

-- memory was refused, or the line of this number is none of an act
abbrev pub RefusesLine : ℕ → List ℕ → ActsRefusal → Type 0
RefusesLine number line refused =
    (refused ≡ out_of_memory) ⊎ ((refused ≡ refusal faults.ActsLine (places.Line number)) × NothingHas IsAct line)

-- the lines are none of acts, by the line behind some of acts; the first of them is line 2
pub record HasWrongAct (text : List ℕ) (refused : ActsRefusal) : Type 0 where
  pub none : NothingHas AreActs text
  pub acts : List Act
  pub wrong : IsWrongBehind acts text
  pub is : refused ≡ refusal faults.ActsLine (places.Line (length acts + 2))

-- memory was refused, or the lines are none of acts
abbrev pub RefusesLines : List ℕ → ActsRefusal → Type 0
RefusesLines text refused = (refused ≡ out_of_memory) ⊎ HasWrongAct text refused
