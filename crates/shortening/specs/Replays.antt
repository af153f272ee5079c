-- What a replay shows of a word.
use Rattle.std.specs.Prelude.{◌≡◌, ℕ, Bool, true, false, List, Option, ◌++◌, codes, length}
use Rattle.keybits.specs.declared.shape.Shape.{Shape}
use Rattle.keybits.specs.Shapes.{IsShape}
use Rattle.seqpool.specs.ActsText.{IsTextOf}
use Rattle.traces.specs.declared.script.Command.{Command}
use Rattle.traces.specs.declared.trace.Turn.{Turn}
use Rattle.traces.specs.Lawful.{IsLawful}
use Rattle.traces.specs.Text.{trace_text}
use Rattle.traces.specs.TurnLaws.{all_acts}
use Rattle.traceviews.specs.Lines.{trace_lines}
use Rattle.traceviews.specs.Styles.{lines_words}
use Rattle.shortening.specs.Words.{StandsIn}

-- the text of a trace, and behind it that of its acts, with a line's end before both
pub record IsPrinted (z : Shape) (trace : List Turn) (text : List ℕ) : Type 0 where
  pub acts : List ℕ
  pub acts_text : IsTextOf z (all_acts trace) acts
  pub is : text ≡ codes "\n" ++ trace_text trace ++ acts

-- that text; or the decoded lines of the trace, with a line's end before them
abbrev pub IsPrint : Shape → Bool → List Turn → List ℕ → Type 0
IsPrint z false trace text = IsPrinted z trace text
IsPrint z true trace text = text ≡ codes "\n" ++ lines_words false false (trace_lines trace)

-- a replay of scripts over a schedule: a lawful trace, and its text, decoded or not
pub record IsReplay (z : Shape) (scripts : List (List Command)) (decoded : Bool) (schedule text : List ℕ) : Type 0 where
  pub trace : List Turn
  pub lawful : IsLawful z scripts schedule trace
  pub print : IsPrint z decoded trace text

-- the word stands in the text of a replay, decoded or not
abbrev pub Shows : Shape → List (List Command) → Bool → List ℕ → List ℕ → Type 0
Shows z scripts decoded word schedule = (text : List ℕ) × IsReplay z scripts decoded schedule text × StandsIn word text

-- the word doesn't stand in the text of a replay, decoded or not
abbrev pub Lacks : Shape → List (List Command) → Bool → List ℕ → List ℕ → Type 0
Lacks z scripts decoded word schedule = (text : List ℕ) × IsReplay z scripts decoded schedule text × (StandsIn word text → ⊥)

-- what is asked of replays: their shape and scripts, the word, whether it is of decoded lines, how many entries of schedules may still be replayed, and where that is given in how many replays
pub record Asked : Type 0 where
  pub shape : Shape
  pub scripts : List (List Command)
  pub word : List ℕ
  pub decoded : Bool
  pub left : ℕ
  pub tries : Option ℕ

-- scripts that can be replayed: one for each lane of a shape within its limits, which has no guests
pub record AreScriptsOf (z : Shape) (scripts : List (List Command)) : Type 0 where
  pub shape : IsShape z
  pub alone : z.guests ≡ 0
  pub count : length scripts ≡ z.lanes
