-- What is shown of a trace.
use Rattle.std.specs.Prelude.{◌≡◌, ◌==◌, ◌⊎◌, ℕ, Bool, List, [], ◌∷◌, Option, IfSome, codes, false, true}
use Rattle.std.specs.Io.KnownBytes.{Appends}
use Rattle.commandline.specs.declared.views.View.{View}
use Rattle.streams.specs.declared.writer.Watched.{Watched}
use Rattle.commandline.specs.declared.views.View.TheVariants as views
use Rattle.traceviews.specs.Events.{AreEvents}
use Rattle.traceviews.specs.HtmlPages.{IsHtmlPage, IsWaysPage}
use Rattle.traceviews.specs.Json.{json_text}
use Rattle.traceviews.specs.Lines.{AreLines, BeginWith, IsFirstWrong}
use Rattle.traceviews.specs.Pictures.{IsPicture}
use Rattle.traceviews.specs.Styles.{lines_words}
use Rattle.traceviews.specs.Summaries.{IsSummary}
use Rattle.traceviews.specs.WordSteps.{AreFollowing, IsFirstStray, follows_text}
use Rattle.traceviews.specs.declared.line.Line.{Line}
use Rattle.poolview.specs.Graphs.{AreGraph}
use Rattle.poolview.specs.declared.fault.Fault.{Fault}
use Rattle.poolview.specs.declared.fault.Fault.TheVariants as faults

-- the text shows this of the lines of the file at this path
abbrev pub IsShown : List ℕ → View → List Line → List ℕ → Type 0
IsShown path (views.Picture first count fit) lines text = IsPicture text
IsShown path (views.Words keys numbers) lines text = text ≡ lines_words keys numbers lines
IsShown path views.Summary lines text = IsSummary lines text
IsShown path views.Json lines text = text ≡ json_text lines
IsShown path views.Events lines text = AreEvents lines text
IsShown path (views.Page first count) lines text = IsHtmlPage path first count lines text
IsShown path views.Check lines text = AreFollowing lines × (text ≡ follows_text lines)

-- the text shows this of the lines whose text the bytes are, of the file at this path
pub record ShowsTrace (path : List ℕ) (view : View) (bytes text : List ℕ) : Type 0 where
  pub lines : List Line
  pub are : AreLines lines bytes
  pub shown : IsShown path view lines text

-- a page
abbrev pub IsPage : View → Type 0
IsPage (views.Page first count) = Unit {0}
IsPage view = ⊥

-- whether bytes are to be a graph: they begin with a brace, as no line of a trace does
abbrev pub begin_graph : List ℕ → Bool
begin_graph [] = false
begin_graph (byte ∷ rest) = byte == 123

-- the text is the page of the graph that the bytes are, of the file at this path
pub record ShowsGraph (path : List ℕ) (view : View) (bytes text : List ℕ) : Type 0 where
  pub page : IsPage view
  pub begin : begin_graph bytes ≡ true
  pub graph : AreGraph bytes
  pub shown : IsWaysPage path bytes text

-- the text shows this of the bytes of the file at this path: of a trace, or of a graph
abbrev pub ShowsText : List ℕ → View → List ℕ → List ℕ → Type 0
ShowsText path view bytes text = ShowsTrace path view bytes text ⊎ ShowsGraph path view bytes text

-- a picture that isn't to fit
abbrev pub IsWhole : View → Type 0
IsWhole (views.Picture first count fit) = fit ≡ false
IsWhole view = ⊥

-- lines are refused with this fault: in a check by the first that doesn't follow from those before it; where all are to
-- be drawn, as they are too many; or memory was refused
abbrev pub RefusesLines : View → List Line → Fault → Type 0
RefusesLines view lines (faults.Stray stray) = (view ≡ views.Check) × IsFirstStray stray.number stray.wrong lines
RefusesLines view lines faults.Large = IsWhole view
RefusesLines view lines faults.Graph = ⊥
RefusesLines view lines faults.Memory = Unit {0}
RefusesLines view lines (faults.Line number wanted) = ⊥
RefusesLines view lines (faults.File why) = ⊥
RefusesLines view lines faults.Output = ⊥

-- bytes that are to be a graph, of which a page is asked for, are none
pub record IsNoGraph (view : View) (bytes : List ℕ) : Type 0 where
  pub page : IsPage view
  pub begin : begin_graph bytes ≡ true
  pub none : AreGraph bytes → ⊥

-- the bytes are refused with this fault: by their first line that is none; or the lines whose text they are; or the graph
abbrev pub RefusesText : View → List ℕ → Fault → Type 0
RefusesText view bytes (faults.Line number wanted) = IsFirstWrong number bytes
RefusesText view bytes (faults.Stray stray) = (lines : List Line) × AreLines lines bytes × RefusesLines view lines (faults.Stray stray)
RefusesText view bytes faults.Large = IsWhole view
RefusesText view bytes faults.Graph = IsNoGraph view bytes
RefusesText view bytes faults.Memory = Unit {0}
RefusesText view bytes (faults.File why) = ⊥
RefusesText view bytes faults.Output = ⊥

-- the decoded words of the first lines of the bytes were written
pub record WritesFront {O : Type 0} (contents : O
    → Option (List ℕ)) (keys : Bool) (bytes : List ℕ) (old new : Watched O) : Type 0 where
  pub front : List Line
  pub rest : List ℕ
  pub begins : BeginWith front rest bytes
  pub appended : Appends (contents old.inner) (contents new.inner) (lines_words keys false front)

-- the bytes are refused by their first line that is none, or memory was refused
abbrev pub RefusesLine : List ℕ → Fault → Type 0
RefusesLine bytes (faults.Line number wanted) = IsFirstWrong number bytes
RefusesLine bytes faults.Memory = Unit {0}
RefusesLine bytes fault = ⊥

-- what a refusal leaves on the output: nothing; or of words without numbers, where memory was refused, those of the first lines
abbrev pub Leaves : {O : Type 0} → (O → Option (List ℕ)) → View → List ℕ → Fault → Watched O → Watched O → Type 0
Leaves contents view bytes fault old new = (new ≡ old)
    ⊎ ((keys : Bool) × (view ≡ views.Words keys false) × (fault ≡ faults.Memory) × WritesFront contents keys bytes old new)

-- the bytes were read of the file at this path: what is left of an input where it is named by a dash; of a file nothing more is said
abbrev pub IsFileAt : List ℕ → Option (List ℕ) → List ℕ → Type 0
IsFileAt path left bytes = path ≡ codes "-" → IfSome left (λ known. bytes ≡ known)
