-- The lines of faults, and those that explain them.
use Rattle.std.specs.Prelude.{ℕ, ◌-◌, Bool, true, false, List, [], ◌++◌, codes, decimal}
use Rattle.streams.specs.declared.reading.Unread.{Unread}
use Rattle.streams.specs.declared.reading.Unread.TheVariants as unread
use Rattle.streams.specs.declared.reading.Unreadable.{Unreadable}
use Rattle.streams.specs.declared.write_failed.Unwritable.{Unwritable}
use Rattle.traceviews.specs.Wants.{wanted_text}
use Rattle.traceviews.specs.declared.following.Stray.{Stray}
use Rattle.traceviews.specs.declared.following.Wrong.{Wrong}
use Rattle.traceviews.specs.declared.following.Wrong.TheVariants as wrongs
use Rattle.streams.specs.Lines.{line_at}
use Rattle.streams.specs.Reasons.{reason_text, output_told}
use Rattle.streams.specs.Shown.{bytes_text, cut}
use Rattle.poolview.specs.declared.fault.Fault.{Fault}
use Rattle.poolview.specs.declared.fault.Fault.TheVariants as faults

-- the fault of a file that wasn't read
abbrev pub unread_fault : Unread → Fault
unread_fault unread.Memory = faults.Memory
unread_fault (unread.File why) = faults.File why

-- why a step doesn't follow: its word was another, this one, or the step leaves what no such step does
abbrev pub wrong_text : Wrong → List ℕ
wrong_text (wrongs.Before had) = codes "before it its word is " ++ decimal had
wrong_text wrongs.After = codes "such a step leaves another word"

-- the line of a step that doesn't follow
abbrev pub stray_text : Stray → List ℕ
stray_text stray = codes "line " ++ decimal stray.number ++ codes ": " ++ wrong_text stray.wrong ++ codes "\n"

-- the line of a fault; of a text that is no trace the number of its first line that is none, and what is wanted there
abbrev pub fault_text : Fault → List ℕ
fault_text (faults.File why) = codes "fault 41 File\n"
fault_text faults.Output = codes "fault 42 Output\n"
fault_text faults.Memory = codes "fault 43 Memory\n"
fault_text (faults.Line number wanted) = codes "line " ++ decimal number ++ codes ": " ++ wanted_text wanted ++ codes " is wanted\n"
fault_text (faults.Stray stray) = stray_text stray
fault_text faults.Large = codes "the picture needs more than 32767 pixels, which no viewer opens: leave out --whole, or give --turns\n"
fault_text faults.Graph = codes "no graph of states: an object with script, lanes, states and outcomes is wanted\n"

-- what is said of a line that is none, and of one whose step doesn't follow
abbrev pub no_line : List ℕ
no_line = codes "\" is no line of a trace: LANE = REPLY, LANE KIND PLACE BEFORE AFTER, or LANE PUSH (or TAKE) SHARD.LANE BEFORE AFTER"

abbrev pub no_step : List ℕ
no_step = codes "\": a step finds what the last one on its word left (at first 4294967296 in a lifecycle word, else 0), and leaves what its kind makes of that"

-- what is told of the line of this number: what stands there, and this behind it
abbrev pub wrong_line_told : List ℕ → ℕ → List ℕ → List ℕ
wrong_line_told what number bytes = codes "line " ++ decimal number ++ codes ": \"" ++ cut (line_at (number - 1) bytes) ++ what

-- why the file at this path isn't read, by the system's reason
abbrev pub wrong_file_told : List ℕ → Unreadable → List ℕ
wrong_file_told path why = codes "\"" ++ cut path ++ codes "\" can't be opened, or not read to its end: " ++ reason_text why

-- the lines that show these
abbrev pub wrong_line_text : List ℕ → ℕ → List ℕ → List ℕ
wrong_line_text what number bytes = bytes_text (wrong_line_told what number bytes) ++ codes "\n"

abbrev pub wrong_file_text : List ℕ → Unreadable → List ℕ
wrong_file_text path why = bytes_text (wrong_file_told path why) ++ codes "\n"

abbrev pub output_text : Unwritable → List ℕ
output_text why = bytes_text (output_told why) ++ codes "\n"

-- the explanation of a fault, by the path of the file and its bytes: where it is, and what stands there; and of the output, which can't be
-- written for this reason
abbrev pub explanation_text : List ℕ → List ℕ → Unwritable → Fault → List ℕ
explanation_text path bytes why (faults.File unread) = wrong_file_text path unread
explanation_text path bytes why faults.Output = output_text why
explanation_text path bytes why faults.Memory = []
explanation_text path bytes why faults.Large = []
explanation_text path bytes why faults.Graph = []
explanation_text path bytes why (faults.Line number wanted) = wrong_line_text no_line number bytes
explanation_text path bytes why (faults.Stray stray) = wrong_line_text no_step stray.number bytes

-- what is said of a fault, with its explanation where that is wanted
abbrev pub refusal_text : Bool → List ℕ → List ℕ → Unwritable → Fault → List ℕ
refusal_text true path bytes why fault = fault_text fault ++ explanation_text path bytes why fault
refusal_text false path bytes why fault = fault_text fault
