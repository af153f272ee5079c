-- How the program ends: its status, and what is written on the output and as errors.
use Rattle.std.specs.Prelude.{◌≡◌, ◌≢◌, ◌⊎◌, ℕ, Bool, false, true, List, [], Option, Some, None, Result, Ok, Err, IfOk, IfErr, String, codes, map, string_bytes}
use Rattle.std.specs.declared.alloc.Global.{Global}
use Rattle.std.specs.declared.io.Error.{Error}
use Rattle.std.specs.declared.vec.IntoIter.{IntoIter}
use Rattle.std.specs.Io.KnownBytes.{Appends}
use Rattle.streams.specs.Saying.{Says}
use Rattle.streams.specs.declared.reading.Unread.{Unread}
use Rattle.streams.specs.declared.write_failed.Unwritable.{Unwritable}
use Rattle.streams.specs.declared.write_failed.Unwritable.TheVariants as unwritable
use Rattle.streams.specs.declared.writer.Watched.{Watched}
use Rattle.commandline.specs.Arguments.{ReadsArgs}
use Rattle.commandline.specs.Hints.{Hints, hint_text, is_due, is_hinted}
use Rattle.commandline.specs.Statuses.{EndsByWords}
use Rattle.commandline.specs.ViewLines.{AreViewWordsOf}
use Rattle.commandline.specs.ViewMistakes.{RefusesViewWords, IsViewExplained}
use Rattle.commandline.specs.Wishes.{command_in, is_wanted}
use Rattle.commandline.specs.declared.wishes.Call.{Call}
use Rattle.commandline.specs.declared.fault.TaskFault.{TaskFault}
use Rattle.commandline.specs.declared.views.View.{View}
use Rattle.commandline.specs.declared.views.Viewing.{Viewing}
use Rattle.poolview.specs.Faults.{refusal_text, unread_fault}
use Rattle.poolview.specs.Shows.{ShowsText, Leaves, RefusesText, IsFileAt}
use Rattle.poolview.specs.declared.fault.Fault.{Fault}
use Rattle.poolview.specs.declared.fault.Fault.TheVariants as faults

-- of these bytes what is asked for was shown: the status is 0, and no error is said
pub record EndsShown {O E : Type 0} (contents : O
    → Option (List ℕ)) (path : List ℕ) (view : View) (bytes : List ℕ) (old new : Watched O) (before after : Watched E)
    (status : ℕ) : Type 0 where
  pub text : List ℕ
  pub shows : ShowsText path view bytes text
  pub appended : Appends (contents old.inner) (contents new.inner) text
  pub whole : new.failed ≡ true → ⊥
  pub silent : after ≡ before
  pub status_is : status ≡ 0

-- whether a fault is that nobody reads the output any more, where that failed for this reason
abbrev pub is_silent : Fault → Unwritable → Bool
is_silent faults.Output unwritable.Closed = true
is_silent fault why = false

-- how the program ends by a fault: silently, with the status that a shell tells of a closed pipe; or with status 1, and the fault's line
-- is said, with its explanation where that is wanted
abbrev pub EndsFault : {E : Type 0} → (E → Option (List ℕ)) → Bool → List ℕ → List ℕ → Fault → Unwritable → Bool → Watched E → Watched E
    → ℕ → Type 0
EndsFault errors explain path bytes fault why true before after status = (status ≡ 141) × (after ≡ before)
EndsFault errors explain path bytes fault why false before after status = (status ≡ 1)
    × Says errors before after (refusal_text explain path bytes why fault)

-- it wasn't, by this fault; nothing is on the output, unless it failed, or memory was refused while words were written
pub record EndsRefused {O E : Type 0} (contents : O → Option (List ℕ)) (errors : E
    → Option (List ℕ)) (explain : Bool) (path : List ℕ) (view : View) (bytes : List ℕ) (old new : Watched O)
    (before after : Watched E) (status : ℕ) : Type 0 where
  pub fault : Fault
  pub output : fault ≡ faults.Output → new.failed ≡ true
  pub refuses : fault ≢ faults.Output → Leaves contents view bytes fault old new × RefusesText view bytes fault
  pub ends : EndsFault errors explain path bytes fault new.why (is_silent fault new.why) before after status

-- how the program ends that has read these bytes
abbrev pub EndsBytes : {O E : Type 0} → (O → Option (List ℕ)) → (E → Option (List ℕ)) → Bool → Viewing → List ℕ
    → Watched O → Watched O → Watched E → Watched E → ℕ → Type 0
EndsBytes contents errors explain viewing bytes old new before after status =
    EndsShown contents viewing.file.now viewing.view bytes old new before after status
    ⊎ EndsRefused contents errors explain viewing.file.now viewing.view bytes old new before after status

-- the file wasn't read: the status is 1, and that is said; nothing is on the output
pub record EndsUnread {O E : Type 0} (errors : E → Option (List ℕ)) (explain : Bool) (path : List ℕ) (old new : Watched O)
    (before after : Watched E) (status : ℕ) : Type 0 where
  pub unread : Unread
  pub still : new ≡ old
  pub says : Says errors before after (refusal_text explain path [] new.why (unread_fault unread))
  pub status_is : status ≡ 1

-- the file was read
pub record EndsFile {O E : Type 0} (contents : O → Option (List ℕ)) (errors : E → Option (List ℕ)) (explain : Bool) (left : Option (List ℕ))
    (viewing : Viewing) (old new : Watched O) (before after : Watched E) (status : ℕ) : Type 0 where
  pub bytes : List ℕ
  pub read : IsFileAt viewing.file.now left bytes
  pub ends : EndsBytes contents errors explain viewing bytes old new before after status

-- how the program ends that is asked for this, with mistakes explained or not
abbrev pub EndsView : {O E : Type 0} → (O → Option (List ℕ)) → (E → Option (List ℕ)) → Bool → Option (List ℕ) → Viewing
    → Watched O → Watched O → Watched E → Watched E → ℕ → Type 0
EndsView contents errors explain left viewing old new before after status =
    EndsFile contents errors explain left viewing old new before after status
    ⊎ EndsUnread errors explain viewing.file.now old new before after status

-- how the program ends that is asked for this; or whose words ask for nothing
abbrev pub EndsAsked : {O E : Type 0} → (O → Option (List ℕ)) → (E → Option (List ℕ)) → Bool → Option (List ℕ) → Result Viewing TaskFault
    → Watched O → Watched O → Watched E → Watched E → ℕ → Type 0
EndsAsked contents errors explain left (Ok viewing) old new before after status = EndsView contents errors explain left viewing old new
    before after status
EndsAsked contents errors explain left (Err fault) old new before after status = EndsByWords errors fault explain old new before after
    status

-- the file that is to be shown, where one is
abbrev pub file_of : Result Viewing TaskFault → Option (List ℕ)
file_of (Ok viewing) = Some viewing.file.now
file_of (Err fault) = None

-- how the program ends that was called so, with hints or not: what the words ask for is done, and a hint given behind a mistake
pub record EndsCall {O E : Type 0} (contents : O → Option (List ℕ)) (errors : E → Option (List ℕ)) (call : Call) (hints : Bool)
    (left : Option (List ℕ)) (old new : Watched O) (before after : Watched E) (status : ℕ) : Type 0 where
  pub viewing : Result Viewing TaskFault
  pub flag : Bool
  pub asked : IfOk viewing (AreViewWordsOf (map string_bytes call.words.items))
  pub refused : IfErr viewing (RefusesViewWords (map string_bytes call.words.items))
  pub flagged : IsViewExplained (map string_bytes call.words.items) flag viewing
  pub middle : Watched E
  pub ends : EndsAsked contents errors (is_wanted call.wish flag hints) left viewing old new before middle status
  pub hinted : Hints errors (is_hinted hints (is_due viewing) (is_wanted call.wish flag hints) status)
      (hint_text (codes "poolview") (command_in (map string_bytes call.words.items)) (file_of viewing)) middle after

-- how the program ends, by what the words were read as
abbrev pub EndsRead : {O E : Type 0} → (O → Option (List ℕ)) → (E → Option (List ℕ)) → Result Call TaskFault → Bool → Option (List ℕ)
    → Watched O → Watched O → Watched E → Watched E → ℕ → Type 0
EndsRead contents errors (Ok call) hints left old new before after status = EndsCall contents errors call hints left old new before after
    status
EndsRead contents errors (Err fault) hints left old new before after status = EndsByWords errors fault hints old new before after status

-- how the program ends, by what it was called with
pub record EndsProgram {O E : Type 0} (contents : O → Option (List ℕ)) (errors : E
    → Option (List ℕ)) (args : Result (IntoIter (String Global) Global) Error)
    (hints : Bool) (left : Option (List ℕ)) (old new : Watched O) (before after : Watched E) (status : ℕ) : Type 0 where
  pub call : Result Call TaskFault
  pub read : ReadsArgs args call
  pub ends : EndsRead contents errors call hints left old new before after status
