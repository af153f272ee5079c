-- Turns that are in a file.
use Rattle.std.specs.Prelude.{ℕ, List, Option, Some}
use Rattle.commandline.specs.Mistakes.{Tells, wrong_listed}
use Rattle.commandline.specs.Readings.{AreListed}
use Rattle.commandline.specs.declared.fault.TaskFault.{TaskFault}
use Rattle.commandline.specs.declared.tasks.Turns.{Turns}
use Rattle.poolprogram.specs.Reading.{IsFileOf, IsUnread}
use Rattle.poolprogram.specs.declared.listing.Unlisted.{Unlisted}
use Rattle.poolprogram.specs.declared.listing.Unlisted.TheVariants.{Unread, Words}

-- the bytes of the file at this path list the turns; what is left of an input where it is named by a dash
pub record ListsTurns (path : List ℕ) (left : Option (List ℕ)) (turns : Turns) : Type 0 where
  pub bytes : List ℕ
  pub read : IsFileOf (Some path) left bytes
  pub are : AreListed bytes turns

-- they list none, and the mistake says what is wrong
pub record ListsNone (path : List ℕ) (left : Option (List ℕ)) (fault : TaskFault) : Type 0 where
  pub bytes : List ℕ
  pub read : IsFileOf (Some path) left bytes
  pub told : Tells (wrong_listed bytes) fault

-- why there are no turns in the file at this path: it wasn't read, or lists none
abbrev pub IsUnlisted : List ℕ → Option (List ℕ) → Unlisted → Type 0
IsUnlisted path left (Unread fault) = IsUnread (Some path) fault
IsUnlisted path left (Words fault) = ListsNone path left fault
