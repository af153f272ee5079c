-- The files that tasks are about, as they are read.
use Rattle.std.specs.Prelude.{◌≡◌, ℕ, List, [], Option, Some, None, IfSome, codes}
use Rattle.streams.specs.declared.reading.Unread.{Unread}
use Rattle.poolprogram.specs.RunFaults.{unread_fault}
use Rattle.poolprogram.specs.declared.run_fault.RunFault.{RunFault}

-- a task that is about the file at this path, or about none, was given these bytes: what is left of an input where it is named by a dash; of a file nothing more is said
abbrev pub IsFileOf : Option (List ℕ) → Option (List ℕ) → List ℕ → Type 0
IsFileOf None left file = file ≡ []
IsFileOf (Some path) left file = path ≡ codes "-" → IfSome left (λ known. file ≡ known)

-- the file at this path wasn't read
abbrev pub IsUnread : Option (List ℕ) → RunFault → Type 0
IsUnread None fault = ⊥
IsUnread (Some path) fault = (unread : Unread) × (fault ≡ unread_fault unread)
