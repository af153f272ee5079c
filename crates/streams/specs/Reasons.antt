-- Why a file or an input isn't read, or an output not written, by the kind of the system's error, and in words.
use Rattle.std.specs.Prelude.{ℕ, List, ◌++◌, codes}
use Rattle.std.specs.declared.io.ErrorKind.{ErrorKind}
use Rattle.std.specs.declared.io.ErrorKind.TheVariants as kinds
use Rattle.streams.specs.declared.reading.Unread.{Unread}
use Rattle.streams.specs.declared.reading.Unread.TheVariants.{Memory, File}
use Rattle.streams.specs.declared.reading.Unreadable.{Unreadable}
use Rattle.streams.specs.declared.reading.Unreadable.TheVariants.{Missing, Denied, Folder, NoFolder, Other}
use Rattle.streams.specs.declared.write_failed.Unwritable.{Unwritable}
use Rattle.streams.specs.declared.write_failed.Unwritable.TheVariants as unwritable

-- why it isn't read, by the kind of the error
abbrev pub unread_by : ErrorKind → Unread
unread_by kinds.OutOfMemory = Memory
unread_by kinds.NotFound = File Missing
unread_by kinds.PermissionDenied = File Denied
unread_by kinds.IsADirectory = File Folder
unread_by kinds.NotADirectory = File NoFolder
unread_by kind = File Other

-- the reason in words
abbrev pub reason_text : Unreadable → List ℕ
reason_text Missing = codes "there is no such file"
reason_text Denied = codes "it may not be read"
reason_text Folder = codes "it is a folder"
reason_text NoFolder = codes "a part of its path is no folder"
reason_text Other = codes "the system refuses it"

-- why it isn't written, by the kind of the error
abbrev pub unwritable_by : ErrorKind → Unwritable
unwritable_by kinds.BrokenPipe = unwritable.Closed
unwritable_by kinds.StorageFull = unwritable.Full
unwritable_by kinds.QuotaExceeded = unwritable.Full
unwritable_by kinds.FileTooLarge = unwritable.Long
unwritable_by kinds.PermissionDenied = unwritable.Denied
unwritable_by kind = unwritable.Other

-- the reason in words
abbrev pub unwritable_text : Unwritable → List ℕ
unwritable_text unwritable.Closed = codes "nobody reads it any more"
unwritable_text unwritable.Full = codes "no space is left"
unwritable_text unwritable.Long = codes "the file may not be longer"
unwritable_text unwritable.Denied = codes "it may not be written"
unwritable_text unwritable.Other = codes "the system refuses it"

-- why standard output can't be written, by the system's reason
abbrev pub output_told : Unwritable → List ℕ
output_told why = codes "standard output can't be written: " ++ unwritable_text why
