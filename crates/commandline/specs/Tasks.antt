-- What a task names.
use Rattle.std.specs.Prelude.{ℕ, List, Option, Some, None, string_bytes}
use Rattle.commandline.specs.declared.tasks.Turns.{Turns}
use Rattle.commandline.specs.declared.tasks.Turns.TheVariants.{Listed, Drawn, InFile}
use Rattle.commandline.specs.declared.tasks.Task.{Task}
use Rattle.commandline.specs.declared.tasks.Task.TheVariants.{Replay, Schedule, Shorten, Outcomes, Check, Run, Key, Word}

-- the path of its file, where it has one
abbrev pub path_of : Task → Option (List ℕ)
path_of (Replay file turns stop acts) = Some (string_bytes file)
path_of (Schedule file turns stop) = Some (string_bytes file)
path_of (Shorten file turns stop search) = Some (string_bytes file)
path_of (Outcomes file most count) = Some (string_bytes file)
path_of (Check file) = Some (string_bytes file)
path_of (Run file) = Some (string_bytes file)
path_of (Key number) = None
path_of (Word word) = None

-- the path of the file that turns are in, where they are in one
abbrev pub turns_path : Turns → Option (List ℕ)
turns_path (Listed lanes) = None
turns_path (Drawn seed turns) = None
turns_path (InFile path) = Some (string_bytes path)

-- the path of the file that its turns are in, where they are in one
abbrev pub schedule_path_of : Task → Option (List ℕ)
schedule_path_of (Replay file turns stop acts) = turns_path turns
schedule_path_of (Schedule file turns stop) = turns_path turns
schedule_path_of (Shorten file turns stop search) = turns_path turns
schedule_path_of (Outcomes file most count) = None
schedule_path_of (Check file) = None
schedule_path_of (Run file) = None
schedule_path_of (Key number) = None
schedule_path_of (Word word) = None

-- the task over these turns in place of its own, where it has some
abbrev pub over : Turns → Task → Task
over turns (Replay file own stop acts) = Replay file turns stop acts
over turns (Schedule file own stop) = Schedule file turns stop
over turns (Shorten file own stop search) = Shorten file turns stop search
over turns (Outcomes file most count) = Outcomes file most count
over turns (Check file) = Check file
over turns (Run file) = Run file
over turns (Key number) = Key number
over turns (Word word) = Word word
