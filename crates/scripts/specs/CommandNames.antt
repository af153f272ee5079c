-- The names of the commands.
use Rattle.std.specs.Prelude.{ℕ, List, Option, Some, None, codes, if◌then◌else◌}
use Rattle.std.specs.Str.{bytes_eq}
use Rattle.scripts.specs.declared.command_name.CommandName.{CommandName}
use Rattle.scripts.specs.declared.command_name.CommandName.TheVariants.{Create, Write, Publish, Downgrade, Get, Read, Release, Clear}

-- the command that a text names
abbrev pub command_name_of : List ℕ → Option CommandName
command_name_of text =
    if bytes_eq text (codes "create") then Some Create else
    (if bytes_eq text (codes "write") then Some Write else
    (if bytes_eq text (codes "publish") then Some Publish else
    (if bytes_eq text (codes "downgrade") then Some Downgrade else
    (if bytes_eq text (codes "get") then Some Get else
    (if bytes_eq text (codes "read") then Some Read else
    (if bytes_eq text (codes "release") then Some Release else
    (if bytes_eq text (codes "clear") then Some Clear else None)))))))
