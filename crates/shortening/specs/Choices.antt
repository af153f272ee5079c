-- Scripts of which some commands are left out. Commands are counted through all scripts, from 0 on.
use Rattle.std.specs.Prelude.{ℕ, ◌+◌, ◌==◌, ◌||◌, Bool, false, List, [], ◌∷◌, length, if◌then◌else◌}
use Rattle.traces.specs.declared.script.Command.{Command}

-- whether a number is among these
abbrev pub is_among : List ℕ → ℕ → Bool
is_among [] number = false
is_among (other ∷ numbers) number = other == number || is_among numbers number

-- how many commands some scripts have
abbrev pub commands_in : List (List Command) → ℕ
commands_in [] = 0
commands_in (script ∷ more) = length script + commands_in more

-- the commands whose numbers, from this one on, are among these
abbrev pub chosen_from : List ℕ → ℕ → List Command → List Command
chosen_from numbers from [] = []
chosen_from numbers from (command ∷ more) =
    if is_among numbers from then command ∷ chosen_from numbers (from + 1) more else chosen_from numbers (from + 1) more

-- the scripts of those commands whose numbers, from this one on, are among these
abbrev pub chosen_scripts : List ℕ → ℕ → List (List Command) → List (List Command)
chosen_scripts numbers from [] = []
chosen_scripts numbers from (script ∷ more) = chosen_from numbers from script ∷ chosen_scripts numbers (from + length script) more
