-- What is left of scripts and of a schedule.
use Rattle.std.specs.Prelude.{◌≡◌, ℕ, ◌<◌, Bool, true, List, Option, None, length}
use Rattle.keybits.specs.declared.shape.Shape.{Shape}
use Rattle.traces.specs.declared.script.Command.{Command}
use Rattle.shortening.specs.Choices.{chosen_scripts}
use Rattle.shortening.specs.Parts.{IsPart, without}
use Rattle.shortening.specs.Replays.{Shows, Lacks}
use Rattle.shortening.specs.Shortest.{IsShortened, IsShortest}
use Rattle.shortening.specs.declared.short.Short.{Short}
use Rattle.shortening.specs.declared.short.ShortPlan.{ShortPlan}

-- what a search found; where any number may be tried, all was tried, and any number may be still
pub record IsFound (passes fails : List ℕ → Type 0) (tries left : Option ℕ) (whole : List ℕ) (short : Short) : Type 0 where
  pub shortened : IsShortened passes fails left whole short
  pub endless : tries ≡ None → short.least ≡ true
  pub unbounded : tries ≡ None → left ≡ None

-- the scripts are those of the commands of some numbers, and the schedule is a part of the whole; the word stands in their replay. Where all was
-- tried, no entry can go; nor any command, over a part of the whole that the schedule is a part of
pub record IsShortPlan (z : Shape) (scripts : List (List Command)) (decoded : Bool) (word : List ℕ) (tries : Option ℕ) (whole : List ℕ)
    (short : ShortPlan) : Type 0 where
  pub numbers : List ℕ
  pub chosen : short.scripts.items ≡ chosen_scripts numbers 0 scripts
  pub over : List ℕ
  pub over_part : IsPart over whole
  pub part : IsPart short.schedule.items over
  pub shown : Shows z short.scripts.items decoded word short.schedule.items
  pub least_entries : short.least ≡ true → (at : ℕ) → at < length short.schedule.items
      → Lacks z short.scripts.items decoded word (without at 1 short.schedule.items)
  pub least_commands : short.least ≡ true → (at : ℕ) → at < length numbers
      → Lacks z (chosen_scripts (without at 1 numbers) 0 scripts) decoded word over
  pub endless : tries ≡ None → short.least ≡ true
