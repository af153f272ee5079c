-- Lawful traces of a shape, scripts and a schedule.
use Rattle.std.specs.Prelude.{◌≡◌, ◌==◌, ◌⊎◌, ℕ, Bool, true, false, nat_lt, List, [], ◌∷◌, ◌++◌, Option, Some, None, is_some, slice_get, if◌then◌else◌}
use Rattle.keybits.specs.declared.shape.Shape.{Shape}
use Rattle.keybits.specs.declared.step.Step.{Step}
use Rattle.keybits.specs.Words.{fresh_word}
use Rattle.keybits.specs.Steps.{Changes}
use Rattle.seqpool.specs.declared.act.Act.{Act}
use Rattle.seqpool.specs.Pool.{pool_after, IsLegal}
use Rattle.steplaws.specs.Calls.{Call, Caller, aim, Makes}
use Rattle.steplaws.specs.Facts.{Words, value_of, with_value}
use Rattle.traces.specs.declared.script.Command.{Command}
use Rattle.traces.specs.declared.reply.Reply.{Reply}
use Rattle.traces.specs.declared.trace.Turn.{Turn}
use Rattle.traces.specs.Books.{Book, first_book, caller, call_under_way, next_aim, all_answered, stepped, act_list}
use Rattle.traces.specs.Following.{AreReplies}

-- what the turns so far have made: the history of their acts, the words, and the book of each lane
pub record World : Type 0 where
  pub history : List Act
  pub words : Words
  pub books : ℕ → Book

-- at first each lifecycle word is that of generation 1, idle, count 0; the others are 0
abbrev pub first_words : Words
first_words = record { life = λ _. fresh_word; link = λ _. 0; stack = λ _ _. 0; bits = λ _ _. 0 }

-- the script of a lane; none beyond the last
abbrev pub script_or_none : Option (List Command) → List Command
script_or_none (Some script) = script
script_or_none None = []

-- what stands before the first turn
abbrev pub first_world : List (List Command) → World
first_world scripts =
    record { history = []; words = first_words; books = λ lane. first_book (script_or_none (slice_get scripts lane)) }

-- the words after the step of a turn
abbrev pub words_after : Words → Option Step → Words
words_after words None = words
words_after words (Some step) = with_value words step.word step.after

-- a lane's book after the step of its turn, if that has one
abbrev pub book_after_step : Book → Option Step → Option Act → Book
book_after_step b None act = b
book_after_step b (Some step) act = stepped b step act

-- a lane's book before the step of its turn, after the replies before that
abbrev pub book_before : Shape → World → Turn → Book
book_before z w t = all_answered z t.lane (w.books t.lane) t.before

-- a lane's book after its turn: after the step, and the replies behind it
abbrev pub book_after : Shape → World → Turn → Book
book_after z w t = all_answered z t.lane (book_after_step (book_before z w t) t.step t.act) t.after

-- the books, but this of the one lane
abbrev pub with_book : (ℕ → Book) → ℕ → Book → ℕ → Book
with_book books lane b other = if other == lane then b else books other

-- what the turns have made, one turn later
abbrev pub world_after : Shape → World → Turn → World
world_after z w t =
    record {
      history = w.history ++ act_list t.act;
      words = words_after w.words t.step;
      books = with_book w.books t.lane
          (book_after z w t);
    }

-- no command is left
abbrev pub at_end : List Command → Bool
at_end [] = true
at_end (command ∷ more) = false

-- a lane's script is at its end, or the number is no lane
abbrev pub is_finished : Shape → World → ℕ → Bool
is_finished z w lane = if nat_lt lane z.lanes then at_end (w.books lane).left else true

-- a step makes this act in a call that is under way
abbrev pub CallMakes : Caller → Option Call → (ℕ → ℕ) → Step → Option Act → Type 0
CallMakes c (Some call) links step act = Makes c call links step act
CallMakes c None links step act = ⊥

-- the step of a turn, from the lane's book before it: it is the next of the lane's call; the word before is the word after of the last step on it,
-- or the first value; the word after meets the step relation; and the act is the step's
pub record IsStep (z : Shape) (lane : ℕ) (words : Words) (b : Book) (step : Step) (act : Option Act) : Type 0 where
  pub next : next_aim z lane b ≡ Some (aim step.kind step.word)
  pub before : step.before ≡ value_of words step.word
  pub changes : Changes z.last_generation step.kind step.before step.after
  pub makes : CallMakes (caller z lane b) (call_under_way b) words.link step act

-- without a step, a turn brings its lane to the script's end, by the replies before it; with a step, the replies after it follow in the pool
-- as the act leaves it, up to the lane's next step or the script's end
abbrev pub StepAndReplies : Shape → World → ℕ → Book → Option Step → Option Act → List Reply → Type 0
StepAndReplies z w lane b None act after = (at_end b.left ≡ true) × (act ≡ None) × (after ≡ [])
StepAndReplies z w lane b (Some step) act after =
    IsStep z lane w.words b step act
    × AreReplies z (pool_after z (w.history ++ act_list act)) lane (stepped b step act) after

-- the lane stands at a step or at the script's end: its next is no reply
abbrev pub IsAtRest : Shape → ℕ → Book → Type 0
IsAtRest z lane b = (at_end b.left ≡ true) ⊎ (is_some (next_aim z lane b) ≡ true)

-- the turn is the next one of its lane, which isn't finished
pub record IsNextTurn (z : Shape) (w : World) (t : Turn) : Type 0 where
  pub unfinished : is_finished z w t.lane ≡ false
  pub replies : AreReplies z (pool_after z w.history) t.lane (w.books t.lane) t.before
  pub step : StepAndReplies z w t.lane (book_before z w t) t.step t.act t.after
  pub rest : IsAtRest z t.lane (book_after z w t)

-- the turns are those of the entries of the schedule that name an unfinished lane, in order
abbrev pub AreTurns : Shape → World → List ℕ → List Turn → Type 0
AreTurns z w [] [] = Unit {0}
AreTurns z w [] (t ∷ more) = ⊥
AreTurns z w (lane ∷ schedule) [] = (is_finished z w lane ≡ true) × AreTurns z w schedule []
AreTurns z w (lane ∷ schedule) (t ∷ more) =
    ((is_finished z w lane ≡ true) × AreTurns z w schedule (t ∷ more))
    ⊎ ((t.lane ≡ lane) × IsNextTurn z w t × AreTurns z (world_after z w t) schedule more)

-- what all the turns have made
abbrev pub world_from : Shape → World → List Turn → World
world_from z w [] = w
world_from z w (t ∷ more) = world_from z (world_after z w t) more

-- what stands after these turns from the first
abbrev pub world_of : Shape → List (List Command) → List Turn → World
world_of z scripts turns = world_from z (first_world scripts) turns

-- a lawful trace: turns of the schedule's lanes, whose acts are a legal history
pub record IsLawful (z : Shape) (scripts : List (List Command)) (schedule : List ℕ) (trace : List Turn) : Type 0 where
  pub turns : AreTurns z (first_world scripts) schedule trace
  pub legal : IsLegal z (world_of z scripts trace).history
