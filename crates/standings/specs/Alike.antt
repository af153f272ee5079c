-- Turns of a lane that are alike, and what follows for its book.
use Rattle.std.specs.Prelude.{◌≡◌, ⊤, ℕ, ◌≤◌, List, [], ◌∷◌, Option, Some, None, length}
use Rattle.keybits.specs.declared.shape.Shape.{Shape}
use Rattle.keybits.specs.declared.step.Step.{Step}
use Rattle.keybits.specs.declared.step.Kind.{Kind}
use Rattle.keybits.specs.declared.step.Kind.TheVariants as kinds
use Rattle.traces.specs.declared.trace.Turn.{Turn}
use Rattle.traces.specs.Books.{Book, all_answered}
use Rattle.traces.specs.Lawful.{book_after_step}
use Rattle.traces.specs.TurnLaws.{turns_of, all_replies, all_acts}

-- both found the same, if they are of the kind of a PUSH
abbrev pub PushAlike : Kind → Step → Step → Type 0
PushAlike (kinds.Push expected link) step other = step.before ≡ other.before
PushAlike kinds.Enter step other = ⊤
PushAlike kinds.Leave step other = ⊤
PushAlike (kinds.Publish with_ref) step other = ⊤
PushAlike kinds.Mark step other = ⊤
PushAlike (kinds.Claim generation) step other = ⊤
PushAlike (kinds.Link expected) step other = ⊤
PushAlike kinds.Take step other = ⊤
PushAlike kinds.Follow step other = ⊤

-- the steps are of the same kind and on the same word, and a PUSH found the same
pub record IsAlike (step other : Step) : Type 0 where
  pub kind : step.kind ≡ other.kind
  pub word : step.word ≡ other.word
  pub push : PushAlike step.kind step other

abbrev pub AreAlikeSteps : Option Step → Option Step → Type 0
AreAlikeSteps None None = ⊤
AreAlikeSteps (Some step) (Some other) = IsAlike step other
AreAlikeSteps None (Some other) = ⊥
AreAlikeSteps (Some step) None = ⊥

-- the turns have the same replies and the same act, and their steps are alike
pub record IsAlikeTurn (turn other : Turn) : Type 0 where
  pub before : turn.before ≡ other.before
  pub steps : AreAlikeSteps turn.step other.step
  pub acts : turn.act ≡ other.act
  pub after : turn.after ≡ other.after

-- a lane's book after its turns
abbrev pub book_behind : Shape → ℕ → Book → List Turn → Book
book_behind z lane b [] = b
book_behind z lane b (t ∷ more) =
    book_behind z lane (all_answered z lane (book_after_step (all_answered z lane b t.before) t.step t.act) t.after) more

-- the lane has the same replies and acts in both; and from each book with a command for each reply it comes to the same book
pub record AreSameLanes (lane : ℕ) (turns others : List Turn) : Type 0 where
  pub replies : all_replies (turns_of lane turns) ≡ all_replies (turns_of lane others)
  pub acts : all_acts (turns_of lane turns) ≡ all_acts (turns_of lane others)
  pub books : (z : Shape) (b : Book) → length (all_replies (turns_of lane turns)) ≤ length b.left
      → book_behind z lane b (turns_of lane turns) ≡ book_behind z lane b (turns_of lane others)
