-- What turns leave behind.
use Rattle.std.specs.Prelude.{◌≡◌, ◌==◌, ⊤, ℕ, ◌<◌, List, [], ◌∷◌, Option, Some, None, if◌then◌else◌}
use Rattle.keybits.specs.declared.shape.Shape.{Shape}
use Rattle.keybits.specs.declared.step.Step.{Step}
use Rattle.keybits.specs.Keys.{place_of}
use Rattle.seqpool.specs.declared.act.Act.{Act}
use Rattle.seqpool.specs.declared.act.Act.TheVariants as acts
use Rattle.steplaws.specs.Facts.{Words, value_of}
use Rattle.traces.specs.declared.script.Command.{Command}
use Rattle.traces.specs.declared.trace.Turn.{Turn}
use Rattle.traces.specs.Lawful.{words_after, world_of, IsLawful}
use Rattle.traces.specs.TurnLaws.{turns_of, all_replies}
use Rattle.onetrace.specs.Decided.{IsSameStanding}

-- the words after some turns
abbrev pub words_behind : Words → List Turn → Words
words_behind words [] = words
words_behind words (t ∷ more) = words_behind (words_after words t.step) more

-- the step's word, if there is a step, has the same value in both
abbrev pub AgreeAt : Words → Words → Option Step → Type 0
AgreeAt words others None = ⊤
AgreeAt words others (Some step) = value_of words step.word ≡ value_of others step.word

-- the words of these steps have the same values in both
abbrev pub AgreeOn : Words → Words → List Step → Type 0
AgreeOn words others [] = ⊤
AgreeOn words others (step ∷ more) = (value_of words step.word ≡ value_of others step.word) × AgreeOn words others more

-- what was published last at a place, after an act
abbrev pub content_after : ℕ → Option Act → Option (List ℕ) → Option (List ℕ)
content_after place (Some (acts.Publish lane key content with_ref)) latest = if place == place_of key then Some content else latest
content_after place (Some act) latest = latest
content_after place None latest = latest

-- the same after some turns
abbrev pub content_behind : ℕ → Option (List ℕ) → List Turn → Option (List ℕ)
content_behind place latest [] = latest
content_behind place latest (t ∷ more) = content_behind place (content_after place t.act latest) more

-- if the act is a publish, the same was published last at its place in both
abbrev pub ShareAt : List Turn → List Turn → Option Act → Type 0
ShareAt turns others (Some (acts.Publish lane key content with_ref)) =
    content_behind (place_of key) None turns ≡ content_behind (place_of key) None others
ShareAt turns others (Some act) = ⊤
ShareAt turns others None = ⊤

-- the same of all acts of some turns
abbrev pub Share : List Turn → List Turn → List Turn → Type 0
Share turns others [] = ⊤
Share turns others (t ∷ more) = ShareAt turns others t.act × Share turns others more

-- lawful traces of the same scripts, whatever their schedules, leave the same behind: the pool, the words, the books and the replies of each lane
pub record AreSameBehind (z : Shape) (turns others : List Turn) : Type 0 where
  pub standing : (scripts : List (List Command)) (one other : List ℕ) → IsLawful z scripts one turns → IsLawful z scripts other others
      → IsSameStanding z (world_of z scripts turns) (world_of z scripts others)
  pub replies : (lane : ℕ) → lane < z.lanes → all_replies (turns_of lane turns) ≡ all_replies (turns_of lane others)
