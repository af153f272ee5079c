-- The call under way: its steps so far, and the acts that they made.
use Rattle.std.specs.Prelude.{◌≡◌, ℕ, true, List, [], ◌∷◌, ◌++◌, Option, Some, None}
use Rattle.keybits.specs.declared.step.Step.{Step}
use Rattle.keybits.specs.Keys.{is_key}
use Rattle.keybits.specs.Steps.{Changes}
use Rattle.seqpool.specs.declared.act.Act.{Act}
use Rattle.seqpool.specs.declared.act.Act.TheVariants as acts
use Rattle.steplaws.specs.Calls.{Call, Caller, AreSteps, Makes}
use Rattle.traces.specs.Books.{act_list}

-- a step of a call met the step relation, and made this act or none; what it reclaimed is a key of the shape
pub record IsMade (c : Caller) (call : Call) (step : Step) (act : Option Act) : Type 0 where
  pub changes : Changes c.shape.last_generation step.kind step.before step.after
  pub links : ℕ → ℕ
  pub makes : Makes c call links step act
  pub reclaims : (lane key : ℕ) → act ≡ Some (acts.Reclaim lane key) → is_key c.shape key ≡ true

-- these steps of a call made these acts, in order
abbrev pub AreMade : Caller → Call → List Step → List Act → Type 0
AreMade c call [] made = made ≡ []
AreMade c call (step ∷ more) made =
    (act : Option Act) × (rest : List Act) × IsMade c call step act × (made ≡ act_list act ++ rest) × AreMade c call more rest

-- a call under way has made these steps, which are its first, with these acts; where there is no call, there are none
abbrev pub HasMade : Caller → Option Call → List Step → List Act → Type 0
HasMade c (Some call) steps made = AreSteps c call [] steps × AreMade c call steps made
HasMade c None steps made = (steps ≡ []) × (made ≡ [])
