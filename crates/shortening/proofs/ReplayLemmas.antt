-- Words that a replay shows or lacks.
use Rattle.std.proofs.Common.{◌≡◌, ◌↔◌, ℕ, Bool, true, false, List, IsTrue, refl}
use Rattle.std.specs.Prelude.{MatchBool}
use Rattle.keybits.specs.declared.shape.Shape.{Shape}
use Rattle.traces.specs.declared.script.Command.{Command}
use Rattle.shortening.specs.Words.{StandsIn}
use Rattle.shortening.specs.Replays.{IsReplay, Shows, Lacks}

-- a replay in whose text the word was looked for
pub told : (z : Shape) (scripts : List (List Command)) (decoded : Bool) (word schedule text : List ℕ) (found : Bool) → IsReplay z scripts decoded schedule text → (IsTrue found ↔ StandsIn word text)
    → MatchBool found (Shows z scripts decoded word schedule) (Lacks z scripts decoded word schedule)
told z scripts decoded word schedule text true replay means = (text, replay, means.0 refl)
told z scripts decoded word schedule text false replay means = (text, replay, λ there. let bad : false ≡ true = means.1 there in cc)
