-- What a caller has seen and done before its first step.
use Rattle.std.specs.Prelude.{ℕ, [], ◌∷◌}
use Rattle.poolsteps.specs.declared.view.View.{View}
use Rattle.poolsteps.specs.Views.{first_record}

-- the view of a caller that has seen and done nothing
abbrev pub first_book : ℕ → View
first_book lane = record { lanes = first_record lane ∷ []; seen = []; rooms = []; told = []; steps = 0; looks = 0 }
