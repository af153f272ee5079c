-- The text of outcomes.
use Rattle.std.specs.Prelude.{◌+◌, ℕ, Bool, true, false, List, [], ◌∷◌, ◌++◌, length, flat_map, decimal, codes}
use Rattle.outcomes.specs.Numbers.{number_text}
use Rattle.outcomes.specs.declared.outcome.Outcome.{Outcome}
use Rattle.outcomes.specs.declared.search.Outcomes.{Outcomes}
use Rattle.schedules.specs.Schedules.{schedule_line}
use Rattle.traces.specs.declared.reply.Reply.{Reply}
use Rattle.traces.specs.Text.{reply_line}

-- a line for each reply of the lanes from one on, by rising lane
abbrev pub replies_text : ℕ → List (List Reply) → List ℕ
replies_text lane [] = []
replies_text lane (replies ∷ more) = flat_map (reply_line lane) replies ++ replies_text (lane + 1) more

-- an outcome: how many schedules end so, the first of them, and the replies of all lanes
abbrev pub outcome_text : Outcome → List ℕ
outcome_text outcome = codes "outcome schedules " ++ number_text outcome.ways ++ codes " first " ++ schedule_line outcome.schedule.items
    ++ replies_text 0 outcome.replies.items

-- how many states, schedules and outcomes there are
abbrev pub counts_line : Outcomes → List ℕ
counts_line found = codes "states " ++ decimal found.states ++ codes " schedules " ++ number_text found.ways ++ codes " outcomes "
    ++ decimal (length found.outcomes.items) ++ codes "\n"

-- the line of the counts, and where these are wanted all outcomes
abbrev pub outcomes_text : Bool → Outcomes → List ℕ
outcomes_text true found = counts_line found
outcomes_text false found = counts_line found ++ flat_map outcome_text found.outcomes.items
