use Rattle.std.proofs.Common.{◌≡◌, ◌+◌, ◌<◌, ℕ, List, true, string_bytes, arith, sym, subst}
use Rattle.traces.specs.declared.script.Command.{Command}
use Rattle.shortening.specs.Choices.{chosen_scripts, commands_in, is_among}
use Rattle.shortening.specs.Choosing.{Choosing}
use Rattle.shortening.specs.Parts.{without}
use Rattle.shortening.specs.Replays.{Shows, Lacks}
use Rattle.shortening.proofs.ChoiceLemmas.{chosen-all}
use Rattle.shortening.proofs.plans.fewer_commands.Goals as goal

pub shorten_passed-requires : goal.shorten_passed-requires
shorten_passed-requires c =
    let sought = c.args.sought.now in
    let scripts = sought.scripts.items in
    let numbers = c.in_ok-numbers.numbers.items in
    let all : (k : ℕ) → k < 0 + commands_in scripts → is_among numbers k ≡ true = λ k within. let same = c.requires.count in c.in_ok-numbers.ensures k (omega arith) in
    let shown = subst (λ (s : List (List Command)). Shows sought.shape s sought.decoded (string_bytes sought.word) c.args.schedule.now)
    (sym (chosen-all numbers 0 scripts all)) c.requires.shown in
    record { passed = subst (λ (t : Choosing). Shows t.shape (chosen_scripts numbers 0 t.scripts) t.decoded t.word t.schedule) (sym c.in_ok-trial.ensures) shown }

pub returns-clause-least : goal.returns-clause-least
returns-clause-least c = λ least at within.
    subst (λ (t : Choosing). Lacks t.shape (chosen_scripts (without at 1 c.in_ok-short.short.schedule.items) 0 t.scripts) t.decoded t.word t.schedule)
    c.in_ok-trial.ensures ((c.in_ok-short.ensures.ok.least least).least at within)
