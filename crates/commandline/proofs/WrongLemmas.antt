-- Where something is wrong with matches, they are those of no task.
use Rattle.std.proofs.Common.{◌≡◌, ◌∙◌, ◌&&◌, ℕ, Bool, true, false, List, Option, Some, None, IfOk, IfErr, codes, refl, sym, ap, subst, option_and_then}
use Rattle.std.proofs.lemmas.Result.{IfOk-weaker, IfErr-weaker}
use Rattle.clap.specs.Words.{Row, first_of}
use Rattle.commandline.specs.Readings.{flag_of, key_number, long_number, turn_count, try_count, schedule_file, are_both_input, AreTries, IsMost, AreTurns, IsStop}
use Rattle.commandline.specs.CommandLines.{AreMatchesOf, HasTurns, is_flagged, IsTaskOfNone}
use Rattle.commandline.specs.Mistakes.{Wrong, IsWrong, first_wrong, unless_read, wrong_file, wrong_if, wrong_schedule, wrong_turns, wrong_stop, wrong_tries, wrong_most, wrong_number, wrong_given, number_reason, said_by, Tells, RefusesMatches, Refuses, AsksFor, wants_explanation}
use Rattle.commandline.specs.declared.fault.TaskFault.{TaskFault}
use Rattle.commandline.specs.declared.fault.TaskFault.TheVariants as faults
use Rattle.commandline.specs.declared.requests.Request.{Request}
use Rattle.commandline.specs.declared.mistakes.Reason.{Reason}
use Rattle.commandline.specs.declared.mistakes.Reason.TheVariants.{BadSchedule, BadSeed, BadTurns, BadStop, BadTries, BadMost, InputTwice, TwoTexts}
use Rattle.schedules.specs.Schedules.{schedule_of, stop_of}
use Rattle.commandline.specs.declared.tasks.Stop.{Stop}
use Rattle.commandline.specs.declared.tasks.Task.{Task}
use Rattle.commandline.specs.declared.tasks.Task.TheVariants.{Replay, Schedule, Shorten, Outcomes, Check, Run, Key, Word}
use Rattle.commandline.specs.declared.tasks.Turns.{Turns}
use Rattle.commandline.specs.declared.tasks.Turns.TheVariants.{Listed, Drawn, InFile}

read-right : {T : Type 0} (read : Option T) (value : T) (reason : Reason) (text : List ℕ) → read ≡ Some value → unless_read read reason text ≡ None
read-right {T} read value reason text e = ap (λ (r : Option T). unless_read r reason text) e

both : (one other : Option Wrong) → one ≡ None → other ≡ None → first_wrong one other ≡ None
both one other e f = ap (λ (w : Option Wrong). first_wrong w other) e ∙ f

schedule-right : (file : Option (List ℕ)) (text lanes : List ℕ) → schedule_of text ≡ Some lanes → wrong_schedule file text ≡ None
schedule-right (Some path) text lanes is = refl
schedule-right None text lanes is = read-right (schedule_of text) lanes BadSchedule text is

turns-right : (schedule seed turns : Option (List ℕ)) (is : Turns) → AreTurns schedule seed turns is → wrong_turns schedule seed turns ≡ None
turns-right (Some schedule) None None (Listed lanes) are = schedule-right (schedule_file schedule) schedule lanes.items are
turns-right (Some schedule) None None (InFile path) are = ap (λ (f : Option (List ℕ)). wrong_schedule f schedule) are
turns-right None (Some seed) (Some turns) (Drawn from count) are =
    both _ _ (read-right (long_number seed) from BadSeed seed are.0) (read-right (turn_count turns) count BadTurns turns are.1)
turns-right (Some schedule) None None (Drawn from count) are = absurd are
turns-right None (Some seed) (Some turns) (Listed lanes) are = absurd are
turns-right None (Some seed) (Some turns) (InFile path) are = absurd are
turns-right None None None (Listed lanes) are = absurd are
turns-right None None None (InFile path) are = absurd are
turns-right None None None (Drawn from count) are = absurd are
turns-right None (Some seed) None (Listed lanes) are = absurd are
turns-right None (Some seed) None (InFile path) are = absurd are
turns-right None (Some seed) None (Drawn from count) are = absurd are
turns-right None None (Some turns) (Listed lanes) are = absurd are
turns-right None None (Some turns) (InFile path) are = absurd are
turns-right None None (Some turns) (Drawn from count) are = absurd are
turns-right (Some schedule) (Some seed) None (Listed lanes) are = absurd are
turns-right (Some schedule) (Some seed) None (InFile path) are = absurd are
turns-right (Some schedule) (Some seed) None (Drawn from count) are = absurd are
turns-right (Some schedule) None (Some turns) (Listed lanes) are = absurd are
turns-right (Some schedule) None (Some turns) (InFile path) are = absurd are
turns-right (Some schedule) None (Some turns) (Drawn from count) are = absurd are
turns-right (Some schedule) (Some seed) (Some turns) (Listed lanes) are = absurd are
turns-right (Some schedule) (Some seed) (Some turns) (InFile path) are = absurd are
turns-right (Some schedule) (Some seed) (Some turns) (Drawn from count) are = absurd are

-- what a fault tells of the first of two mistakes it tells of both
pub tells-first : (wrong later : Option Wrong) (fault : TaskFault) → Tells wrong fault → Tells (first_wrong wrong later) fault
tells-first wrong later (faults.Words mistake) told = ap (λ (w : Option Wrong). first_wrong w later) told
tells-first wrong later (faults.Clap error) told = tt
tells-first wrong later (faults.Memory refused) told = tt

stop-right : (text : Option (List ℕ)) (stop : Option Stop) → IsStop text stop → wrong_stop text ≡ None
stop-right None None is = refl
stop-right None (Some stop) is = absurd is
stop-right (Some text) None is = absurd is
stop-right (Some text) (Some stop) is = read-right (stop_of text) (stop.lane, stop.after) BadStop text is

tries-right : (text : Option (List ℕ)) (tries : Option ℕ) → AreTries text tries → wrong_tries text ≡ None
tries-right None None are = refl
tries-right None (Some tries) are = absurd are
tries-right (Some text) None are = absurd are
tries-right (Some text) (Some tries) are = read-right (try_count text) tries BadTries text are

most-right : (text : Option (List ℕ)) (most : ℕ) → IsMost text most → wrong_most text ≡ None
most-right None most is = refl
most-right (Some text) most is = read-right (try_count text) most BadMost text is

pub file-right : (text : Option (List ℕ)) (file : List ℕ) → text ≡ Some file → wrong_file text ≡ None
file-right text file is = ap wrong_file is

number-right : (hex : Bool) (text : Option (List ℕ)) (number : ℕ) → option_and_then (key_number hex) text ≡ Some number → wrong_number hex text ≡ None
number-right hex None number is = cc is
number-right hex (Some text) number is = read-right (key_number hex text) number (number_reason hex) text is

if-right : (holds : Bool) (reason : Reason) → holds ≡ false → wrong_if holds reason ≡ None
if-right holds reason is = ap (λ (b : Bool). wrong_if b reason) is

pub given-right : (rows : List Row) (file : List ℕ) (turns : Turns) (stop : Option Stop) → HasTurns rows file turns stop → wrong_given rows ≡ None
given-right rows file turns stop is =
    both _ _ (file-right (first_of (codes "file") rows) file is.is_file)
    (both _ _ (turns-right (first_of (codes "schedule") rows) (first_of (codes "seed") rows) (first_of (codes "turns") rows) turns is.are_turns)
    (both _ _ (stop-right (first_of (codes "stop") rows) stop is.is_stop)
    (if-right (are_both_input (first_of (codes "file") rows) (first_of (codes "schedule") rows)) InputTwice is.apart)))

-- where the rest is right, a mistake that there is where this holds
pub wrong-then : (one other : Option Wrong) (wrong : Wrong) → one ≡ None → other ≡ Some wrong → first_wrong one other ≡ Some wrong
wrong-then one other wrong e f = ap (λ (w : Option Wrong). first_wrong w other) e ∙ f

pub both-true : (one other : Bool) → one ≡ true → other ≡ true → (one && other) ≡ true
both-true one other e f = ap (λ (b : Bool). b && other) e ∙ f

not-both : (one other : Bool) → one ≡ false → (one && other) ≡ false
not-both one other is = ap (λ (b : Bool). b && other) is

not-other : (one other : Bool) → other ≡ false → (one && other) ≡ false
not-other true other is = is
not-other false other is = refl

none-wrong : (wrong : Option Wrong) (some : Wrong) → wrong ≡ None → wrong ≡ Some some → ⊥
none-wrong wrong some none is = let bad : None ≡ Some some = sym none ∙ is in cc bad

matches-none : (name : List ℕ) (rows : List Row) (wrong : Wrong) (task : Task) → IsWrong name rows wrong → AreMatchesOf name rows task → ⊥
matches-none name rows wrong (Replay file turns stop acts) is (named, right, plain, flag) =
    none-wrong _ wrong (both _ _ (given-right rows _ turns stop right) (if-right _ TwoTexts (not-both _ _ plain))) (is.replay named)
matches-none name rows wrong (Schedule file turns stop) is (named, right, printed, flag) =
    none-wrong _ wrong (both _ _ (given-right rows _ turns stop right) (if-right _ TwoTexts (not-other (is_flagged (codes "print-schedule") rows) _ flag))) (is.replay named)
matches-none name rows wrong (Shorten file turns stop search) is (named, right, word, are, decoded, scripts) =
    none-wrong _ wrong (both _ _ (given-right rows _ turns stop right)
    (both _ _ (file-right (first_of (codes "until") rows) _ word) (tries-right (first_of (codes "tries") rows) search.tries are))) (is.shorten named)
matches-none name rows wrong (Outcomes file most count) is (named, right, number, flag) =
    none-wrong _ wrong (both _ _ (file-right (first_of (codes "file") rows) _ right) (most-right (first_of (codes "most") rows) most number)) (is.outcomes named)
matches-none name rows wrong (Check file) is (named, right) = none-wrong _ wrong (file-right (first_of (codes "acts") rows) _ right) (is.check named)
matches-none name rows wrong (Run file) is (named, right) = none-wrong _ wrong (file-right (first_of (codes "file") rows) _ right) (is.run named)
matches-none name rows wrong (Key number) is (named, flag, right) = none-wrong _ wrong (number-right (flag_of (first_of (codes "hex") rows)) (first_of (codes "number") rows) number right) (is.key named)
matches-none name rows wrong (Word word) is (named, flag, right) = none-wrong _ wrong (number-right (flag_of (first_of (codes "hex") rows)) (first_of (codes "number") rows) word right) (is.key named)

-- what clap matched stands for no task, if something is wrong with the subcommand that it names
pub task-none : (matched : Option (List ℕ × List Row)) (wrong : Wrong)
    → ((name : List ℕ) (rows : List Row) → matched ≡ Some (name, rows) → IsWrong name rows wrong) → IsTaskOfNone matched
task-none matched wrong why task of = matches-none of.name of.rows wrong task (why of.name of.rows of.is) of.matches

refuses : (matched : Option (List ℕ × List Row)) (name : List ℕ) (rows : List Row) (fault : TaskFault)
    → matched ≡ Some (name, rows) → RefusesMatches name rows fault → Refuses matched fault
refuses matched name rows (faults.Words mistake) is of =
    let why = λ (other : List ℕ) (others : List Row) (same : matched ≡ Some (other, others)).
    let there : Some (name, rows) ≡ Some (other, others) = sym is ∙ same in
    let pair : (name, rows) ≡ (other, others) = cc there in
    let names : name ≡ other = ap (λ (p : List ℕ × List Row). p.0) pair in
    let all : rows ≡ others = ap (λ (p : List ℕ × List Row). p.1) pair in
    subst (λ (n : List ℕ). IsWrong n others (said_by mistake)) names (subst (λ (r : List Row). IsWrong name r (said_by mistake)) all of) in
    record { none = task-none matched (said_by mistake) why; why = why }
refuses matched name rows (faults.Clap error) is of = tt
refuses matched name rows (faults.Memory refused) is of = tt

-- what is asked for by the subcommand that was matched
pub asks-for : (matched : Option (List ℕ × List Row)) (name : List ℕ) (rows : List Row) (request : Request) → matched ≡ Some (name, rows)
    → IfOk request.task (AreMatchesOf name rows) → IfErr request.task (RefusesMatches name rows) → request.explain ≡ flag_of (first_of (codes "explain") rows)
    → AsksFor matched request
asks-for matched name rows request is ok err explain = record {
  ok = IfOk-weaker request.task _ _ (λ (task : Task) (of : AreMatchesOf name rows task). record { name = name; rows = rows; is = is; matches = of }) ok;
  err = IfErr-weaker request.task _ _ (λ (fault : TaskFault) (of : RefusesMatches name rows fault). refuses matched name rows fault is of) err;
  explain = explain ∙ ap wants_explanation (sym is);
}
