-- What is told of a mistake is a line that can be printed, and short.
use Rattle.std.proofs.Common.{◌≡◌, ℕ, ◌+◌, ◌≤◌, List, ◌++◌, Option, Some, None, length, decimal, codes, refl, arith}
use Rattle.std.proofs.lemmas.Bool.{leb-true}
use Rattle.std.proofs.lemmas.List.{length-append}
use Rattle.schedules.specs.Schedules.{bad_entry}
use Rattle.streams.specs.Shown.{cut, IsSafeLine}
use Rattle.streams.proofs.SafeLines.{length-cut, length-decimal, printable-bytes}
use Rattle.commandline.specs.MistakeTexts.{before_of, after_of, entry_told, where_of, mistake_told, mistake_text}
use Rattle.commandline.specs.declared.mistakes.Mistake.{Mistake}
use Rattle.commandline.specs.declared.mistakes.Reason.{Reason}
use Rattle.commandline.specs.declared.mistakes.Reason.TheVariants.{NoTurns, SeedAlone, TurnsAlone, ScheduleAndMore, BadSchedule, BadFile, InputTwice, TwoTexts, BadSeed, BadTurns, BadStop, BadTries, BadMost, BadNumber, BadHexadecimal, BadFrom, BadCount, NoText, Missing}

four : (one two three last : List ℕ) → length (one ++ two ++ three ++ last) ≡ length one + length two + length three + length last
four one two three last = omega (arith, length-append (one ++ two ++ three) last, length-append (one ++ two) three, length-append one two)

before-short : (reason : Reason) → length (before_of reason) ≤ 200
before-short NoTurns = leb-true (length (before_of NoTurns)) 200 refl
before-short SeedAlone = leb-true (length (before_of SeedAlone)) 200 refl
before-short TurnsAlone = leb-true (length (before_of TurnsAlone)) 200 refl
before-short ScheduleAndMore = leb-true (length (before_of ScheduleAndMore)) 200 refl
before-short BadSchedule = leb-true (length (before_of BadSchedule)) 200 refl
before-short BadFile = leb-true (length (before_of BadFile)) 200 refl
before-short InputTwice = leb-true (length (before_of InputTwice)) 200 refl
before-short TwoTexts = leb-true (length (before_of TwoTexts)) 200 refl
before-short BadSeed = leb-true (length (before_of BadSeed)) 200 refl
before-short BadTurns = leb-true (length (before_of BadTurns)) 200 refl
before-short BadStop = leb-true (length (before_of BadStop)) 200 refl
before-short BadTries = leb-true (length (before_of BadTries)) 200 refl
before-short BadMost = leb-true (length (before_of BadMost)) 200 refl
before-short BadNumber = leb-true (length (before_of BadNumber)) 200 refl
before-short BadHexadecimal = leb-true (length (before_of BadHexadecimal)) 200 refl
before-short BadFrom = leb-true (length (before_of BadFrom)) 200 refl
before-short BadCount = leb-true (length (before_of BadCount)) 200 refl
before-short NoText = leb-true (length (before_of NoText)) 200 refl
before-short Missing = leb-true (length (before_of Missing)) 200 refl

after-short : (reason : Reason) → length (after_of reason) ≤ 200
after-short NoTurns = leb-true (length (after_of NoTurns)) 200 refl
after-short SeedAlone = leb-true (length (after_of SeedAlone)) 200 refl
after-short TurnsAlone = leb-true (length (after_of TurnsAlone)) 200 refl
after-short ScheduleAndMore = leb-true (length (after_of ScheduleAndMore)) 200 refl
after-short BadSchedule = leb-true (length (after_of BadSchedule)) 200 refl
after-short BadFile = leb-true (length (after_of BadFile)) 200 refl
after-short InputTwice = leb-true (length (after_of InputTwice)) 200 refl
after-short TwoTexts = leb-true (length (after_of TwoTexts)) 200 refl
after-short BadSeed = leb-true (length (after_of BadSeed)) 200 refl
after-short BadTurns = leb-true (length (after_of BadTurns)) 200 refl
after-short BadStop = leb-true (length (after_of BadStop)) 200 refl
after-short BadTries = leb-true (length (after_of BadTries)) 200 refl
after-short BadMost = leb-true (length (after_of BadMost)) 200 refl
after-short BadNumber = leb-true (length (after_of BadNumber)) 200 refl
after-short BadHexadecimal = leb-true (length (after_of BadHexadecimal)) 200 refl
after-short BadFrom = leb-true (length (after_of BadFrom)) 200 refl
after-short BadCount = leb-true (length (after_of BadCount)) 200 refl
after-short NoText = leb-true (length (after_of NoText)) 200 refl
after-short Missing = leb-true (length (after_of Missing)) 200 refl

entry-short : (bad : Option (ℕ × List ℕ)) → length (entry_told bad) ≤ 200
entry-short None = omega arith
entry-short (Some (before, entry)) =
    let begun = codes "; entry " ++ decimal (before + 1) ++ codes " is \"" ++ cut entry in
    omega (
      arith,
      length-append begun (codes "\""),
      four (codes "; entry ") (decimal (before + 1)) (codes " is \"") (cut entry),
      leb-true (length (codes "; entry ")) 20 refl,
      leb-true (length (codes " is \"")) 20 refl,
      leb-true (length (codes "\"")) 1 refl,
      length-decimal (before + 1),
      length-cut entry,
    )

where-short : (reason : Reason) (found : List ℕ) → length (where_of reason found) ≤ 200
where-short NoTurns found = omega arith
where-short SeedAlone found = omega arith
where-short TurnsAlone found = omega arith
where-short ScheduleAndMore found = omega arith
where-short BadSchedule found = entry-short (bad_entry found)
where-short BadFile found = entry-short (bad_entry found)
where-short InputTwice found = omega arith
where-short TwoTexts found = omega arith
where-short BadSeed found = omega arith
where-short BadTurns found = omega arith
where-short BadStop found = omega arith
where-short BadTries found = omega arith
where-short BadMost found = omega arith
where-short BadNumber found = omega arith
where-short BadHexadecimal found = omega arith
where-short BadFrom found = omega arith
where-short BadCount found = omega arith
where-short NoText found = omega arith
where-short Missing found = omega arith

-- the line that explains a mistake is safe
pub safe-mistake : (mistake : Mistake) → IsSafeLine (mistake_text mistake)
safe-mistake mistake =
    let found = mistake.found.items in
    let reason = mistake.reason in record {
      told = mistake_told mistake;
      short = omega (arith, four (before_of reason) (cut found) (after_of reason) (where_of reason found), before-short reason, length-cut found, after-short reason, where-short reason found);
      is = refl;
      printable = printable-bytes (mistake_told mistake);
    }
