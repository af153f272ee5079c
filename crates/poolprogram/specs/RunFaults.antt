-- The numbers and the names of faults.
use Rattle.std.specs.Prelude.{ℕ, List, codes}
use Rattle.seqpool.specs.FaultNames.{acts_fault_name}
use Rattle.seqpool.specs.Refusals.{acts_fault_number}
use Rattle.scripts.specs.ScriptFaults.{script_fault_number, script_fault_name}
use Rattle.streams.specs.declared.reading.Unread.{Unread}
use Rattle.streams.specs.declared.reading.Unread.TheVariants as unread
use Rattle.shortening.specs.declared.fault.Unshortened.TheVariants as shortenings
use Rattle.poolprogram.specs.declared.run_fault.RunFault.{RunFault}
use Rattle.poolprogram.specs.declared.run_fault.RunFault.TheVariants as runs

-- the fault of a file or an input that wasn't read
abbrev pub unread_fault : Unread → RunFault
unread_fault unread.Memory = runs.Memory
unread_fault (unread.File why) = runs.File why

-- the number of a fault; the core's only one is want of memory
abbrev pub run_fault_number : RunFault → ℕ
run_fault_number (runs.Read refusal) = script_fault_number refusal.fault
run_fault_number (runs.Acts refusal) = acts_fault_number refusal.fault
run_fault_number (runs.Core fault) = 25
run_fault_number (runs.Absent decoded) = 44
run_fault_number (runs.Shortening shortenings.Fails) = 44
run_fault_number (runs.Shortening shortenings.Limit) = 45
run_fault_number (runs.Shortening shortenings.Memory) = 25
run_fault_number (runs.TooMany reached) = 46
run_fault_number runs.Open = 5
run_fault_number (runs.File why) = 41
run_fault_number runs.Output = 42
run_fault_number runs.Memory = 43

-- the name of a fault
abbrev pub run_fault_name : RunFault → List ℕ
run_fault_name (runs.Read refusal) = script_fault_name refusal.fault
run_fault_name (runs.Acts refusal) = acts_fault_name refusal.fault
run_fault_name (runs.Core fault) = codes "Memory"
run_fault_name (runs.Absent decoded) = codes "Absent"
run_fault_name (runs.Shortening shortenings.Fails) = codes "Absent"
run_fault_name (runs.Shortening shortenings.Limit) = codes "Limit"
run_fault_name (runs.Shortening shortenings.Memory) = codes "Memory"
run_fault_name (runs.TooMany reached) = codes "States"
run_fault_name runs.Open = codes "Memory"
run_fault_name (runs.File why) = codes "File"
run_fault_name runs.Output = codes "Output"
run_fault_name runs.Memory = codes "Memory"
