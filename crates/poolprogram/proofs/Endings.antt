-- What is explained of a task, where that is wanted.
use Rattle.std.proofs.Common.{ℕ, List, Bool, true, false, Option, Some, None, Result}
use Rattle.std.specs.declared.alloc.AllocError.{AllocError}
use Rattle.commandline.specs.declared.tasks.Task.{Task}
use Rattle.streams.specs.declared.write_failed.Unwritable.{Unwritable}
use Rattle.poolprogram.specs.Program.{IsSubjectIf, IsWhyIf, ExplainsIf}
use Rattle.poolprogram.specs.declared.done.Done.{Done}
use Rattle.poolprogram.specs.declared.explanation.Subject.{Subject}
use Rattle.poolprogram.specs.declared.run_fault.RunFault.{RunFault}

pub explains : (wanted : Bool) (task : Task) (subject : Option (Result Subject AllocError)) (file : List ℕ) (reason : Unwritable) (done : Result Done RunFault)
    (explained : Bool) (text : List ℕ)
    → IsSubjectIf wanted task subject → IsWhyIf subject file reason done explained text → ExplainsIf wanted task file reason done explained text
explains true task (Some subject) file reason done explained text about is = record { subject = subject; about = about; is = is }
explains true task None file reason done explained text about is = absurd about
explains false task (Some subject) file reason done explained text about is = absurd about
explains false task None file reason done explained text about is = is
