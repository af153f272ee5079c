use Rattle.std.proofs.Common.{sym, subst}
use Rattle.streams.specs.Saying.{Says}
use Rattle.streams.proofs.Sayings.{says_nothing}
use Rattle.poolprogram.specs.Tasks.{report_text}
use Rattle.poolprogram.proofs.tasks.write_report.Goals as goal

pub returns-in-Ok : goal.returns-in-Ok
returns-in-Ok g c =
    let contents = g.W.Write.contents in
    let out = c.args.out.now in
    subst (λ done. Says contents out out (report_text done)) (sym c.in-Ok.is) (says_nothing contents out)
