use Rattle.std.proofs.Common.{◌++◌, refl}
use Rattle.streams.proofs.Sayings.{says_more}
use Rattle.poolprogram.specs.Tasks.{report_text}
use Rattle.poolprogram.proofs.program.end_task.Goals as goal

pub returns : goal.returns
returns g c =
    let told = c.write_why_if-explained.ensures in
    let report = report_text c.args.done.now in record {
      status_is = c.status_of-status.ensures;
      why = told.why;
      is = told.is;
      says = says_more g.E.Write.contents c.args.errors.now c.write_report.new.out c.write_why_if-explained.new.errors report told.why (report ++ told.why)
          c.write_report.ensures told.says refl;
    }
