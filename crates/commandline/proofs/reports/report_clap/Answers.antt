use Rattle.std.proofs.Common.{inr, refl}
use Rattle.commandline.proofs.reports.report_clap.Goals as goal

pub returns-in_default : goal.returns-in_default
returns-in_default g c = inr (record { status_is = refl; says = c.write_text.ensures })
