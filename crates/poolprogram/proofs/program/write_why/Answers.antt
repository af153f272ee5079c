use Rattle.std.proofs.Common.{[], false, Some, refl, sym, subst}
use Rattle.streams.proofs.Sayings.{says_nothing}
use Rattle.poolprogram.specs.Program.{IsWhyIf}
use Rattle.poolprogram.proofs.program.write_why.Goals as goal

pub returns-in-Err : goal.returns-in-Err
returns-in-Err g c = record {
  why = [];
  is = subst (λ subject. IsWhyIf (Some subject) c.args.file.now c.args.why c.args.done.now false []) (sym c.in-Err.is) (refl, refl);
  says = says_nothing g.E.Write.contents c.args.errors.now;
}
