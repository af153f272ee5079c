use Rattle.std.proofs.Common.{[], true, refl, sym, subst}
use Rattle.streams.proofs.Sayings.{says_nothing}
use Rattle.poolprogram.specs.Program.{IsWhyIf}
use Rattle.poolprogram.proofs.program.write_why_if.Goals as goal

pub returns-in-None : goal.returns-in-None
returns-in-None g c = record {
  why = [];
  is = subst (λ subject. IsWhyIf subject c.args.file.now c.args.why c.args.done.now true []) (sym c.in-None.is) (refl, refl);
  says = says_nothing g.E.Write.contents c.args.errors.now;
}
