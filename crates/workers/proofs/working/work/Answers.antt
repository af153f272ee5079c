use Rattle.std.proofs.Common.{List, sym, subst}
use Rattle.workers.specs.declared.registers.Register.{Register}
use Rattle.workers.specs.Tidy.{Tidy, desk}
use Rattle.workers.proofs.Keeping.{tidy-first}
use Rattle.workers.proofs.working.work.Goals as goal

pub run_lines-stopped_at-requires-clause-tidy : goal.run_lines-stopped_at-requires-clause-tidy
run_lines-stopped_at-requires-clause-tidy g c =
    let may = c.requires.may in
    subst (λ (registers : List Register). Tidy c.args.pool.now (desk c.args.lane registers)) (sym c.all_empty-registers.ensures)
    (tidy-first c.args.pool.now c.args.lane may.0 may.1)
