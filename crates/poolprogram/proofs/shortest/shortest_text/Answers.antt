use Rattle.std.proofs.Common.{ℕ, List, refl, subst}
use Rattle.std.specs.Io.KnownBytes.{Appends}
use Rattle.schedules.specs.Schedules.{schedule_line}
use Rattle.poolprogram.proofs.shortest.shortest_text.Goals as goal

pub returns-clause-ok : goal.returns-clause-ok
returns-clause-ok g c =
    let contents = g.W.Write.contents in
    let old = contents c.args.out.now.inner in
    let new = contents c.write_line.new.out.inner in record {
      plan = c.in_ok-plan.plan;
      schedule = c.in_ok-plan.schedule.items;
      planned = c.in_ok-plan.ensures.ok;
      short = c.in_ok-schedule.field-0;
      shortest = c.in_ok-schedule.ensures.ok;
      told = refl;
      appended = subst (λ (left : List ℕ). Appends old new (schedule_line left)) c.as_slice.ensures.value c.in_ok-write_line.ensures.ok;
    }
