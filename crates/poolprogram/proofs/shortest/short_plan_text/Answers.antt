use Rattle.std.proofs.Common.{ℕ, List, refl, subst}
use Rattle.std.specs.Io.KnownBytes.{Appends}
use Rattle.poolprogram.specs.Shortenings.{IsShortText}
use Rattle.poolprogram.proofs.shortest.short_plan_text.Goals as goal

pub returns-clause-ok : goal.returns-clause-ok
returns-clause-ok g c =
    let contents = g.W.Write.contents in
    let old = contents c.args.out.now.inner in
    let new = contents c.write_and_flush.new.out.inner in
    let plan = c.in_ok-plan.plan in
    let short = c.in_ok-scripts.field-0 in
    let text = c.in_ok-text.text.items in record {
      plan = plan;
      schedule = c.in_ok-plan.schedule.items;
      planned = c.in_ok-plan.ensures.ok;
      short = short;
      shortest = c.in_ok-scripts.ensures.ok;
      told = refl;
      text = text;
      says = subst (λ (schedule : List ℕ). IsShortText plan.shape short.scripts.items schedule text) c.as_slice.ensures.value c.in_ok-text.ensures.ok;
      appended = subst (λ (all : List ℕ). Appends old new all) c.as_slice-2.ensures.value c.in_ok-write_and_flush.ensures.ok;
    }
