-- The lane's book has the commands that the core counts as left.
use Rattle.std.proofs.Common.{◌∙◌, ap}
use Rattle.coresteps.specs.Kept.{CoreState}
use Rattle.coresteps.proofs.CoreLemmas.{finished_by}
use Rattle.coresteps.proofs.replay.Core.finished.Goals as goal

pub returns-in-Some : goal.returns-in-Some
returns-in-Some c = λ w most k.
    finished_by c.args.self.now w most c.args.lane c.deref.result.now c.in-Some.of.now c.as_slice.result.now k
    (c.deref.ensures.value ∙ ap (λ (core : CoreState). core.lanes) c.self.view_is)
    c.in-Some.ensures.lookup.0 c.in-Some.ensures.lookup.1 c.as_slice.ensures
