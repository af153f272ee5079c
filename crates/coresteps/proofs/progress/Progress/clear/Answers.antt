use Rattle.coresteps.proofs.RegisterLemmas.{clear_done, clear_skips}
use Rattle.coresteps.proofs.progress.Progress.clear.Goals as goal

pub returns-in-Some : goal.returns-in-Some
returns-in-Some c z w number lane more kept below at left =
    clear_done z w number lane more kept below c.args.self.now at c.args.operand c.in-Some.field-0
    (c.in-Some.ensures lane.script (w.books number) at.slots) left

pub returns-in-None : goal.returns-in-None
returns-in-None c z w number lane more kept below at left =
    clear_skips z w number lane more kept below c.args.self.now at c.args.operand (c.in-None.ensures lane.script (w.books number) at.slots) left
