-- The other loans are of other keys than the one that is given back.
use Rattle.std.proofs.Common.{ap, ◌∙◌}
use Rattle.shardpool.specs.Loans.{LoanOf}
use Rattle.shardpool.proofs.lending.LendingLane.give_back.Goals as goal

pub returns-clause-kept : goal.returns-clause-kept
returns-clause-kept g c loan apart lent = c.take_back.ensures.kept loan (λ same. apart (same ∙ ap (λ (l : LoanOf _). l.key) c.loan.view_is)) lent
