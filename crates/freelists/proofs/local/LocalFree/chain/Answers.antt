use Rattle.std.proofs.Common.{subst}
use Rattle.freelists.specs.Queues.{AreFree}
use Rattle.freelists.proofs.FreeLemmas.{all_free}
use Rattle.freelists.proofs.local.LocalFree.chain.Goals as goal

pub returns-clause-places : goal.returns-clause-places
returns-clause-places c = subst AreFree c.self.view_is (all_free c.self.inside c.self.invariant)
