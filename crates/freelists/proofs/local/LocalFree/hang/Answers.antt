use Rattle.std.proofs.Common.{Some}
use Rattle.freelists.proofs.FreeLemmas.{keeps-hung, all_free}
use Rattle.freelists.proofs.local.LocalFree.hang.Goals as goal

pub invariant_of-self : goal.invariant_of-self
invariant_of-self c = keeps-hung c.self.inside c.args.self.now c.args.place c.self.view_is c.self.invariant c.requires.away

pub returns-clause-places : goal.returns-clause-places
returns-clause-places c = all_free (record c.self.inside { chain = Some c.args.place })
    (keeps-hung c.self.inside c.args.self.now c.args.place c.self.view_is c.self.invariant c.requires.away)
