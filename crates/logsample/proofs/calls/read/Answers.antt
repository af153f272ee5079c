use Rattle.std.proofs.Common.{rules}
use Rattle.std.proofs.lemmas.Option.{IfSome_then}
use Rattle.logsample.proofs.calls.read.Goals as goal

pub returns-clause-shown : goal.returns-clause-shown
returns-clause-shown g c = IfSome_then c.with.result c.with.ensures.some (λ line found content published. let same = found.3 content published in let ran = found.1 in search rules)

pub returns-clause-uses : goal.returns-clause-uses
returns-clause-uses g c = c.with.ensures.uses

pub returns-clause-misses : goal.returns-clause-misses
returns-clause-misses g c = c.with.ensures.misses

pub returns-clause-outside : goal.returns-clause-outside
returns-clause-outside g c = c.with.ensures.outside

pub returns-clause-keeps : goal.returns-clause-keeps
returns-clause-keeps g c = c.with.ensures.keeps
