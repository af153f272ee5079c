use Rattle.std.proofs.Common.{sym}
use Rattle.workers.proofs.Keeping.{tidy-held}
use Rattle.workers.proofs.Running.{runs-release}
use Rattle.workers.proofs.lines.release.Goals as goal

pub release-requires-clause-held : goal.release-requires-clause-held
release-requires-clause-held c =
    tidy-held c.requires.tidy c.args.register.number c.args.register.small c.in-Some.reference (sym c.in-Some.ensures.reference)

pub returns : goal.returns
returns c =
    let did = c.release.ensures in
    runs-release c.args.register c.requires.tidy did.owns c.in-Some.reference (sym c.in-Some.ensures.reference) did.fillings did.called did.releases did.refs did.one_less
    c.take_reference.new.registers c.in-Some.ensures.registers
