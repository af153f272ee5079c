use Rattle.std.proofs.lemmas.Result.{MatchResult-weaker}
use Rattle.seqpool.proofs.TextLaws.{stands-same}
use Rattle.seqpool.proofs.WrongLines.{only-memory, shape-refused}
use Rattle.seqpool.proofs.acts_reader.read_acts.Goals as goal

pub returns-clause-only : goal.returns-clause-only
returns-clause-only c = λ z acts there.
    MatchResult-weaker c.read_text.result c.read_text.ensures
    (λ found answer. stands-same c.args.bytes.now found.0 z found.1.items acts answer there)
    (λ refused told. only-memory c.args.bytes.now z acts refused there told)

pub returns-clause-shape : goal.returns-clause-shape
returns-clause-shape c = λ fault has.
    shape-refused c.args.bytes.now c.read_text.result (λ found. found.0) (λ found. found.1.items) fault c.read_text.ensures has
