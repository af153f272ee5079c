use Rattle.std.proofs.Common.{◌≡◌, ◌∙◌, sym, ap, arith}
use Rattle.seqpool.specs.Pool.{Spot, references_in}
use Rattle.seqpool.specs.Rows.{pool_in}
use Rattle.seqpool.proofs.Acts.{releases}
use Rattle.seqpool.proofs.pool.SeqPool.release.Goals as goal

pub returns-else-references-eq0 : goal.returns-else-references-eq0
returns-else-references-eq0 c =
    let held : references_in (pool_in c.args.self.now c.in-Some.place).phase c.args.lane ≡ c.references.result =
    ap (λ (s : Spot). references_in s.phase c.args.lane) (sym c.row.ensures) ∙ sym c.references.ensures in
    let is = c.in-Some.ensures {u = tt} in
    let made = releases c.args.self.now.shape (pool_in c.args.self.now) (pool_in c.lose.new.self) c.args.lane c.args.key c.in-Some.place is.0 is.2 (omega arith) c.lose.ensures.pool in
    (made.0, made.1, c.lose.ensures.shape)
