use Rattle.std.proofs.Common.{rules, ◌≡◌, ◌∙◌, true, sym, ap}
use Rattle.seqpool.specs.Pool.{Spot, is_unmarked}
use Rattle.seqpool.specs.Rows.{pool_in}
use Rattle.seqpool.proofs.Acts.{clearing}
use Rattle.seqpool.proofs.pool.SeqPool.clear.Goals as goal

pub returns-then-reply : goal.returns-then-reply
returns-then-reply c =
    let same : c.is_unmarked.result ≡ true = search rules in
    let unmarked : is_unmarked (pool_in c.args.self.now c.in-Some.place).phase ≡ true =
    ap (λ (s : Spot). is_unmarked s.phase) (sym c.row.ensures) ∙ (sym c.is_unmarked.ensures ∙ same) in
    let is = c.in-Some.ensures {u = tt} in
    let made = clearing c.args.self.now.shape (pool_in c.args.self.now) (pool_in c.mark.new.self) c.args.lane c.args.key c.in-Some.place c.args.reply is.0 is.2 unmarked c.mark.ensures.pool c.if-reply.true in
    (made.0, made.1, c.mark.ensures.shape)
