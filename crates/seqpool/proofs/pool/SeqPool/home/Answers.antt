use Rattle.std.proofs.Common.{rules, ◌≡◌, ◌∙◌, sym, ap}
use Rattle.seqpool.specs.Pool.{Spot, with}
use Rattle.seqpool.specs.Rows.{pool_in, phase_of}
use Rattle.seqpool.proofs.Acts.{homes}
use Rattle.seqpool.proofs.pool.SeqPool.home.Goals as goal

pub returns : goal.returns
returns c =
    let here : phase_of c.row-row.result.now.standing ≡ with c.args.lane = search rules in
    let is : (pool_in c.args.self.now c.args.place).phase ≡ with c.args.lane = ap (λ (s : Spot). s.phase) (sym c.row-row.ensures) ∙ here in
    let made = homes c.args.self.now.shape (pool_in c.args.self.now) (pool_in c.put.new.self) c.args.lane c.args.place c.row-row.result.now.generation
    (search rules) is (search rules) (ap (λ (s : Spot). s.generation) (sym c.row-row.ensures)) c.put.ensures.pool in
    (made.0, made.1, c.put.ensures.shape)
