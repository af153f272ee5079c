use Rattle.std.proofs.Common.{arith, ◌<◌, ℕ, refl, sym, subst}
use Rattle.std.proofs.lemmas.Result.{on_ok_weaker}
use Rattle.seqpool.specs.Rows.{gained_spot}
use Rattle.seqpool.proofs.Acts.{change-row}
use Rattle.seqpool.proofs.pool.SeqPool.gain.Goals as goal

pub returns-clause-pool : goal.returns-clause-pool
returns-clause-pool c =
    on_ok_weaker c.gain.result
    (λ gains. change-row c.args.self.now.shape c.args.self.now.rows.items c.args.place c.position-position.result c.index_mut.result.now c.gain.new.self (gained_spot c.args.lane) c.args.self.now.checked c.requires.place c.position-position.ensures.position (omega arith) c.index_mut.ensures.value gains)
    c.gain.ensures.ok

pub position-position-requires-clause-shape : goal.position-position-requires-clause-shape
position-position-requires-clause-shape c = c.args.self.now.checked

pub position-position-requires-clause-place : goal.position-position-requires-clause-place
position-position-requires-clause-place c = c.requires.place

pub index_mut-requires : goal.index_mut-requires
index_mut-requires c = subst (λ (n : ℕ). c.position-position.result < n) (sym c.args.self.now.whole) c.position-position.ensures.below

pub invariant_of-self : goal.invariant_of-self
invariant_of-self c = record { checked = c.args.self.now.checked; narrow = c.args.self.now.narrow; alone = c.args.self.now.alone; whole = c.args.self.now.whole }

pub returns-clause-shape : goal.returns-clause-shape
returns-clause-shape c = refl
