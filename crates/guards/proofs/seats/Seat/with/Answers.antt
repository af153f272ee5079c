-- What a look shows is what is published under the key; it finds none behind a clear.
use Rattle.std.proofs.Common.{subst}
use Rattle.std.proofs.lemmas.Option.{IfSome_then}
use Rattle.shardpool.specs.Tokens.{PoolOf}
use Rattle.shardpool.proofs.frame.Standing.{published-later, missed-cleared}
use Rattle.poollaws.proofs.Ends.{unfound-law}
use Rattle.guards.specs.Several.{Missed}
use Rattle.guards.proofs.Seating.{look-goes, look-uses, look-misses, none-or}
use Rattle.guards.proofs.seats.Seat.with.Goals as goal

pub returns-clause-some : goal.returns-clause-some
returns-clause-some g c =
    IfSome_then c.with-answer.result c.with-answer.ensures.some (λ answer found. (
      found.0,
      found.3,
      (found.1, found.2),
      λ content published.
          c.once_law.ensures.content _ _ c.seen_law.ensures.legal found.1 published.0 _ _ content found.2
          (published-later _ _ published.0 _ content c.with-answer.ensures.seen published.1),
    ))

pub returns-clause-uses : goal.returns-clause-uses
returns-clause-uses g c =
    let looked = c.with-answer.ensures in
    look-uses c.args.key c.args.self.now.lane c.with-answer.new.lane c.args.self.now.pool.now.shape c.with-answer.result (λ out. looked.outside out) looked.gets

pub returns-clause-misses : goal.returns-clause-misses
returns-clause-misses g c = λ none.
    let looked = c.with-answer.ensures in
    subst (λ (pool : PoolOf). Missed pool.shape c.args.key c.args.self.now.lane c.with-answer.new.lane) c.args.self.now.pool_is
    (look-misses c.args.key c.args.self.now.lane c.with-answer.new.lane c.args.self.now.pool.now.shape c.with-answer.result (λ out. looked.outside out) looked.gets looked.called none)

pub returns-clause-keeps : goal.returns-clause-keeps
returns-clause-keeps g c = record { fillings = c.with-answer.ensures.fillings; held = c.with-answer.ensures.holds }

pub returns-clause-missed : goal.returns-clause-missed
returns-clause-missed g c = λ none content published. missed-cleared c.with-answer.ensures.seen (c.with-answer.ensures.missed none) published.0 content published.1

pub returns-clause-cleared : goal.returns-clause-cleared
returns-clause-cleared g c = λ cleared. none-or c.with-answer.result (λ some. unfound-law c.args.key c.args.self.now.lane c.with-answer.new.lane c.with-answer.ensures.seen cleared (c.with-answer.ensures.found some))

pub returns-clause-goes : goal.returns-clause-goes
returns-clause-goes g c = look-goes c.args.key c.args.self.now.lane c.with-answer.new.lane c.args.self.now.pool.now.shape c.with-answer.result (λ out. c.with-answer.ensures.outside out) c.with-answer.ensures.gets
