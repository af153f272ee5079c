-- The lane's invariant has the law.
use Rattle.std.proofs.Common.{◌≡◌, ◌≢◌, sym, ap, ◌∙◌, arith}
use mathlib.Core.Logic.{dite}
use native.Mathlib.Decide.{ℕ_discrete}
use Rattle.freelists.specs.Queues.{numbers}
use Rattle.seqpool.specs.Pool.{with}
use Rattle.steplaws.proofs.HomePlaces.{repeats-none}
use Rattle.poolsteps.specs.Told.{references_seen}
use Rattle.shardpool.proofs.calls.Gets.{seen-within}
use Rattle.shardpool.proofs.calls.Releases.{place-inside}
use Rattle.shardpool.proofs.free.Known.{listed-kept, chained-kept, listed-unchained, hangs-first}
use Rattle.shardpool.proofs.pool.Lane.places_law.Goals as goal

pub returns-clause-listed : goal.returns-clause-listed
returns-clause-listed g c = rw (← c.self.view_is) (listed-kept c.self.inside.hand.table_id c.self.invariant.1 c.len.ensures.places)

pub returns-clause-chained : goal.returns-clause-chained
returns-clause-chained g c = rw (← c.self.view_is) (chained-kept c.self.inside.hand.table_id c.self.invariant.1)

pub returns-clause-once : goal.returns-clause-once
returns-clause-once g c = rw (← c.self.view_is) (repeats-none (numbers c.self.inside.state.free.own) c.len.ensures.places.own.each_once, c.self.invariant.1.stores.unrepeated)

pub returns-clause-apart : goal.returns-clause-apart
returns-clause-apart g c = rw (← c.self.view_is) (listed-unchained c.self.inside.hand.table_id c.self.invariant.1)

pub returns-clause-first : goal.returns-clause-first
returns-clause-first g c = rw (← c.self.view_is) (hangs-first c.self.inside.hand.table_id c.self.invariant.1 c.len.ensures.places)

pub returns-clause-unopened : goal.returns-clause-unopened
returns-clause-unopened g c =
    let fits = c.self.invariant.1 in
    let number = fits.seat.number_is in
    rw (← c.self.view_is) (λ place inside own high. (fits.stores.unopened place inside (own ∙ number) high).with_lane ∙ ap with (sym number))

pub returns-clause-held : goal.returns-clause-held
returns-clause-held g c =
    let s = c.self.inside.state in
    let fits = c.self.invariant.1 in
    rw (← c.self.view_is) (λ key. dite (ℕ_discrete (references_seen s.shape c.self.inside.hand.me.0 key) 0)
    (λ (none : references_seen s.shape c.self.inside.hand.me.0 key ≡ 0). omega (arith, none))
    (λ (some : references_seen s.shape c.self.inside.hand.me.0 key ≢ 0). seen-within fits key (place-inside s key fits (omega (arith, some)))))
