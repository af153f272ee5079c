use Rattle.std.proofs.Common.{◌≡◌, inl, ℕ, Some, ap, sym, ◌∙◌, subst, arith}
use Rattle.keybits.specs.Keys.{place_of, generation_of}
use Rattle.poolsteps.specs.AtOnce.{unreferred}
use Rattle.poolsteps.specs.Layout.{spots_at}
use Rattle.seatcalls.specs.Called.{Tails, TailActs, IsReclaimed, StandsAt}
use Rattle.seatcalls.proofs.parts.Standing.{at-own, at-same}
use Rattle.shardpool.proofs.parts.Handing.{hands-none, hands-behind, hands-after, hands-swept, sees-mine}
use Rattle.seatcalls.proofs.parts.SweptWords.{owes-low, referred-so}
use Rattle.shardpool.proofs.parts.AtOnce.{called-most, called-looked, missed-called, missed-acts, struck-called, struck-looked, struck-mine, missed-mine, swept, swept-held, swept-lane, swept-under, swept-pushed, swept-called, swept-acts}
use Rattle.shardpool.proofs.clear.try_clear.Goals as goal

-- ---- the SWEEP found what it expects

pub reclaim_place-reclaimed-requires-clause-act : goal.reclaim_place-reclaimed-requires-clause-act
reclaim_place-reclaimed-requires-clause-act g c =
    let first = c.unreferred.ensures ∙ ap unreferred c.generation_of-generation.ensures in
    let sweeps = c.sweep-found.ensures.sweeps.0 (c.if-found-unreferred.true ∙ first) in
    record {
      hand = (c.sweep-found.ensures.hand.0 ∙ c.requires.call.act.hand.0, (swept c.requires.key sweeps).acted.one);
      bare = swept-held c.requires.key sweeps ∙ c.requires.call.act.bare;
      at = at-own (at-same (swept-lane c.requires.key sweeps) (swept-pushed c.requires.key sweeps) c.requires.call.act.at);
    }

pub reclaim_place-reclaimed-requires-clause-under : goal.reclaim_place-reclaimed-requires-clause-under
reclaim_place-reclaimed-requires-clause-under g c =
    let first = c.unreferred.ensures ∙ ap unreferred c.generation_of-generation.ensures in
    let sweeps = c.sweep-found.ensures.sweeps.0 (c.if-found-unreferred.true ∙ first) in
    rw (c.requires.call.act.at.lane, c.requires.call.act.at.spot.place_is, c.generation_of-generation.ensures) (swept-under c.requires.key sweeps)

pub returns-then-found-unreferred-clause-clears : goal.returns-then-found-unreferred-clause-clears
returns-then-found-unreferred-clause-clears g c =
    let z = c.args.grid.now.shape in
    let b = c.sweep-found.new.hand.me in
    let d = c.reclaim_place-reclaimed.new.hand.me in
    let place_is = c.requires.call.act.at.spot.place_is in
    let of = c.generation_of-generation.ensures in
    let ends = c.reclaim_place-reclaimed.ensures in
    let sweeps = c.sweep-found.ensures.sweeps.0 (c.if-found-unreferred.true ∙ (c.unreferred.ensures ∙ ap unreferred of)) in
    let tails : Tails z (place_of c.args.key) (generation_of c.args.key) b d = subst (λ (p : ℕ). Tails z p (generation_of c.args.key) b d) place_is
    (subst (λ (n : ℕ). Tails z c.args.at.spot.place n b d) of ends.tails) in
    let made : TailActs z (place_of c.args.key) (generation_of c.args.key) b.0 d.0 c.reclaim_place-reclaimed.result
    = subst (λ (p : ℕ). TailActs z p (generation_of c.args.key) b.0 d.0 c.reclaim_place-reclaimed.result) place_is
    (subst (λ (n : ℕ). TailActs z c.args.at.spot.place n b.0 d.0 c.reclaim_place-reclaimed.result) of ends.acts) in
    record {
      called = called-most (swept-called c.requires.key sweeps tails) (omega arith);
      acts = rw c.requires.call.act.at.lane (swept-acts c.requires.key sweeps c.reclaim_place-reclaimed.result tails made);
      told = subst (λ (p : ℕ). IsReclaimed g.T.Clear.content g.T.Clear.room z p c.args.at.lane d.0 c.reclaim_place-reclaimed.result) place_is ends.reclaimed;
      at = subst (λ (p : ℕ). StandsAt (spots_at c.args.grid.now.objects.ptr z p) (Some c.reclaim_place-reclaimed.result)) place_is ends.at;
    }

-- ---- the STRIKE found what it expects

pub returns-then-strike-found-clause-clears : goal.returns-then-strike-found-clause-clears
returns-then-strike-found-clause-clears g c =
    let first = c.unreferred.ensures ∙ ap unreferred c.generation_of-generation.ensures in
    let hit = sym c.is_hit.ensures ∙ c.if-is_hit.true in
    let other = λ (same : c.sweep-found.result ≡ unreferred (generation_of c.args.key)). c.if-found-unreferred.false (same ∙ sym first) in
    let some = referred-so c.args.key c.sweep-found.result hit other in
    let looked = c.sweep-found.ensures.sweeps.2 other (inl hit) in
    let strikes = c.strike.ensures.strikes.0 c.if-strike-found.true in
    record {
      called = called-looked looked (struck-called c.requires.key hit some strikes) (omega arith);
      acts = rw c.requires.call.act.at.lane (struck-looked c.requires.key hit some strikes looked g.row.T.Denot);
      told = tt;
      at = tt;
    }

-- ---- the key misses

pub returns-clause-clears : goal.returns-clause-clears
returns-clause-clears g c =
    let miss = sym c.is_hit.ensures ∙ c.if-is_hit.false in
    let none = sym (owes-low c.sweep-found.result) ∙ (sym c.owes_claim.ensures ∙ c.if-owes_claim.false) in
    let misses = c.sweep-found.ensures.sweeps.1 miss none in
    record {
      called = called-most (missed-called c.requires.key miss none misses) (omega arith);
      acts = rw c.requires.call.act.at.lane (missed-acts c.requires.key miss none misses g.row.T.Denot);
      told = tt;
      at = tt;
    }

-- ---- what the emptier took

pub returns-then-found-unreferred-clause-hands : goal.returns-then-found-unreferred-clause-hands
returns-then-found-unreferred-clause-hands g c =
    let z = c.args.grid.now.shape in
    let b = c.sweep-found.new.hand.me in
    let d = c.reclaim_place-reclaimed.new.hand.me in
    let place_is = c.requires.call.act.at.spot.place_is in
    let of = c.generation_of-generation.ensures in
    let ends = c.reclaim_place-reclaimed.ensures in
    let sweeps = c.sweep-found.ensures.sweeps.0 (c.if-found-unreferred.true ∙ (c.unreferred.ensures ∙ ap unreferred of)) in
    let tails : Tails z (place_of c.args.key) (generation_of c.args.key) b d = subst (λ (p : ℕ). Tails z p (generation_of c.args.key) b d) place_is
    (subst (λ (n : ℕ). Tails z c.args.at.spot.place n b d) of ends.tails) in
    let made : TailActs z (place_of c.args.key) (generation_of c.args.key) b.0 d.0 c.reclaim_place-reclaimed.result
    = subst (λ (p : ℕ). TailActs z p (generation_of c.args.key) b.0 d.0 c.reclaim_place-reclaimed.result) place_is
    (subst (λ (n : ℕ). TailActs z c.args.at.spot.place n b.0 d.0 c.reclaim_place-reclaimed.result) of ends.acts) in
    hands-swept g.E.Emptier.takes z c.args.key c.args.hand.now.me b d c.reclaim_place-reclaimed.result c.requires.key sweeps (rw place_is at ends.took) tails made

pub returns-then-strike-found-clause-hands : goal.returns-then-strike-found-clause-hands
returns-then-strike-found-clause-hands g c =
    let first = c.unreferred.ensures ∙ ap unreferred c.generation_of-generation.ensures in
    let hit = sym c.is_hit.ensures ∙ c.if-is_hit.true in
    let other = λ (same : c.sweep-found.result ≡ unreferred (generation_of c.args.key)). c.if-found-unreferred.false (same ∙ sym first) in
    let some = referred-so c.args.key c.sweep-found.result hit other in
    let looked = c.sweep-found.ensures.sweeps.2 other (inl hit) in
    let strikes = c.strike.ensures.strikes.0 c.if-strike-found.true in
    hands-behind g.E.Emptier.takes c.args.hand.now.me.0 c.sweep-found.new.hand.me.0 c.strike.new.hand.me.0 (sees-mine looked)
    (hands-after g.E.Emptier.takes c.sweep-found.new.hand.me.0 c.strike.new.hand.me.0 c.strike.new.hand.me.0 _ (struck-mine c.requires.key hit some strikes) (λ made took. took)
    (hands-none g.E.Emptier.takes c.strike.new.hand.me.0 c.args.emptier.now))

pub returns-clause-hands : goal.returns-clause-hands
returns-clause-hands g c =
    let miss = sym c.is_hit.ensures ∙ c.if-is_hit.false in
    let none = sym (owes-low c.sweep-found.result) ∙ (sym c.owes_claim.ensures ∙ c.if-owes_claim.false) in
    let misses = c.sweep-found.ensures.sweeps.1 miss none in
    hands-after g.E.Emptier.takes c.args.hand.now.me.0 c.sweep-found.new.hand.me.0 c.sweep-found.new.hand.me.0 _ (missed-mine c.requires.key miss none misses) (λ made took. took)
    (hands-none g.E.Emptier.takes c.sweep-found.new.hand.me.0 c.args.emptier.now)
