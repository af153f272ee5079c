use Rattle.std.proofs.Common.{◌==◌, ◌∷◌, [], inr, sym, ◌∙◌, true, false, refl, arith, subst, ℕ}
use Rattle.keybits.specs.Words.{state_in}
use Rattle.seqpool.specs.declared.act.Act.TheVariants as acts
use Rattle.poolsteps.specs.Views.{the_lane}
use Rattle.steplaws.specs.Calls.Call.{Clearing}
use Rattle.seatcalls.specs.Called.{caller_of}
use Rattle.seatcalls.proofs.parts.Calling.{Opens, enter-step, mark-step, life-under, clear-missed, clear-follows, clear-entered, clear-marked, clear-ends}
use Rattle.shardpool.specs.Halted.{CalledWithin}
use Rattle.shardpool.proofs.parts.Within.{called-not, called-part}
use Rattle.shardpool.proofs.parts.Halting.{called-undoes}
use Rattle.seatcalls.proofs.parts.Standing.{at-same}
use Rattle.shardpool.proofs.halt.clear_within.Goals as goal

pub returns-then-limit-eq0-clause-called : goal.returns-then-limit-eq0-clause-called
returns-then-limit-eq0-clause-called g c = called-not (Clearing c.args.key) c.args.limit c.if-limit-eq0.true c.requires.call.act.hand.1 c.requires.seen

pub returns-then-not-is_hit-clause-called : goal.returns-then-not-is_hit-clause-called
returns-then-not-is_hit-clause-called g c =
    let miss = sym c.is_hit.ensures ∙ c.if-not-is_hit.true in
    let enters = c.enter-found.ensures.enters in
    let some = c.if-limit-eq0.false in
    called-undoes (enter-step c.args.key c.enter-found.result ∷ []) (clear-missed c.requires.key enters miss)
    (clear-follows (caller_of c.args.grid.now.shape c.args.hand.now.me.0) c.args.key c.enter-found.result miss) refl false (life-under (enters.1 miss))
    c.leave_within.ensures.leaves c.args.limit (omega (arith, some))

pub returns-then-limit-eq1-clause-called : goal.returns-then-limit-eq1-clause-called
returns-then-limit-eq1-clause-called g c =
    let hit = sym c.is_hit.ensures ∙ c.if-not-is_hit.false in
    subst (λ (n : ℕ). CalledWithin c.args.grid.now.shape (Clearing c.args.key) n c.args.hand.now.me c.enter-found.new.hand.me) (sym c.if-limit-eq1.true)
    (called-part (clear-entered c.requires.key c.enter-found.ensures.enters hit))

pub returns-clause-called : goal.returns-clause-called
returns-clause-called g c =
    let hit = sym c.is_hit.ensures ∙ c.if-not-is_hit.false in
    let none = c.if-limit-eq0.false in
    let one = c.if-limit-eq1.false in
    let key : ℕ = c.args.key in
    called-undoes (enter-step key c.enter-found.result ∷ mark-step key c.mark.result ∷ []) (clear-marked (clear-entered c.requires.key c.enter-found.ensures.enters hit) hit c.mark.ensures.marks)
    (clear-ends (caller_of c.args.grid.now.shape c.args.hand.now.me.0) key c.enter-found.result c.mark.result hit) refl true (life-under c.mark.ensures.marks)
    c.leave_within-2.ensures.leaves c.args.limit (omega (arith, none, one))

pub returns-then-limit-eq0-clause-hand : goal.returns-then-limit-eq0-clause-hand
returns-then-limit-eq0-clause-hand g c = (refl, refl)

pub enter-found-requires : goal.enter-found-requires
enter-found-requires g c =
    record { hand = c.requires.call.act.hand; spot = c.requires.call.act.at.spot; key = c.requires.key; idle = c.requires.call.idle; room = λ get. absurd (cc get) }

pub leave_within-requires : goal.leave_within-requires
leave_within-requires g c =
    let miss = sym c.is_hit.ensures ∙ c.if-not-is_hit.true in
    let enters = c.enter-found.ensures.enters in
    let missed : Opens c.args.grid.now.shape (Clearing c.args.key) (enter-step c.args.key c.enter-found.result ∷ [])
    (acts.Clear (the_lane c.args.hand.now.me.0).lane c.args.key false ∷ []) c.args.hand.now.me c.enter-found.new.hand.me
    = clear-missed c.requires.key enters miss in
    record {
      act = record {
        hand = (c.enter-found.ensures.hand.0 ∙ c.requires.call.act.hand.0, missed.did.acted.one);
        bare = missed.did.held ∙ c.requires.call.act.bare;
        at = at-same missed.did.acted.lane missed.pushed c.requires.call.act.at;
      };
      may = λ _. inr (false, life-under (enters.1 miss));
    }

pub returns-then-not-is_hit-clause-hand : goal.returns-then-not-is_hit-clause-hand
returns-then-not-is_hit-clause-hand g c =
    let first = c.enter-found.ensures.hand in let last = c.leave_within.ensures.hand in (last.0 ∙ first.0, last.1 ∙ first.1)

pub returns-then-limit-eq1-clause-hand : goal.returns-then-limit-eq1-clause-hand
returns-then-limit-eq1-clause-hand g c = c.enter-found.ensures.hand

pub mark-requires : goal.mark-requires
mark-requires g c =
    let hit = sym c.is_hit.ensures ∙ c.if-not-is_hit.false in
    let entered : Opens c.args.grid.now.shape (Clearing c.args.key) (enter-step c.args.key c.enter-found.result ∷ []) [] c.args.hand.now.me c.enter-found.new.hand.me
    = clear-entered c.requires.key c.enter-found.ensures.enters hit in
    record {
      hand = (c.enter-found.ensures.hand.0 ∙ c.requires.call.act.hand.0, entered.did.acted.one);
      spot = c.requires.call.act.at.spot;
      under = life-under (c.enter-found.ensures.enters.0 hit);
    }

pub leave_within-requires-2 : goal.leave_within-requires-2
leave_within-requires-2 g c =
    let hit = sym c.is_hit.ensures ∙ c.if-not-is_hit.false in
    let key : ℕ = c.args.key in
    let marked : Opens c.args.grid.now.shape (Clearing key) (enter-step key c.enter-found.result ∷ mark-step key c.mark.result ∷ [])
    (acts.Clear (the_lane c.args.hand.now.me.0).lane key (state_in c.mark.result == 1) ∷ []) c.args.hand.now.me c.mark.new.hand.me
    = clear-marked (clear-entered c.requires.key c.enter-found.ensures.enters hit) hit c.mark.ensures.marks in
    record {
      act = record {
        hand = (c.mark.ensures.hand.0 ∙ (c.enter-found.ensures.hand.0 ∙ c.requires.call.act.hand.0), marked.did.acted.one);
        bare = marked.did.held ∙ c.requires.call.act.bare;
        at = at-same marked.did.acted.lane marked.pushed c.requires.call.act.at;
      };
      may = λ _. inr (true, life-under c.mark.ensures.marks);
    }

pub returns-clause-hand : goal.returns-clause-hand
returns-clause-hand g c =
    let first = c.enter-found.ensures.hand in
    let second = c.mark.ensures.hand in
    let last = c.leave_within-2.ensures.hand in (last.0 ∙ (second.0 ∙ first.0), last.1 ∙ (second.1 ∙ first.1))
