use Rattle.std.proofs.Common.{◌==◌, [], ◌∷◌, inr, refl, sym, ◌∙◌}
use Rattle.std.proofs.lemmas.Bool.{and_parts, eqb-true}
use Rattle.keybits.specs.Keys.{generation_of}
use Rattle.keybits.specs.Words.{generation_in, state_in}
use Rattle.seqpool.specs.declared.act.Act.TheVariants as acts
use Rattle.steplaws.specs.Calls.Call.{Clearing}
use Rattle.poolsteps.specs.Grids.{SameSeat}
use Rattle.seatcalls.proofs.parts.Calling.{Opens, Opened, enter-step, called-after, acts-behind, life-under, clear-entered, clear-misses, clear-marks}
use Rattle.seatcalls.proofs.parts.Standing.{HasLeft, has-left, at-same, left-at, left-owes, lawful}
use Rattle.shardpool.proofs.parts.Handing.{hands-behind, hands-after, undone-mine}
use Rattle.shardpool.proofs.clear.clear_by_steps.Given.{Over}
use Rattle.shardpool.proofs.clear.clear_by_steps.Goals as goal
use Rattle.shardpool.proofs.clear.clear_by_steps.Goals.{then-is_hit, else-is_hit}

-- the call up to its LEAVE
opened : (g : Over) (c : goal.After-finish_leave g)
    → Opened c.args.grid.now.shape (Clearing c.args.key) (acts.Clear c.args.at.lane c.args.key c.if-is_hit.marked) c.args.hand.now.me c.if-is_hit.hand.me
opened g c = elim c.if-is_hit.branch [
  | then-is_hit w ↦
      rw (c.requires.call.act.at.lane, w.hand-is, w.marked-is, w.mark-marked.ensures.marks.2)
      (clear-marks c.requires.key c.enter-found.ensures.enters (sym c.is_hit.ensures ∙ w.if-is_hit.true) w.mark-marked.ensures.marks.1)
  | else-is_hit w ↦
      rw (c.requires.call.act.at.lane, w.hand-is, w.marked-is, w.if-is_hit.false)
      (clear-misses c.requires.key c.enter-found.ensures.enters (sym c.is_hit.ensures ∙ w.if-is_hit.false))
]

pub returns-clause-clears : goal.returns-clause-clears
returns-clause-clears g c =
    let left = c.leave-left.ensures.leaves in
    let place_is = c.requires.call.act.at.spot.place_is in
    let ends = c.finish_leave.ensures.ends in record {
      called = called-after (opened g c) refl left place_is ends;
      acts = rw (sym place_is) (acts-behind (opened g c) refl left place_is ends c.finish_leave.result c.finish_leave.ensures.acts);
      told = rw (sym place_is) c.finish_leave.ensures.reclaimed;
      at = rw (sym place_is) c.finish_leave.ensures.at;
    }

pub enter-found-requires : goal.enter-found-requires
enter-found-requires g c =
    record { hand = c.requires.call.act.hand; spot = c.requires.call.act.at.spot; key = c.requires.key; idle = c.requires.call.idle; room = λ get. absurd (cc get) }

pub mark-marked-requires : goal.mark-marked-requires
mark-marked-requires g c =
    let hit = sym c.is_hit.ensures ∙ c.if-is_hit.true in
    let entered : Opens c.args.grid.now.shape (Clearing c.args.key) (enter-step c.args.key c.enter-found.result ∷ []) [] c.args.hand.now.me c.enter-found.new.hand.me
    = clear-entered c.requires.key c.enter-found.ensures.enters hit in
    record {
      present = eqb-true (state_in c.enter-found.result) 1 (and_parts (generation_in c.enter-found.result == generation_of c.args.key) (state_in c.enter-found.result == 1) hit).1;
      hand = (c.enter-found.ensures.hand.0 ∙ c.requires.call.act.hand.0, entered.did.acted.one);
      spot = c.requires.call.act.at.spot;
      under = life-under (c.enter-found.ensures.enters.0 hit);
    }

pub leave-left-requires : goal.leave-left-requires
leave-left-requires g c =
    let opened : Opened c.args.grid.now.shape (Clearing c.args.key) (acts.Clear c.args.at.lane c.args.key c.if-is_hit.marked) c.args.hand.now.me c.if-is_hit.hand.me
    = elim c.if-is_hit.branch [
      | then-is_hit w ↦
          rw (c.requires.call.act.at.lane, w.hand-is, w.marked-is, w.mark-marked.ensures.marks.2)
          (clear-marks c.requires.key c.enter-found.ensures.enters (sym c.is_hit.ensures ∙ w.if-is_hit.true) w.mark-marked.ensures.marks.1)
      | else-is_hit w ↦
          rw (c.requires.call.act.at.lane, w.hand-is, w.marked-is, w.if-is_hit.false)
          (clear-misses c.requires.key c.enter-found.ensures.enters (sym c.is_hit.ensures ∙ w.if-is_hit.false))
    ] in
    let same : SameSeat c.args.hand.now c.if-is_hit.hand = elim c.if-is_hit.branch [
      | then-is_hit w ↦ rw w.hand-is (w.mark-marked.ensures.hand.0 ∙ c.enter-found.ensures.hand.0, w.mark-marked.ensures.hand.1 ∙ c.enter-found.ensures.hand.1)
      | else-is_hit w ↦ rw w.hand-is c.enter-found.ensures.hand
    ] in
    record { hand = (same.0 ∙ c.requires.call.act.hand.0, opened.opens.did.acted.one); spot = c.requires.call.act.at.spot; may = inr (opened.hit, opened.under) }

pub finish_leave-requires : goal.finish_leave-requires
finish_leave-requires g c =
    let opened : Opened c.args.grid.now.shape (Clearing c.args.key) (acts.Clear c.args.at.lane c.args.key c.if-is_hit.marked) c.args.hand.now.me c.if-is_hit.hand.me
    = elim c.if-is_hit.branch [
      | then-is_hit w ↦
          rw (c.requires.call.act.at.lane, w.hand-is, w.marked-is, w.mark-marked.ensures.marks.2)
          (clear-marks c.requires.key c.enter-found.ensures.enters (sym c.is_hit.ensures ∙ w.if-is_hit.true) w.mark-marked.ensures.marks.1)
      | else-is_hit w ↦
          rw (c.requires.call.act.at.lane, w.hand-is, w.marked-is, w.if-is_hit.false)
          (clear-misses c.requires.key c.enter-found.ensures.enters (sym c.is_hit.ensures ∙ w.if-is_hit.false))
    ] in
    let same : SameSeat c.args.hand.now c.if-is_hit.hand = elim c.if-is_hit.branch [
      | then-is_hit w ↦ rw w.hand-is (w.mark-marked.ensures.hand.0 ∙ c.enter-found.ensures.hand.0, w.mark-marked.ensures.hand.1 ∙ c.enter-found.ensures.hand.1)
      | else-is_hit w ↦ rw w.hand-is c.enter-found.ensures.hand
    ] in
    let left : HasLeft c.args.grid.now.shape c.args.key c.leave-left.result c.if-is_hit.hand.me c.leave-left.new.hand.me
    = has-left (inr (opened.hit, opened.under)) c.leave-left.ensures.leaves in
    let at = at-same opened.opens.did.acted.lane opened.opens.pushed c.requires.call.act.at in
    record {
      act = record {
        hand = (c.leave-left.ensures.hand.0 ∙ (same.0 ∙ c.requires.call.act.hand.0), left.acted.one);
        bare = left.held ∙ (opened.opens.did.held ∙ c.requires.call.act.bare);
        at = left-at left at;
      };
      seen = lawful {made = left.made} left.acted;
      owes = left-owes left at;
    }

pub returns-clause-hand : goal.returns-clause-hand
returns-clause-hand g c =
    let same : SameSeat c.args.hand.now c.if-is_hit.hand = elim c.if-is_hit.branch [
      | then-is_hit w ↦ rw w.hand-is (w.mark-marked.ensures.hand.0 ∙ c.enter-found.ensures.hand.0, w.mark-marked.ensures.hand.1 ∙ c.enter-found.ensures.hand.1)
      | else-is_hit w ↦ rw w.hand-is c.enter-found.ensures.hand
    ] in
    let left = c.leave-left.ensures.hand in
    let last = c.finish_leave.ensures.hand in (last.0 ∙ (left.0 ∙ same.0), last.1 ∙ (left.1 ∙ same.1))

pub returns-clause-hands : goal.returns-clause-hands
returns-clause-hands g c =
    let began = opened g c in
    hands-after g.E.Emptier.takes c.args.hand.now.me.0 c.if-is_hit.hand.me.0 c.finish_leave.new.hand.me.0 _ began.opens.did.acted.mine (λ made took. took)
    (hands-behind g.E.Emptier.takes c.if-is_hit.hand.me.0 c.leave-left.new.hand.me.0 c.finish_leave.new.hand.me.0 (undone-mine began.under c.leave-left.ensures.leaves)
    c.finish_leave.ensures.hands)
