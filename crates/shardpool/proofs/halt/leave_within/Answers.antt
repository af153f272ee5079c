use Rattle.std.proofs.Common.{ℕ, ◌-◌, ◌∙◌, refl, inl, inr, subst, arith}
use Rattle.shardpool.specs.Halted.{EndsWithin}
use Rattle.seatcalls.proofs.parts.Standing.{HasLeft, has-left, left-at, left-owes, lawful}
use Rattle.shardpool.proofs.halt.leave_within.Goals as goal

pub returns-then-limit-eq0-clause-leaves : goal.returns-then-limit-eq0-clause-leaves
returns-then-limit-eq0-clause-leaves g c = inl (c.if-limit-eq0.true, refl)

pub leave-found-requires : goal.leave-found-requires
leave-found-requires g c = let some = c.if-limit-eq0.false in record { hand = c.requires.act.hand; spot = c.requires.act.at.spot; may = c.requires.may (omega (arith, some)) }

pub finish_leave_within-requires : goal.finish_leave_within-requires
finish_leave_within-requires g c =
    let some = c.if-limit-eq0.false in
    let leave = c.leave-found.ensures in
    let left : HasLeft c.args.grid.now.shape c.args.key c.leave-found.result c.args.hand.now.me c.leave-found.new.hand.me
    = has-left (c.requires.may (omega (arith, some))) leave.leaves in
    record {
      act = record {
        hand = (leave.hand.0 ∙ c.requires.act.hand.0, left.acted.one);
        bare = left.held ∙ c.requires.act.bare;
        at = left-at left c.requires.act.at;
      };
      seen = lawful {made = left.made} left.acted;
      owes = left-owes left c.requires.act.at;
    }

pub returns-clause-hand : goal.returns-clause-hand
returns-clause-hand g c =
    let first = c.leave-found.ensures.hand in let second = c.finish_leave_within.ensures.hand in (second.0 ∙ first.0, second.1 ∙ first.1)

pub returns-clause-leaves : goal.returns-clause-leaves
returns-clause-leaves g c =
    let some = c.if-limit-eq0.false in inr (
      c.leave-found.result,
      c.leave-found.new.hand.me,
      omega (arith, some),
      c.leave-found.ensures.leaves,
      subst (λ (place : ℕ). EndsWithin c.args.grid.now.shape place c.leave-found.result (c.args.limit - 1) c.leave-found.new.hand.me c.finish_leave_within.new.hand.me)
          c.requires.act.at.spot.place_is c.finish_leave_within.ensures.ends,
    )
