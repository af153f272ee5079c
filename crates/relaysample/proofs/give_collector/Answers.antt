-- The lane that cleared, cleared what was read; the lane that lent, none.
use Rattle.std.proofs.Common.{◌∙◌, ℕ, List, [], sym, subst}
use Rattle.std.proofs.lemmas.List.Elements.{All-weaker}
use Rattle.seqpool.specs.Pool.{NoRepeats}
use Rattle.guards.specs.Here.{HaveCleared}
use Rattle.relaysample.specs.Lines.{numbers_of}
use Rattle.relaysample.specs.Held.{IsRead}
use Rattle.relaysample.proofs.give_collector.Goals as goal

pub returns-in-Ok-clause-collected : goal.returns-in-Ok-clause-collected
returns-in-Ok-clause-collected g c =
    let lanes = c.in-Some.ensures in let rows = c.in-Ok.ensures.rows in let seen = c.seen_law.ensures in let same = lanes.cleared.1 ∙ sym rows.keys in record {
      lane = c.in-Some.lending;
      here = c.give-2.ensures.here;
      read = All-weaker (IsRead c.args.collector.lender.lane.book.seen) (IsRead c.in-Some.lending.book.seen)
          (λ row is. c.going_law.ensures.published _ _ lanes.lent.2 row.key (numbers_of row.line) is) c.in-Ok.rows.items rows.read;
      once = subst NoRepeats same (c.cleared_law.ensures.once _ c.in-Some.clearing seen.legal seen.own);
      cleared = subst (λ (keys : List ℕ). HaveCleared keys c.give-2.new.self) same
          (c.give-2.ensures.clean _ (c.give.ensures.cleared [] c.requires.cleared) lanes.lent.1);
    }
