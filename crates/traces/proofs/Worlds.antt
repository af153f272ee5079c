-- A turn, step by step and reply by reply.
use Rattle.std.proofs.Common.{ℕ, ◌++◌, Option, cond, eqb}
use Rattle.keybits.specs.declared.shape.Shape.{Shape}
use Rattle.keybits.specs.declared.step.Step.{Step}
use Rattle.seqpool.specs.declared.act.Act.{Act}
use Rattle.steplaws.specs.declared.pending.Pending.{Pending}
use Rattle.steplaws.specs.Facts.{put_at, with_value, Lanes}
use Rattle.traces.specs.declared.reply.Reply.{Reply}
use Rattle.traces.specs.Books.{answered, stepped, act_list}
use Rattle.traces.specs.Lawful.{World, with_book}

-- the world after a step of a lane
abbrev pub after_step : Shape → World → ℕ → Step → Option Act → World
after_step z w lane step act = record {
  history = w.history ++ act_list act;
  words = with_value w.words step.word step.after;
  books = with_book w.books lane (stepped (w.books lane) step act);
}

-- the world after a reply to a lane's next command
abbrev pub after_reply : Shape → World → ℕ → Reply → World
after_reply z w lane reply = record { history = w.history; words = w.words; books = with_book w.books lane (answered z lane (w.books lane) reply) }

-- the lanes, but the one has this under way, and has last pushed these words
abbrev pub lanes_with : Lanes → ℕ → Pending → (ℕ → ℕ) → Lanes
lanes_with lanes lane pending pushed = record {
  under = put_at lanes.under lane pending;
  pushed = λ shard other. cond (eqb other lane) (pushed shard) (lanes.pushed shard other);
  chain = lanes.chain;
}
