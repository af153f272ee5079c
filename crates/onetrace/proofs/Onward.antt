-- Turns go on from each world that stands the same.
use Rattle.std.proofs.Common.{◌≡◌, inl, inr, ℕ, true, List, [], ◌∷◌, ◌++◌, Option, Some, None, ap, sym, ◌∙◌, subst}
use Rattle.keybits.specs.declared.shape.Shape.{Shape}
use Rattle.keybits.specs.declared.step.Step.{Step}
use Rattle.seqpool.specs.declared.act.Act.{Act}
use Rattle.seqpool.specs.Pool.{Pool, fresh, pool_from, pool_after, LegalFrom, IsLegal}
use Rattle.seqpool.proofs.Growth.{pool-append, legal-append}
use Rattle.steplaws.specs.Facts.{Words}
use Rattle.traces.specs.declared.reply.Reply.{Reply}
use Rattle.traces.specs.declared.trace.Turn.{Turn}
use Rattle.traces.specs.Books.{Book, act_list, stepped}
use Rattle.traces.specs.Following.{AreReplies}
use Rattle.traces.specs.Lawful.{World, words_after, book_before, book_after, with_book, is_finished, IsStep, StepAndReplies, IsNextTurn, AreTurns, world_after, world_from}
use Rattle.onetrace.specs.Decided.{IsSameStanding, GoOn, OnwardLaw}
use Rattle.onetrace.proofs.Turns.{legal_next}

module _ (z : Shape) where
  -- the world with these books
  abbrev booked : World → (ℕ → Book) → World
  booked w books = record { history = w.history; words = w.words; books = books }

  -- the pool after further acts
  pool_onward : (h k : List Act) (more : List Act) → pool_after z h ≡ pool_after z k → pool_after z (h ++ more) ≡ pool_after z (k ++ more)
  pool_onward h k more e = pool-append z fresh h more ∙ ap (λ (P : Pool). pool_from z P more) e ∙ sym (pool-append z fresh k more)

  module _ (w v : World) (pool : pool_after z w.history ≡ pool_after z v.history) (words : w.words ≡ v.words) where
    step_onward : (lane : ℕ) (b : Book) (step : Option Step) (act : Option Act) (after : List Reply)
        → StepAndReplies z w lane b step act after → StepAndReplies z v lane b step act after
    step_onward lane b None act after is = is
    step_onward lane b (Some step) act after is = (
      subst (λ (ws : Words). IsStep z lane ws b step act) words is.0,
      subst (λ (P : Pool). AreReplies z P lane (stepped b step act) after) (pool_onward w.history v.history (act_list act) pool) is.1,
    )

    -- the books are the same
    same_next : (t : Turn) → IsNextTurn z (booked w v.books) t → IsNextTurn z v t
    same_next t n = record {
      unfinished = n.unfinished;
      replies = subst (λ (P : Pool). AreReplies z P t.lane (v.books t.lane) t.before) pool n.replies;
      step = step_onward t.lane (book_before z v t) t.step t.act t.after n.step;
      rest = n.rest;
    }

  next_onward : (w v : World) (t : Turn) → IsSameStanding z w v → IsNextTurn z w t → IsNextTurn z v t
  next_onward w v t s n = same_next w v s.pool s.words t (subst (λ (books : ℕ → Book). IsNextTurn z (booked w books) t) s.books n)

  after_onward : (w v : World) (t : Turn) → IsSameStanding z w v → IsSameStanding z (world_after z w t) (world_after z v t)
  after_onward w v t s = record {
    pool = pool_onward w.history v.history (act_list t.act) s.pool;
    words = ap (λ (ws : Words). words_after ws t.step) s.words;
    books = ap (λ (books : ℕ → Book). with_book books t.lane (book_after z (booked w books) t)) s.books;
  }

  finished_onward : (w v : World) (lane : ℕ) → IsSameStanding z w v → is_finished z w lane ≡ true → is_finished z v lane ≡ true
  finished_onward w v lane s e = subst (λ (books : ℕ → Book). is_finished z (booked w books) lane ≡ true) s.books e

  legal_onward : (w v : World) (t : Turn) → IsSameStanding z w v → IsLegal z v.history → LegalFrom z (pool_after z w.history) (act_list t.act)
      → IsLegal z (world_after z v t).history
  legal_onward w v t s legal next =
      legal-append z fresh v.history (act_list t.act) legal (subst (λ (P : Pool). LegalFrom z P (act_list t.act)) s.pool next)

  onward : (schedule : List ℕ) (w v : World) (ts : List Turn) → IsSameStanding z w v → IsLegal z v.history → AreTurns z w schedule ts
      → IsLegal z (world_from z w ts).history
      → GoOn z v schedule ts × IsSameStanding z (world_from z w ts) (world_from z v ts)
  onward [] w v [] s legal are final = (record { made = tt; legal = legal }, s)
  onward [] w v (t ∷ ts) s legal are final = absurd are
  onward (lane ∷ schedule) w v [] s legal are final =
      let rest = onward schedule w v [] s legal are.1 final in
      (record { made = (finished_onward w v lane s are.0, rest.0.made); legal = rest.0.legal }, rest.1)
  onward (lane ∷ schedule) w v (t ∷ ts) s legal (inl are) final =
      let rest = onward schedule w v (t ∷ ts) s legal are.1 final in
      (record { made = inl (finished_onward w v lane s are.0, rest.0.made); legal = rest.0.legal }, rest.1)
  onward (lane ∷ schedule) w v (t ∷ ts) s legal (inr are) final =
      let rest = onward schedule (world_after z w t) (world_after z v t) ts (after_onward w v t s)
      (legal_onward w v t s legal (legal_next z w t ts final)) are.2 final in
      (record { made = inr (are.0, next_onward w v t s are.1, rest.0.made); legal = rest.0.legal }, rest.1)

pub onward-law : OnwardLaw
onward-law z w v schedule turns s legal go = onward z schedule w v turns s legal go.made go.legal
