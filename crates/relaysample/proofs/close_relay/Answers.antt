-- The rows are those of the history that closes the pool.
use Rattle.std.proofs.Common.{inl, inr, ⊎_elim, ℕ}
use Rattle.std.proofs.lemmas.Result.{IfOk-weaker}
use Rattle.std.proofs.lemmas.List.Elements.{All-weaker}
use Rattle.poollaws.specs.Words.{IsCleared}
use Rattle.relaysample.specs.Lines.{numbers_of}
use Rattle.relaysample.proofs.close_relay.Goals as goal

pub returns : goal.returns
returns c = IfOk-weaker c.close.result _ _
    (λ census known.
    let pool = c.args.opened.pool in let rows = c.args.rows.now in let collected = c.requires in let law = c.close_law.ensures in
    let lanes = known.0 in let closes = known.2 in let are = known.3 in let all = law.last pool lanes census closes in
    let was_read = λ (key : ℕ) (cleared : IsCleared closes.history key).
    let by = law.clearer pool lanes census are closes key cleared in collected.cleared.each by.0 by.1 ((known.4 by.0 by.1).0 by.2) key by.3 in (
      lanes,
      record {
        closes = closes;
        all = all;
        read = All-weaker _ _ (λ row is. all.published collected.lane.number collected.lane row.key (numbers_of row.line)
            ((known.4 collected.lane.number collected.lane).1 collected.here) is) rows collected.read;
        once = collected.once;
        kept = λ key content published. ⊎_elim (λ cleared. inl (was_read key cleared)) (λ present. inr present)
            (law.counted pool lanes census are closes key content published);
        none_left = λ none key content published. was_read key (law.none_left pool lanes census are closes none key content published);
      },
    )) c.close.ensures.closes
