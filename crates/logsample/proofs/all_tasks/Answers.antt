-- Each round adds the task of one worker more, and the collector's comes last.
use Rattle.std.proofs.Common.{rules, ◌≡◌, ◌∙◌, ◌<◌, ◌+◌, ℕ, length, sym, ap, subst, arith}
use Rattle.std.proofs.lemmas.List.{length_push}
use Rattle.logsample.specs.declared.tasks.Task.TheVariants.{Work}
use Rattle.logsample.specs.declared.TheConstants.{WORKERS}
use Rattle.logsample.proofs.Rows.{at-count, at-front, one-more}
use Rattle.logsample.proofs.all_tasks.Goals as goal

pub loop-worker-init : goal.loop-worker-init
loop-worker-init g c = record { count = search rules; each = λ worker low. absurd (omega (arith, low)) }

pub loop-worker-preserved : goal.loop-worker-preserved
loop-worker-preserved g c =
    let was = c.loop-worker.invariant in
    let pushed = c.in_ok-push.ensures in record {
      count = ap length pushed.items ∙ (length_push c.loop-worker.tasks.items _ ∙ ap (λ (n : ℕ). n + 1) was.count);
      each = rw pushed.items (one-more c.loop-worker.tasks.items c.loop-worker.worker _ was.count was.each);
    }

pub returns : goal.returns
returns g c =
    let pushed = c.in_ok-push-2.ensures in
    let end : c.loop-worker.worker ≡ WORKERS = omega arith in
    let long : length c.loop-worker.tasks.items ≡ WORKERS = c.loop-worker.invariant.count ∙ end in record {
      count = ap length pushed.items ∙ (length_push c.loop-worker.tasks.items _ ∙ ap (λ (n : ℕ). n + 1) long);
      workers = λ worker low.
          let found = c.loop-worker.invariant.each worker (subst (λ (n : ℕ). worker < n) (sym end) low) in (found.0, rw pushed.items (at-front c.loop-worker.tasks.items _ worker (Work worker found.0) found.1));
      collector = (tt, rw pushed.items (at-count c.loop-worker.tasks.items _ WORKERS long));
    }
