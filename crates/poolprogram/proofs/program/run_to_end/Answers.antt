use Rattle.std.proofs.Common.{[], ℕ, List, Err, inl, inr, refl, sym, subst}
use Rattle.streams.specs.declared.write_failed.Unwritable.{Unwritable}
use Rattle.commandline.specs.Tasks.{path_of}
use Rattle.poolprogram.specs.Program.{ExplainsIf}
use Rattle.poolprogram.specs.Reading.{IsFileOf}
use Rattle.poolprogram.proofs.Endings.{explains}
use Rattle.poolprogram.proofs.program.run_to_end.Goals as goal

pub returns-in-Ok : goal.returns-in-Ok
returns-in-Ok g c =
    let left = g.I.Read.remaining c.args.input.now in
    let does = c.do_task-done.ensures in
    let task = c.args.task in
    let wanted = c.args.explain in
    let file = c.as_slice-file.result.now in
    let done = c.do_task-done.result in
    let ending = c.end_task.result in
    let ends = c.end_task.ensures in record {
      file = file;
      done = done;
      does = inl (record {
        read = subst (λ (bytes : List ℕ). IsFileOf (path_of task) left bytes) (sym c.as_slice-file.ensures.value) c.in-Ok.ensures.ok;
        does = record { ok = does.ok; output = does.output; refused = does.refused };
      });
      status_is = ends.status_is;
      why = ends.why;
      explains = subst (λ (reason : Unwritable). ExplainsIf wanted task file reason done ending.explained ends.why) c.why.ensures
          (explains wanted task c.subject_if-subject.result file c.why.result done ending.explained ends.why c.subject_if-subject.ensures ends.is);
      says = ends.says;
    }

pub returns-in-Err : goal.returns-in-Err
returns-in-Err g c =
    let fault = c.in-Err.fault in
    let task = c.args.task in
    let wanted = c.args.explain in
    let ending = c.end_task-in-Err.result in
    let ends = c.end_task-in-Err.ensures in record {
      file = [];
      done = Err fault;
      does = inr (record { fault = fault; unread = c.in-Err.ensures.err; done_is = refl; none = refl; kept = refl });
      status_is = ends.status_is;
      why = ends.why;
      explains = subst (λ (reason : Unwritable). ExplainsIf wanted task [] reason (Err fault) ending.explained ends.why) c.why-in-Err.ensures
          (explains wanted task c.subject_if-subject.result [] c.why-in-Err.result (Err fault) ending.explained ends.why c.subject_if-subject.ensures ends.is);
      says = ends.says;
    }
