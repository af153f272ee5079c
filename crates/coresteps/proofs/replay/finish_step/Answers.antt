-- The work behind a step leaves what all lanes share as it is, and the step is made where it was done.
use Rattle.std.proofs.Common.{refl}
use Rattle.std.specs.Prelude.{Result, Ok, Err, OnErr}
use Rattle.std.proofs.lemmas.Result.{IfOk-from_err}
use Rattle.coresteps.proofs.replay.finish_step.Goals as goal

pub work-requires-clause-draft : goal.work-requires-clause-draft
work-requires-clause-draft c = c.requires.draft

pub keep-requires-clause-draft : goal.keep-requires-clause-draft
keep-requires-clause-draft c = (c.requires.draft.0, c.requires.draft.1)

pub keep-requires-clause-place : goal.keep-requires-clause-place
keep-requires-clause-place c = c.requires.place

pub returns-clause-ok : goal.returns-clause-ok
returns-clause-ok c = λ w draft at. (c.in_ok-replies.ensures w draft at, c.in_ok-keep.ensures.ok)

in_err : {T E : Type 0} (r : Result T E) (P : Type 0) → P → OnErr r P
in_err (Ok x) P p = tt
in_err (Err e) P p = p

pub returns-in_err-replies : goal.returns-in_err-replies
returns-in_err-replies c = record {
  ok = IfOk-from_err c.from_residual.result _ c.from_residual.ensures.0;
  same = in_err c.from_residual.result _ (refl, refl, refl, refl);
  shape = refl;
}

pub returns-in_err-keep : goal.returns-in_err-keep
returns-in_err-keep c = record {
  ok = IfOk-from_err c.from_residual-in_err-keep.result _ c.from_residual-in_err-keep.ensures.0;
  same = in_err c.from_residual-in_err-keep.result _ c.in_err-keep.ensures.same;
  shape = c.keep.ensures.shape;
}

pub returns-clause-shape : goal.returns-clause-shape
returns-clause-shape c = c.keep.ensures.shape
