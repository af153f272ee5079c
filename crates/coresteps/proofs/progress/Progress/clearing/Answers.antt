-- The call of a clear is that of the key that its operand names.
use Rattle.std.proofs.Common.{ℕ, ◌∙◌, ap, sym, subst, refl, Option}
use Rattle.coresteps.specs.declared.progress.Call.{Call}
use Rattle.traces.specs.Books.{clearing}
use Rattle.coresteps.specs.Lanes.{IsCall}
use Rattle.coresteps.proofs.progress.Progress.clearing.Goals as goal

pub returns-in_err-key : goal.returns-in_err-key
returns-in_err-key c = λ script b slots.
    subst (λ (t : Option Call × Option ℕ). IsCall script c.args.self.now.done b t.0 (clearing t.1))
    (λ i. (sym c.from_residual.ensures i, (sym c.in_err-key.was ∙ c.operand_key.ensures script b slots) i)) refl

pub returns : goal.returns
returns c = λ script b slots. ap (λ (o : Option ℕ). clearing o) (sym (c.operand_key.ensures script b slots) ∙ c.in_ok-key.was)
