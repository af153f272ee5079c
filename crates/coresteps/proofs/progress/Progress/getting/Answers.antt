-- The call of a get is that of the key that its operand names.
use Rattle.std.proofs.Common.{ℕ, ◌∙◌, ap, sym, subst, refl, Option}
use Rattle.coresteps.specs.declared.progress.Call.{Call}
use Rattle.traces.specs.Books.{getting}
use Rattle.traces.specs.declared.registers.Holding.TheVariants.{Empty}
use Rattle.coresteps.specs.Lanes.{IsCall}
use Rattle.coresteps.proofs.progress.Progress.getting.Goals as goal

pub returns-in_err-key : goal.returns-in_err-key
returns-in_err-key c = λ script b slots.
    subst (λ (t : Option Call × Option ℕ). IsCall script c.args.self.now.done b t.0 (getting t.1 Empty))
    (λ i. (sym c.from_residual.ensures i, (sym c.in_err-key.was ∙ c.operand_key.ensures script b slots) i)) refl

pub returns : goal.returns
returns c = λ script b slots. ap (λ (o : Option ℕ). getting o Empty) (sym (c.operand_key.ensures script b slots) ∙ c.in_ok-key.was)
