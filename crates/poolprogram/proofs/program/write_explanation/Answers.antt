use Rattle.std.proofs.Common.{[], ℕ, List, inl, inr, string_bytes, refl, subst}
use Rattle.streams.specs.Saying.{Says}
use Rattle.streams.proofs.Sayings.{says_nothing}
use Rattle.poolprogram.proofs.program.write_explanation.Goals as goal

pub returns-in-Ok : goal.returns-in-Ok
returns-in-Ok g c =
    let contents = g.E.Write.contents in
    let old = c.args.errors.now in
    let new = c.write_text.new.out in record {
      why = string_bytes c.in-Ok.told;
      is = inl (record { all = refl; explains = c.in-Ok.ensures.is; safe = c.in-Ok.ensures.safe });
      says = subst (λ (text : List ℕ). Says contents old new text) c.as_bytes.ensures.value c.write_text.ensures;
    }

pub returns-in-Err : goal.returns-in-Err
returns-in-Err g c = record { why = []; is = inr (refl, refl, λ plain. let fine = c.in-Err.ensures.plain plain in absurd (cc fine)); says = says_nothing g.E.Write.contents c.args.errors.now }
