-- The lines that are said of acts.
use Rattle.std.proofs.Common.{ℕ, List, true, false, refl}
use Rattle.keybits.specs.declared.shape.Shape.{Shape}
use Rattle.seqpool.specs.declared.act.Act.{Act}
use Rattle.seqpool.specs.declared.summary.Summary.{Summary}
use Rattle.seqpool.specs.declared.fault.ApplyFault.{ApplyFault}
use Rattle.seqpool.specs.Checker.{IsSummary, IsIllegalAt}
use Rattle.seqpool.specs.Pool.{IsLegal}
use Rattle.seqpool.specs.ActsText.{StandsFor}
use Rattle.poolprogram.specs.Checks.{IsIllegalLine, HasVerdict, summary_text, illegal_text}

pub illegal_line : (bytes : List ℕ) (z : Shape) (history : List Act) (index : ℕ) (fault : ApplyFault)
    → StandsFor bytes z history → IsIllegalAt z history index fault → IsIllegalLine bytes (illegal_text index fault)
illegal_line bytes z history index fault stands illegal =
    record { shape = z; history = history; stands = stands; index = index; fault = fault; illegal = illegal; is = refl }

pub legal_verdict : (bytes : List ℕ) (z : Shape) (history : List Act) (summary : Summary)
    → StandsFor bytes z history → IsLegal z history → IsSummary z history summary → HasVerdict bytes
legal_verdict bytes z history summary stands legal counts = record {
  legal = true;
  text = summary_text summary;
  verdict = record { shape = z; history = history; stands = stands; legal = legal; summary = summary; counts = counts; is = refl };
}

pub illegal_verdict : (bytes : List ℕ) (z : Shape) (history : List Act) (index : ℕ) (fault : ApplyFault)
    → StandsFor bytes z history → IsIllegalAt z history index fault → HasVerdict bytes
illegal_verdict bytes z history index fault stands illegal =
    record { legal = false; text = illegal_text index fault; verdict = illegal_line bytes z history index fault stands illegal }
