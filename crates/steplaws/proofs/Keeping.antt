-- A step keeps the rule where it meets the step relation and the rule holds after it; its act is then allowed.
use Rattle.std.proofs.Common.{◌≡◌, ℕ, List, [], ◌∷◌, Option, Some, None, ap, sym, ◌∙◌, subst}
use mathlib.Core.Path.{fun_ext}
use mathlib.Core.Logic.{dite}
use native.Mathlib.Decide.{ℕ_discrete}
use Rattle.keybits.specs.declared.shape.Shape.{Shape}
use Rattle.keybits.specs.declared.step.Word.{Word}
use Rattle.keybits.specs.declared.step.Word.TheVariants.{Life, Link, Stack}
use Rattle.seqpool.specs.declared.act.Act.{Act}
use Rattle.seqpool.specs.Pool.{fresh, IsLegal}
use Rattle.seqpool.proofs.Growth.{legal-rest}
use Rattle.steplaws.specs.Facts.{put_at, put_two, Words, with_value, Lanes, Moment, moment, Rule}
use Rattle.steplaws.proofs.Updates.{at-here, at-else, two-here, two-row, two-else}
use Rattle.keybits.specs.declared.step.Kind.{Kind}
use Rattle.keybits.specs.Steps.{Changes}
use Rattle.steplaws.specs.StepLaws.{with_act, moment_after, IsAllowed, CountFits, Keeps}
use Rattle.steplaws.specs.Facts.{value_of}

-- the last act of a legal history is allowed
pub allowed-last : (z : Shape) (h : List Act) (act : Option Act) → IsLegal z (with_act h act) → IsAllowed z h act
allowed-last z h None legal = tt
allowed-last z h (Some act) legal = let l = legal-rest z fresh h (act ∷ []) legal in (l.0, l.1)

pub keeps : (z : Shape) (m : Moment) (kind : Kind) (word : Word) (value : ℕ) (act : Option Act) (lanes : Lanes)
    → Changes z.last_generation kind (value_of m.words word) value → CountFits kind (value_of m.words word) → Rule z (moment_after m word value act lanes)
    → Keeps z m kind word value act lanes
keeps z m kind word value act lanes changes room rule =
    record { changes = changes; room = room; allowed = allowed-last z m.history act rule.legal; rule = rule }

-- a value that is put where it stood
put-same : (f : ℕ → ℕ) (i x : ℕ) → x ≡ f i → put_at f i x ≡ f
put-same f i x e = fun_ext (λ j. dite (ℕ_discrete j i) (λ here. at-here f i x j here ∙ (e ∙ ap f (sym here))) (λ other. at-else f i x j other))

pub two-same : (f : ℕ → ℕ → ℕ) (i k x : ℕ) → x ≡ f i k → put_two f i k x ≡ f
two-same f i k x e = fun_ext (λ j. fun_ext (λ m. dite (ℕ_discrete j i)
    (λ here. dite (ℕ_discrete m k)
    (λ there. two-here f i k x j m here there ∙ (e ∙ ap (λ (n : ℕ). f n k) (sym here) ∙ ap (f j) (sym there)))
    (λ other. two-else f i k x j m other))
    (λ other. two-row f i k x j m other)))

-- the words of these four
abbrev record_of : (ℕ → ℕ) → (ℕ → ℕ) → (ℕ → ℕ → ℕ) → (ℕ → ℕ → ℕ) → Words
record_of f g k b = record { life = f; link = g; stack = k; bits = b }

-- a word that gets its own value
pub with-same : (words : Words) (word : Word) (value : ℕ) → value ≡ value_of words word → with_value words word value ≡ words
with-same words (Life place) value e = ap (λ (f : ℕ → ℕ). record_of f words.link words.stack words.bits) (put-same words.life place value e)
with-same words (Link place) value e = ap (λ (f : ℕ → ℕ). record_of words.life f words.stack words.bits) (put-same words.link place value e)
with-same words (Stack shard lane) value e = ap (λ (f : ℕ → ℕ → ℕ). record_of words.life words.link f words.bits) (two-same words.stack shard lane value e)

-- a step that leaves its word as it was
pub rule-same : (z : Shape) (words : Words) (h : List Act) (lanes : Lanes) (word : Word) (value : ℕ) → value ≡ value_of words word
    → Rule z (moment words h lanes) → Rule z (moment (with_value words word value) h lanes)
rule-same z words h lanes word value e rule = subst (λ (w : Words). Rule z (moment w h lanes)) (sym (with-same words word value e)) rule
