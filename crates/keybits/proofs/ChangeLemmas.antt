-- The step relation tells the word after a step.
use Rattle.std.proofs.Common.{◌≡◌, ℕ, sym, ◌∙◌, arith}
use Rattle.keybits.specs.declared.step.Kind.{Kind}
use Rattle.keybits.specs.declared.step.Kind.TheVariants as kinds
use Rattle.keybits.specs.Steps.{Changes}

pub changes-one : (last : ℕ) (kind : Kind) (before x y : ℕ) → Changes last kind before x → Changes last kind before y → x ≡ y
changes-one last kinds.Enter before x y h k = h ∙ sym k
changes-one last kinds.Leave before x y h k = let one = h.1 in let other = k.1 in omega arith
changes-one last (kinds.Publish with_ref) before x y h k = h.1 ∙ sym k.1
changes-one last kinds.Mark before x y h k = let one = h.2 in let other = k.2 in omega arith
changes-one last (kinds.Claim generation) before x y h k = h ∙ sym k
changes-one last (kinds.Link expected) before x y h k = h ∙ sym k
changes-one last (kinds.Push expected link) before x y h k = h ∙ sym k
changes-one last kinds.Take before x y h k = h ∙ sym k
changes-one last kinds.Follow before x y h k = h ∙ sym k
