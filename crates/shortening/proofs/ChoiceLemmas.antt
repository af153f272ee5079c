-- Chosen commands.
use Rattle.std.proofs.Common.{◌≡◌, ◌∙◌, ◌+◌, ◌<◌, ◌==◌, ◌||◌, ℕ, suc, Bool, true, false, List, [], ◌∷◌, ◌++◌, length, eq-eqb, refl, sym, ap, arith}
use Rattle.traces.specs.declared.script.Command.{Command}
use Rattle.shortening.specs.Choices.{is_among, commands_in, chosen_from, chosen_scripts}

or-true : (one : Bool) → (one || true) ≡ true
or-true true = refl
or-true false = refl

-- a number behind others
pub among-last : (numbers : List ℕ) (number : ℕ) → is_among (numbers ++ number ∷ []) number ≡ true
among-last [] number = rw (eq-eqb number number refl) refl
among-last (other ∷ numbers) number = rw (among-last numbers number) (or-true (other == number))

pub among-more : (numbers : List ℕ) (last number : ℕ) → is_among numbers number ≡ true → is_among (numbers ++ last ∷ []) number ≡ true
among-more [] last number is = cc is
among-more (other ∷ numbers) last number is = at (other == number) is (among-more numbers last number)
  where
    at : (here : Bool) → (here || is_among numbers number) ≡ true
        → (is_among numbers number ≡ true → is_among (numbers ++ last ∷ []) number ≡ true) → (here || is_among (numbers ++ last ∷ []) number) ≡ true
    at true is rest = refl
    at false is rest = rest is

-- where all numbers are chosen, all commands are
chosen-whole : (numbers : List ℕ) (from : ℕ) (commands : List Command) → ((k : ℕ) → k < from + length commands → is_among numbers k ≡ true)
    → chosen_from numbers from commands ≡ commands
chosen-whole numbers from [] all = refl
chosen-whole numbers from (command ∷ more) all =
    rw (all from (omega arith), chosen-whole numbers (from + 1) more (λ k within. all k (omega arith))) refl

pub chosen-all : (numbers : List ℕ) (from : ℕ) (scripts : List (List Command)) → ((k : ℕ) → k < from + commands_in scripts → is_among numbers k ≡ true)
    → chosen_scripts numbers from scripts ≡ scripts
chosen-all numbers from [] all = refl
chosen-all numbers from (script ∷ more) all =
    rw (chosen-whole numbers from script (λ k within. all k (omega arith)), chosen-all numbers (from + length script) more (λ k within. all k (omega arith))) refl

-- as many scripts are left
pub chosen-length : (numbers : List ℕ) (from : ℕ) (scripts : List (List Command)) → length (chosen_scripts numbers from scripts) ≡ length scripts
chosen-length numbers from [] = refl
chosen-length numbers from (script ∷ more) = ap suc (chosen-length numbers (from + length script) more)
