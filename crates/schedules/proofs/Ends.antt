-- Texts without the line's end behind them.
use Rattle.std.proofs.Common.{◌≡◌, ℕ, Bool, true, false, List, [], ◌∷◌, ◌++◌, nat_eq, cond, refl, sym, ap, ◌∙◌}
use Rattle.std.proofs.lemmas.Bool.{eqb-true, eq-eqb}
use Rattle.std.proofs.lemmas.List.{append-nil}
use Rattle.schedules.specs.Schedules.{without_end}

end-of : (front : List ℕ) (last : ℕ) → without_end (front ++ last ∷ []) ≡ front ++ cond (nat_eq last 10) [] (last ∷ [])
end-of [] last = refl
end-of (byte ∷ []) last = refl
end-of (byte ∷ next ∷ front) last = ap (λ (text : List ℕ). byte ∷ text) (end-of (next ∷ front) last)

-- a line's end goes
pub end-gone : (text front : List ℕ) (last : ℕ) → text ≡ front ++ last ∷ [] → last ≡ 10 → without_end text ≡ front
end-gone text front last is ten = ap without_end is ∙ end-of front last ∙ ap (λ (b : Bool). front ++ cond b [] (last ∷ [])) (eq-eqb last 10 ten) ∙ append-nil front

-- another byte stays
pub end-stays : (text front : List ℕ) (last : ℕ) → text ≡ front ++ last ∷ [] → (last ≡ 10 → ⊥) → without_end text ≡ text
end-stays text front last is other = at (nat_eq last 10) refl
  where
    at : (b : Bool) → nat_eq last 10 ≡ b → without_end text ≡ text
    at true e = absurd (other (eqb-true last 10 e))
    at false e = ap without_end is ∙ end-of front last ∙ ap (λ (b : Bool). front ++ cond b [] (last ∷ [])) e ∙ sym is
