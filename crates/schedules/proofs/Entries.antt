-- Entries that are read one by one.
use Rattle.std.proofs.Common.{◌≡◌, ℕ, List, [], ◌∷◌, ◌++◌, Option, Some, None, option_map, refl, sym, ap, append_assoc}

-- what is read of the rest goes behind what is read already
abbrev pub read_so_far : List ℕ → Option (List ℕ) → Option (List ℕ)
read_so_far done rest = option_map (λ xs. done ++ xs) rest

-- one more goes behind what is read already
pub read_so_far-more : (done : List ℕ) (x : ℕ) (rest : Option (List ℕ)) → read_so_far done (option_map (λ xs. x ∷ xs) rest) ≡ read_so_far (done ++ x ∷ []) rest
read_so_far-more done x None = refl
read_so_far-more done x (Some xs) = ap (λ ys. Some ys) (sym (append_assoc done (x ∷ []) xs))
