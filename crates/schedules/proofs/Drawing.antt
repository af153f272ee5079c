-- Entries that are drawn one by one.
use Rattle.std.proofs.Common.{◌≡◌, ℕ, suc, ◌+◌, ◌-◌, ◌<◌, ◌≤◌, ◌%◌, List, [], ◌∷◌, ◌++◌, map, sym, ap, ◌∙◌, refl, append_assoc, arith}
use Rattle.std.proofs.lemmas.List.{append-nil}
use Rattle.rand_core.specs.Steps.{first_words}
use Rattle.rand_pcg.specs.Lcg.{Lcg}
use Rattle.rand_pcg.specs.Pcg.{pcg32}

-- the next entries: so many words of this generator, each modulo the number of lanes
abbrev pub entries_from : ℕ → ℕ → Lcg → List ℕ
entries_from lanes n g = map (λ word. word % lanes) (first_words pcg32 n g)

entries_from-first : (lanes n : ℕ) (g : Lcg) → entries_from lanes (suc n) g ≡ (pcg32 g).0 % lanes ∷ entries_from lanes n (pcg32 g).1
unfolding first_words
entries_from-first lanes n g = refl

-- one more entry is drawn
pub drawn-next : (lanes n i word : ℕ) (g after : Lcg) (done total : List ℕ) → i < n → (word, after) ≡ pcg32 g
    → done ++ entries_from lanes (n - i) g ≡ total → (done ++ (word % lanes) ∷ []) ++ entries_from lanes (n - (i + 1)) after ≡ total
drawn-next lanes n i word g after done total lt step so_far =
    let k : n - i ≡ suc (n - (i + 1)) = omega arith in
    let first : entries_from lanes (n - i) g ≡ word % lanes ∷ entries_from lanes (n - (i + 1)) after =
    ap (λ m. entries_from lanes m g) k ∙ entries_from-first lanes (n - (i + 1)) g ∙ sym (ap (λ (s : ℕ × Lcg). s.0 % lanes ∷ entries_from lanes (n - (i + 1)) s.1) step) in
    append_assoc done ((word % lanes) ∷ []) (entries_from lanes (n - (i + 1)) after) ∙ sym (ap (λ xs. done ++ xs) first) ∙ so_far

-- all entries are drawn
pub drawn-all : (lanes n i : ℕ) (g : Lcg) (done total : List ℕ) → n ≤ i → done ++ entries_from lanes (n - i) g ≡ total → done ≡ total
unfolding first_words
drawn-all lanes n i g done total le so_far =
    let k : n - i ≡ 0 = omega arith in
    sym (append-nil done) ∙ sym (ap (λ m. done ++ entries_from lanes m g) k) ∙ so_far
