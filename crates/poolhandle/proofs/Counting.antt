-- How often a key stands among fillings.
use Rattle.std.proofs.Common.{◌≡◌, ◌≢◌, ◌==◌, ℕ, ◌<◌, Bool, List, [], ◌∷◌, ◌++◌, length, slice_index_or, slice_set, swap_remove, refl, sym, ap, ◌∙◌, subst, arith, eq-eqb, ne_eqb, if◌then◌else◌}
use Rattle.std.proofs.lemmas.List.Elements.{All-nil, All-cons, All-head, All-tail}
use Rattle.std.proofs.lemmas.List.Sums.{sum_by-cons, sum_by_push, sum_by-swap_remove, sum_by-set}
use mathlib.Core.Logic.{dite}
use native.Mathlib.Decide.{ℕ_discrete}
use Rattle.poolhandle.specs.declared.kept.Kept.{Kept}
use Rattle.poolhandle.specs.Filled.{times, AreDistinct, HaveNot}

abbrev counts : ℕ → Kept → ℕ
counts key kept = if kept.filling.key == key then 1 else 0

counts-one : (key : ℕ) (kept : Kept) → kept.filling.key ≡ key → counts key kept ≡ 1
counts-one key kept same = ap (λ (b : Bool). if b then 1 else 0) (eq-eqb kept.filling.key key same)

counts-none : (key : ℕ) (kept : Kept) → kept.filling.key ≢ key → counts key kept ≡ 0
counts-none key kept other = ap (λ (b : Bool). if b then 1 else 0) (ne_eqb kept.filling.key key other)

pub have-not : (key : ℕ) (places : List Kept) → times key places ≡ 0 → HaveNot key places
have-not key [] none = All-nil (λ kept. kept.filling.key ≢ key)
have-not key (x ∷ xs) none =
    let sum = sum_by-cons (counts key) x xs in
    All-cons (λ kept. kept.filling.key ≢ key) x xs (λ same. let one = counts-one key x same in absurd (omega (arith, sum, one, none))) (have-not key xs (omega (arith, sum, none)))

pub times-none : (key : ℕ) (places : List Kept) → HaveNot key places → times key places ≡ 0
times-none key [] none = refl
times-none key (x ∷ xs) none =
    let P = λ (kept : Kept). kept.filling.key ≢ key in let sum = sum_by-cons (counts key) x xs in
    let here = counts-none key x (All-head P x xs none) in let there = times-none key xs (All-tail P x xs none) in sum ∙ omega (arith, here, there)

-- after one is put behind
pub distinct-push : (places : List Kept) (kept : Kept) → AreDistinct places → HaveNot kept.filling.key places → AreDistinct (places ++ kept ∷ [])
distinct-push places kept distinct none key =
    let sum = sum_by_push (counts key) places kept in let few = distinct key in
    dite (ℕ_discrete kept.filling.key key)
    (λ same. let one = counts-one key kept same in let rest = times-none key places (subst (λ (k : ℕ). HaveNot k places) same none) in omega (arith, sum, one, rest))
    (λ other. let zero = counts-none key kept other in omega (arith, sum, zero, few))

-- after one is taken out
pub distinct-taken : (places : List Kept) (index : ℕ) (kept : Kept) → index < length places → AreDistinct places → AreDistinct (swap_remove places index kept)
distinct-taken places index kept low distinct key = let sum = sum_by-swap_remove (counts key) places index kept low in let few = distinct key in omega (arith, sum, few)

pub none-taken : (places : List Kept) (index : ℕ) (kept : Kept) → index < length places → AreDistinct places → kept ≡ slice_index_or places index kept
    → HaveNot kept.filling.key (swap_remove places index kept)
none-taken places index kept low distinct is =
    let key = kept.filling.key in let sum = sum_by-swap_remove (counts key) places index kept low in let few = distinct key in
    let one = counts-one key (slice_index_or places index kept) (ap (λ (k : Kept). k.filling.key) (sym is)) in have-not key (swap_remove places index kept) (omega (arith, sum, few, one))

-- after one becomes another of its key
pub distinct-set : (places : List Kept) (index : ℕ) (kept : Kept) → index < length places → AreDistinct places
    → kept.filling.key ≡ (slice_index_or places index kept).filling.key → AreDistinct (slice_set places index kept)
distinct-set places index kept low distinct same key =
    let sum = sum_by-set (counts key) places index kept kept low in let few = distinct key in
    let even : counts key kept ≡ counts key (slice_index_or places index kept) = ap (λ (k : ℕ). if k == key then 1 else 0) same in omega (arith, sum, few, even)
