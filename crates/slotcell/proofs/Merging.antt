-- How `join` puts the parts of a cell together: its shares have 2 ^ 63 parts in all, and one of them has the right to the box.
use Rattle.std.proofs.Common.{◌≡◌, ℕ, zero, suc, ◌+◌, ◌-◌, ◌^◌, ◌<◌, ◌≤◌, ◌==◌, ◌||◌, Bool, true, false, List, [], ◌∷◌, ◌++◌, length, map, refl, sym, ap, ◌∙◌, subst, arith, Option, Some, None, IfSome, IsSome, eq-eqb, ne_eqb, zero-add, append_assoc, if◌then◌else◌}
use Rattle.std.specs.List.{All, sum_by}
use Rattle.std.specs.List.Sorted.{IsPermutation}
use Rattle.std.proofs.lemmas.List.{map-append, length-map}
use Rattle.std.proofs.lemmas.List.Sorted.{All-permutation, sum_by-IsPermutation, length_permutation}
use Rattle.std.proofs.lemmas.List.Sums.{sum_by_push}
use Rattle.std.proofs.lemmas.List.Elements.{All-nil, All-cons, All-head, All-tail, All-push, All-pop}
use Rattle.slotcell.specs.declared.portion.Portion.{Portion}
use Rattle.slotcell.specs.Share.{Share, labels_below, label, AreAllShares, AllShow}
use Rattle.slotcell.specs.Parts.{IsOneShare, shown_by}
use Rattle.slotcell.specs.Portion.{parts_of}
use Rattle.slotcell.proofs.ShareLemmas.{labels_below-length}

-- ---- by labels

abbrev pub Label : Type 0
Label = Option (ℕ × (ℕ × ℕ))

abbrev pub bit : Bool → ℕ
bit true = 1
bit false = 0

abbrev pub parts_at : Label → ℕ
parts_at None = 0
parts_at (Some l) = parts_of l.1.0 l.1.1

abbrev pub rights_at : Label → ℕ
rights_at None = 0
rights_at (Some l) = bit (l.1.1 + 1 == l.1.0)

-- the label of a share of this cell
abbrev pub IsOf : ℕ → Label → Type 0
IsOf cell None = ⊥
IsOf cell (Some l) = (l.0 ≡ cell) × (0 < parts_of l.1.0 l.1.1)

-- beside k parts, and the right to the box where y holds, these shares have all that is left of the cell
pub record Completes (cell k : ℕ) (y : Bool) (labels : List Label) : Type 0 where
  pub of_cell : All (IsOf cell) labels
  pub parts : k + sum_by parts_at labels ≡ 2 ^ 63
  pub right : 1 ≤ bit y + sum_by rights_at labels

parts_if : ℕ → Bool → ℕ
parts_if i y = if y then 2 ^ 63 - i else 1

one_part : (n i : ℕ) → i + 1 < n → parts_of n i ≡ 1
unfolding parts_if
one_part n i below = ap (parts_if i) (ne_eqb (i + 1) n (λ e. omega arith))

last_parts : (n i : ℕ) → i + 1 ≡ n → parts_of n i ≡ 2 ^ 63 - i
unfolding parts_if
last_parts n i at = ap (parts_if i) (eq-eqb (i + 1) n at)

some_parts : (n i : ℕ) → i < 2 ^ 63 → 0 < parts_of n i
some_parts n i fits = by_case (i + 1 == n)
  where
    by_case : (y : Bool) → 0 < (if y then 2 ^ 63 - i else 1)
    by_case true = omega arith
    by_case false = omega arith

module _ (cell n : ℕ) where
  of_cell_below : (k : ℕ) → k ≤ 2 ^ 63 → All (IsOf cell) (labels_below cell n k)
  of_cell_below zero fits = All-nil (IsOf cell)
  of_cell_below (suc k) fits = All-push (IsOf cell) (labels_below cell n k) _ (of_cell_below k (omega arith)) (refl, some_parts n k (omega arith))

  parts_below : (k : ℕ) → k < n → sum_by parts_at (labels_below cell n k) ≡ k
  parts_below zero below = refl
  parts_below (suc k) below =
      let pushed = sum_by_push parts_at (labels_below cell n k) (Some (cell, (n, k))) in let rest = parts_below k (omega arith) in let one = one_part n k (omega arith) in
      pushed ∙ omega (arith, rest, one)

  complete_below : (k : ℕ) → k + 1 ≡ n → n ≤ 2 ^ 63 → Completes cell 0 false (labels_below cell n (suc k))
  complete_below k at fits =
      let parts = sum_by_push parts_at (labels_below cell n k) (Some (cell, (n, k))) in let rights = sum_by_push rights_at (labels_below cell n k) (Some (cell, (n, k))) in
      let before = parts_below k (omega arith) in let last = last_parts n k at in let right : bit (k + 1 == n) ≡ 1 = ap bit (eq-eqb (k + 1) n at) in
      record { of_cell = of_cell_below (suc k) (omega arith); parts = omega arith; right = omega arith }

-- ---- by shares

module _ {T : Type 0} where
  pub all_complete : (shares : List (Option (Share T))) (all : AreAllShares shares) → length shares ≤ 2 ^ 63 → Completes all.0 0 false (map label shares)
  all_complete shares all few =
      let cell : ℕ = all.0 in let n : ℕ = all.1 in let ls = labels_below cell n n in let is : IsPermutation ls (map label shares) = all.3 in
      let long = length_permutation ls (map label shares) is in let many = labels_below-length cell n n in let same = length-map shares label in
      let at : suc (n - 1) ≡ n = omega arith in
      let whole : Completes cell 0 false ls = subst (λ k. Completes cell 0 false (labels_below cell n k)) at (complete_below cell n (n - 1) (omega arith) (omega arith)) in
      let parts = sum_by-IsPermutation parts_at ls (map label shares) is in let rights = sum_by-IsPermutation rights_at ls (map label shares) is in
      record {
        of_cell = All-permutation (IsOf cell) ls (map label shares) is whole.of_cell;
        parts = ap (λ k. 0 + k) parts ∙ whole.parts;
        right = subst (λ k. 1 ≤ bit false + k) (sym rights) whole.right;
      }

  -- the last share is taken off
  popped : (cell k : ℕ) (y : Bool) (front : List (Option (Share T))) (s : Share T) → Completes cell k y (map label (front ++ Some s ∷ []))
      → IsOf cell (label (Some s)) × Completes cell (k + parts_of s.of s.number) (y || (s.number + 1 == s.of)) (map label front)
  popped cell k y front s completes =
      let labels : map label (front ++ Some s ∷ []) ≡ map label front ++ label (Some s) ∷ [] = map-append label front (Some s ∷ []) in
      let before : Completes cell k y (map label front ++ label (Some s) ∷ []) = subst (Completes cell k y) labels completes in
      let each = All-pop (IsOf cell) (map label front ++ label (Some s) ∷ []) (map label front) (Some (label (Some s))) refl before.of_cell in
      let parts = sum_by_push parts_at (map label front) (label (Some s)) in let rights = sum_by_push rights_at (map label front) (label (Some s)) in
      let sum = before.parts in let right = before.right in
      (each.1, record { of_cell = each.0; parts = omega arith; right = either y (s.number + 1 == s.of) (sum_by rights_at (map label front)) (omega arith) })
    where
      either : (y z : Bool) (m : ℕ) → 1 ≤ bit y + (m + bit z) → 1 ≤ bit (y || z) + m
      either true z m some = omega arith
      either false z m some = omega arith

  -- While shares are merged into `all`: these of the original ones are left, and those that are done showed its object.
  pub record Merges (original left : List (Option (Share T))) (all : Portion T) : Type 0 where
    pub done : List (Option (Share T))
    pub splits : original ≡ left ++ done
    pub shown : AllShow all.object done
    pub some : 0 < all.parts
    pub completes : Completes all.cell all.parts all.owner (map label left)

  front_some : (front done : List (Option (Share T))) → All IsSome (front ++ done) → All IsSome front
  front_some [] done some = All-nil IsSome
  front_some (o ∷ os) done some = All-cons IsSome o os (All-head IsSome o (os ++ done) some) (front_some os done (All-tail IsSome o (os ++ done) some))

  pub left_some : (original left : List (Option (Share T))) (all : Portion T) → Merges original left all → All IsSome original → All IsSome left
  left_some original left all merges some = front_some left merges.done (subst (All IsSome) merges.splits some)

  pub merges_first : (original front : List (Option (Share T))) (q : Portion T) (all : AreAllShares original) → length original ≤ 2 ^ 63
      → original ≡ front ++ Some (shown_by q) ∷ [] → IsOneShare q → Merges original front q
  merges_first original front q all few is one =
      let p = popped all.0 0 false front (shown_by q) (subst (λ xs. Completes all.0 0 false (map label xs)) is (all_complete original all few)) in
      let same : (all.0, (0 + parts_of q.of q.number, (q.number + 1 == q.of))) ≡ (q.cell, (q.parts, q.owner)) =
      λ i. (sym p.0.0 i, ((zero-add (parts_of q.of q.number) ∙ sym one.0) i, sym one.1 i)) in
      let Rest : ℕ × (ℕ × Bool) → Type 0 = λ c. Completes c.0 c.1.0 c.1.1 (map label front) in let Shows : Option (Share T) → Type 0 = λ o. IfSome o (λ t. t.object ≡ q.object) in
      record {
        done = Some (shown_by q) ∷ [];
        splits = is;
        shown = All-cons Shows (Some (shown_by q)) [] refl (All-nil Shows);
        some = subst (λ k. 0 < k) (sym one.0) p.0.1;
        completes = subst Rest same p.1;
      }

  -- one more
  module _ (original left front : List (Option (Share T))) (before q : Portion T) (merges : Merges original left before) (is : left ≡ front ++ Some (shown_by q) ∷ []) (one : IsOneShare q) where
    taken : IsOf before.cell (label (Some (shown_by q))) × Completes before.cell (before.parts + parts_of q.of q.number) (before.owner || (q.number + 1 == q.of)) (map label front)
    taken = popped before.cell before.parts before.owner front (shown_by q) (subst (λ xs. Completes before.cell before.parts before.owner (map label xs)) is merges.completes)

    pub next_cell : q.cell ≡ before.cell
    next_cell = taken.0.0

    pub next_fits : before.parts + q.parts ≤ 2 ^ 63
    next_fits = let sum = taken.1.parts in let here = one.0 in omega arith

    pub merges_next : (after : Portion T) → q.object ≡ before.object → after ≡ record before { parts = before.parts + q.parts; owner = before.owner || q.owner } → Merges original front after
    merges_next after same made =
        let merged : Portion T = record before { parts = before.parts + q.parts; owner = before.owner || q.owner } in let some = merges.some in
        let Rest : ℕ × Bool → Type 0 = λ c. Completes before.cell (before.parts + c.0) (before.owner || c.1) (map label front) in
        let Shows : Option (Share T) → Type 0 = λ o. IfSome o (λ t. t.object ≡ before.object) in
        let goes : Merges original front merged = record {
          done = Some (shown_by q) ∷ merges.done;
          splits = merges.splits ∙ (ap (λ xs. xs ++ merges.done) is ∙ append_assoc front (Some (shown_by q) ∷ []) merges.done);
          shown = All-cons Shows (Some (shown_by q)) merges.done same merges.shown;
          some = omega arith;
          completes = subst Rest (λ i. (sym one.0 i, sym one.1 i)) taken.1;
        } in subst (Merges original front) (sym made) goes

  -- nothing is left
  pub merged_all : (original left : List (Option (Share T))) (all : Portion T) → Merges original left all → length left ≡ 0 → (all.parts ≡ 2 ^ 63) × (all.owner ≡ true) × AllShow all.object original
  merged_all original [] all merges none = let sum = merges.completes.parts in
      (omega arith, owned all.owner merges.completes.right, subst (AllShow all.object) (sym merges.splits) merges.shown)
    where
      owned : (y : Bool) → 1 ≤ bit y + 0 → y ≡ true
      owned true right = refl
      owned false right = absurd (omega arith)
  merged_all original (o ∷ os) all merges none = absurd (omega arith)

  pub all_show : {x y : T} (shares : List (Option (Share T))) → y ≡ x → AllShow x shares → AllShow y shares
  all_show shares same shown = subst (λ z. AllShow z shares) (sym same) shown
