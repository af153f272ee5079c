-- Which lists are all the shares of a cell, for whoever splits a cell or gathers its shares.
use Rattle.std.proofs.Common.{◌≡◌, ℕ, zero, suc, ◌+◌, ◌-◌, ◌<◌, List, [], ◌∷◌, ◌++◌, length, length-append, map, refl, sym, ap, ◌∙◌, subst, arith, Option, Some, None, IfSome, IsSome, add-one}
use Rattle.std.specs.List.{All}
use Rattle.std.specs.List.Sorted.{IsPermutation}
use Rattle.std.proofs.lemmas.List.{map-append, length-map}
use Rattle.std.proofs.lemmas.List.Sorted.{IsPermutation-refl, IsPermutation-trans, IsPermutation-map, All-permutation, length_permutation}
use Rattle.std.proofs.lemmas.List.Elements.{All-nil, All-cons, All-head, All-tail, All-push, All-pop}
use Rattle.slotcell.specs.Share.{Share, share_of, shares_below, labels_below, label, AreAllShares, AllShow}

module _ (cell n : ℕ) where
  pub labels_below-length : (k : ℕ) → length (labels_below cell n k) ≡ k
  labels_below-length zero = refl
  labels_below-length (suc k) = let longer = length-append (labels_below cell n k) (Some (cell, (n, k)) ∷ []) in let before = labels_below-length k in omega arith

  pub labels_below-more : (k : ℕ) → labels_below cell n (k + 1) ≡ labels_below cell n k ++ Some (cell, (n, k)) ∷ []
  labels_below-more k = ap (labels_below cell n) (add-one k)

  labels_below-some : (k : ℕ) → All IsSome (labels_below cell n k)
  labels_below-some zero = All-nil IsSome
  labels_below-some (suc k) = All-push IsSome (labels_below cell n k) (Some (cell, (n, k))) (labels_below-some k) refl

module _ {T : Type 0} (cell n : ℕ) (x : T) where
  pub shares_below-length : (k : ℕ) → length (shares_below cell n x k) ≡ k
  shares_below-length zero = refl
  shares_below-length (suc k) = let longer = length-append (shares_below cell n x k) (Some (share_of cell n x k) ∷ []) in let before = shares_below-length k in omega arith

  pub shares_below-more : (k : ℕ) → shares_below cell n x (k + 1) ≡ shares_below cell n x k ++ Some (share_of cell n x k) ∷ []
  shares_below-more k = ap (shares_below cell n x) (add-one k)

  pub shares_below-some : (k : ℕ) → All IsSome (shares_below cell n x k)
  shares_below-some zero = All-nil IsSome
  shares_below-some (suc k) = All-push IsSome (shares_below cell n x k) (Some (share_of cell n x k)) (shares_below-some k) refl

  pub map-label-shares_below : (k : ℕ) → map label (shares_below cell n x k) ≡ labels_below cell n k
  map-label-shares_below zero = refl
  map-label-shares_below (suc k) = map-append label (shares_below cell n x k) (Some (share_of cell n x k) ∷ []) ∙ ap (λ ls. ls ++ Some (cell, (n, k)) ∷ []) (map-label-shares_below k)

module _ {T : Type 0} where
  -- shares that were gathered by rising number, whatever each shows
  pub all_by_label : (cell n : ℕ) (shares : List (Option (Share T))) → 0 < n → map label shares ≡ labels_below cell n n → AreAllShares shares
  all_by_label cell n shares some labels = (cell, n, some, subst (IsPermutation (labels_below cell n n)) (sym labels) (IsPermutation-refl (labels_below cell n n)))

  -- what a split gives
  pub all_of_split : (cell n : ℕ) (x : T) (shares : List (Option (Share T))) → 0 < n → shares ≡ shares_below cell n x n → AreAllShares shares
  all_of_split cell n x shares some is = all_by_label cell n shares some (ap (map label) is ∙ map-label-shares_below cell n x n)

  -- the same shares in another order
  pub all_reordered : (shares others : List (Option (Share T))) → IsPermutation shares others → AreAllShares shares → AreAllShares others
  all_reordered shares others moved all =
      (all.0, all.1, all.2, IsPermutation-trans (labels_below all.0 all.1 all.1) (map label shares) (map label others) all.3 (IsPermutation-map label shares others moved))

  all_by_map : (shares : List (Option (Share T))) → All IsSome (map label shares) → All IsSome shares
  all_by_map [] some = All-nil IsSome
  all_by_map (o ∷ os) some = All-cons IsSome o os (is_some o (All-head IsSome (label o) (map label os) some)) (all_by_map os (All-tail IsSome (label o) (map label os) some))
    where
      is_some : (o : Option (Share T)) → IsSome (label o) → IsSome o
      is_some (Some s) h = refl
      is_some None h = h

  -- there is no None among them
  pub all_some : (shares : List (Option (Share T))) → AreAllShares shares → All IsSome shares
  all_some shares all = all_by_map shares (All-permutation IsSome (labels_below all.0 all.1 all.1) (map label shares) all.3 (labels_below-some all.0 all.1 all.1))

  -- and there is at least one
  pub all_not_empty : (shares : List (Option (Share T))) → AreAllShares shares → 0 < length shares
  all_not_empty shares all = let labels = labels_below all.0 all.1 all.1 in
      let long = length_permutation labels (map label shares) all.3 in let many = labels_below-length all.0 all.1 all.1 in let same = length-map shares label in let some = all.2 in omega arith

  -- what holds of each object that they show holds of the object of the whole
  pub holds_of_whole : (P : T → Type 0) (shares : List (Option (Share T))) (x : T) → AreAllShares shares → AllShow x shares → All (λ o. IfSome o (λ s. P s.object)) shares → P x
  holds_of_whole P [] x all shown each = absurd (omega (arith, all_not_empty [] all))
  holds_of_whole P (o ∷ os) x all shown each = here o (All-head IsSome o os (all_some (o ∷ os) all)) (All-head (λ o. IfSome o (λ s. s.object ≡ x)) o os shown) (All-head (λ o. IfSome o (λ s. P s.object)) o os each)
    where
      here : (o : Option (Share T)) → IsSome o → IfSome o (λ s. s.object ≡ x) → IfSome o (λ s. P s.object) → P x
      here (Some s) some same h = subst P same h
      here None some same h = absurd (cc some)

  -- the shares of a split show what was split
  pub split_shows : (cell n : ℕ) (x y : T) → 0 < n → AllShow y (shares_below cell n x n) → y ≡ x
  split_shows cell n x y some shown =
      let at : suc (n - 1) ≡ n = omega arith in let before : AllShow y (shares_below cell n x (suc (n - 1))) = subst (λ k. AllShow y (shares_below cell n x k)) (sym at) shown in
      sym (All-pop (λ o. IfSome o (λ s. s.object ≡ y)) (shares_below cell n x (suc (n - 1))) (shares_below cell n x (n - 1)) (Some (Some (share_of cell n x (n - 1)))) refl before).1
