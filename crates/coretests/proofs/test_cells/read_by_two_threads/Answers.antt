use Rattle.std.proofs.Common.{◌≡◌, List, [], ◌∷◌, ◌++◌, length, length-append, append_assoc, Option, Some, IsSome, IfSome, arith, sym, ap, ◌∙◌, subst}
use Rattle.std.specs.List.Sorted.{IsPermutation}
use Rattle.std.proofs.lemmas.List.Elements.{All-pop}
use Rattle.std.proofs.lemmas.List.Sorted.{IsPermutation-append_right, IsPermutation-append_comm, IsPermutation-sym, All-permutation}
use Rattle.slotcell.specs.Share.{Share, AllShow}
use Rattle.slotcell.proofs.ShareLemmas.{shares_below-length, shares_below-some, all_of_split, all_reordered, split_shows}
use Rattle.coretests.proofs.test_cells.read_by_two_threads.Goals as goal

module _ {T : Type 0} (all front : List (Option (Share T))) (a b : Option (Share T)) (popped : all ≡ (front ++ b ∷ []) ++ a ∷ []) (others : List (Option (Share T))) (pushed : others ≡ (front ++ a ∷ []) ++ b ∷ []) where
  -- two shares at the end change places
  swapped : IsPermutation all others
  swapped = subst (λ xs. IsPermutation xs others) (sym (popped ∙ append_assoc front (b ∷ []) (a ∷ []))) (subst (IsPermutation (front ++ (b ∷ a ∷ []))) (sym (pushed ∙ append_assoc front (a ∷ []) (b ∷ [])))
      (IsPermutation-append_right front (b ∷ a ∷ []) (a ∷ b ∷ []) (IsPermutation-append_comm (b ∷ []) (a ∷ []))))

pub take_last-before-requires : goal.take_last-before-requires
take_last-before-requires g c = let s = c.split-shares.ensures in let x = c.args.whole in let front = c.take_last-last.new.shares.items in let last = c.take_last-last.result in
    let is = sym s.1 ∙ c.take_last-last.ensures in let long = ap length is ∙ length-append front (Some last ∷ []) in let many = shares_below-length s.0 16 x 16 in
    (omega arith, (omega arith, (All-pop IsSome _ front (Some (Some last)) is (shares_below-some s.0 16 x 16)).0))

pub join-requires : goal.join-requires
join-requires g c = let s = c.split-shares.ensures in let xs = c.split-shares.result.items in let back = c.read_in_threads-last.ensures in let front = c.take_last-before.new.shares.items in
    let last = c.take_last-last.result in let before = c.take_last-before.result in
    let popped = c.take_last-last.ensures ∙ (λ i. c.take_last-before.ensures i ++ Some last ∷ []) in
    let pushed = c.push-2.ensures.items ∙ (λ i. (c.push.ensures.items ∙ (λ j. front ++ Some (back.0 j) ∷ [])) i ++ Some (back.1 i) ∷ []) in
    (omega arith, all_reordered xs _ (swapped xs front (Some last) (Some before) popped _ pushed) (all_of_split s.0 16 c.args.whole xs (omega arith) s.1))

pub returns : goal.returns
returns g c = let s = c.split-shares.ensures in let xs = c.split-shares.result.items in let back = c.read_in_threads-last.ensures in let front = c.take_last-before.new.shares.items in
    let last = c.take_last-last.result in let before = c.take_last-before.result in let x = c.join.result in
    let popped = c.take_last-last.ensures ∙ (λ i. c.take_last-before.ensures i ++ Some last ∷ []) in
    let pushed = c.push-2.ensures.items ∙ (λ i. (c.push.ensures.items ∙ (λ j. front ++ Some (back.0 j) ∷ [])) i ++ Some (back.1 i) ∷ []) in
    let same = swapped xs front (Some last) (Some before) popped _ pushed in
    split_shows s.0 16 c.args.whole x (omega arith) (subst (AllShow x) s.1 (All-permutation (λ o. IfSome o (λ t. t.object ≡ x)) _ xs (IsPermutation-sym xs _ same) c.join.ensures))
