-- The slots that a seat has in hand: the first is exchanged and goes behind the others, one after another, until all are.
use Rattle.poolsteps.specs.Spot.{Spot as CellSpot}
use Rattle.keybits.specs.Shapes.{callers}
use Rattle.std.proofs.Common.{◌≡◌, ℕ, zero, suc, ◌+◌, ◌-◌, ◌<◌, List, [], ◌∷◌, ◌++◌, Option, Some, refl, ap, sym, ◌∙◌, subst, arith, append_assoc, append-nil}
use Rattle.atomic_table.specs.Table.{rest}
use Rattle.keybits.specs.declared.shape.Shape.{Shape}
use Rattle.poolsteps.specs.Layout.{slot_index}
use Rattle.poolsteps.specs.Share.{Share, share_of}
use Rattle.poolsteps.specs.Rest.{Rest}
use Rattle.poolsteps.specs.declared.view.Stored.{Stored}
use Rattle.poolsteps.specs.declared.view.Status.TheVariants.{Untouched}
use Rattle.poolsteps.specs.Shares.{IsShareOf}
use Rattle.poolsteps.specs.Batches.{held_of, IsOrder, AreLeft, AreOf}
use Rattle.poolsteps.proofs.Carrying.{first_value}

-- lanes by rising number, and by falling number
abbrev pub rising : ℕ → ℕ
rising position = position

abbrev pub falling : Shape → ℕ → ℕ
falling z position = (callers z) - 1 - position

pub rising-order : (z : Shape) → IsOrder z rising
rising-order z = record { below = λ i less. less; apart = λ i j one other same. same; all = λ k less. (k, less, refl) }

pub falling-order : (z : Shape) → IsOrder z (falling z)
falling-order z = record {
  below = λ i less. omega (arith, less);
  apart = λ i j one other same. omega (arith, one, other, same);
  all = λ k less. ((callers z) - 1 - k, omega (arith, less), omega (arith, less));
}

module _ {A : Type 0} (z : Shape) (place : ℕ) (order : ℕ → ℕ) (values after : ℕ → A) where
  abbrev pub one_of : (ℕ → A) → ℕ → ℕ × A
  one_of these position = (slot_index z place (order position), these (order position))

  -- those of so many positions from one on, the last first
  abbrev pub row_from : ℕ → ℕ → List (ℕ × A)
  row_from from zero = []
  row_from from (suc more) = one_of after (from + more) ∷ row_from from more

  row-behind : (from count : ℕ) → row_from from (suc count) ≡ row_from (suc from) count ++ one_of after from ∷ []
  row-behind from zero = ap (λ (n : ℕ). one_of after n ∷ []) (omega arith)
  row-behind from (suc count) =
      let same : from + suc count ≡ suc from + count = omega arith in
      (λ i. one_of after (same i) ∷ row-behind from count i)

  row-all : (count : ℕ) → row_from 0 count ≡ held_of z place order after count
  row-all zero = refl
  row-all (suc count) = let same : 0 + count ≡ count = omega arith in (λ i. one_of after (same i) ∷ row-all count i)

  -- so many are still to be exchanged, and so many went behind them
  abbrev pub turning : ℕ → ℕ → List (ℕ × A)
  turning left done = held_of z place order values left ++ row_from left done

  pub turning-none : (count : ℕ) → held_of z place order values count ≡ turning count 0
  turning-none count = sym (append-nil (held_of z place order values count))

  -- the first goes behind the others
  module _ {xs : List (ℕ × A)} {count left number : ℕ} (done : ℕ) (same : count ≡ suc left) (here : order left ≡ number) (is : xs ≡ turning count done) where
    so : xs ≡ turning (suc left) done
    so = is ∙ ap (λ (n : ℕ). turning n done) same

    pub turning-head : xs ≡ (slot_index z place number, values number) ∷ rest xs
    turning-head = subst (λ (ys : List (ℕ × A)). ys ≡ (slot_index z place number, values number) ∷ rest ys) (sym so)
        (λ i. (slot_index z place (here i), values (here i)) ∷ rest (turning (suc left) done))

    pub turning-next : (value : A) → after number ≡ value → rest xs ++ (slot_index z place number, value) ∷ [] ≡ turning left (suc done)
    turning-next value last =
        ap (λ (ys : List (ℕ × A)). rest ys ++ (slot_index z place number, value) ∷ []) so
        ∙ (append_assoc (held_of z place order values left) (row_from (suc left) done) ((slot_index z place number, value) ∷ [])
        ∙ (ap (λ (row : List (ℕ × A)). held_of z place order values left ++ row)
        ((λ i. row_from (suc left) done ++ (slot_index z place (sym here i), (sym last ∙ ap after (sym here)) i) ∷ []) ∙ sym (row-behind left done))))

  pub turning-all : (count : ℕ) → turning 0 count ≡ held_of z place order after count
  turning-all count = row-all count

-- ---- the shares that are so taken and put
module _ {T : Type 0} (content : T → List ℕ) (room : T → ℕ) (spots : ℕ → CellSpot) (place : ℕ) (z : Shape) (c : Stored) where
  -- the share that was found in a slot that was left alone
  pub found-share : (values : ℕ → Option (Share T)) → AreLeft content room spots place z Untouched c values → (number : ℕ) → number < (callers z) → {xs : List (ℕ × Option (Share T))} {one other : ℕ}
      → xs ≡ (one, values number) ∷ rest xs → (share : Share T) → xs ≡ (other, Some share) ∷ rest xs → IsShareOf content room spots place c number (callers z) share
  found-share values are number below has share found =
      let left = are number below in
      let is : values number ≡ Some left.0 = cc left.1 in
      let same : Some left.0 ≡ Some share = sym is ∙ (sym (ap first_value has) ∙ ap first_value found) in
      let one_is : left.0 ≡ share = cc same in
      subst (λ (s : Share T). IsShareOf content room spots place c number (callers z) s) one_is left.2

  -- there is one
  pub some-share : (values : ℕ → Option (Share T)) → AreLeft content room spots place z Untouched c values → (number : ℕ) → number < (callers z) → {xs : List (ℕ × Option (Share T))} {index : ℕ}
      → xs ≡ (index, values number) ∷ rest xs → (share : Share T) × (xs ≡ (index, Some share) ∷ rest xs)
  some-share values are number below {xs = xs} {index = index} has =
      let left = are number below in
      let is : values number ≡ Some left.0 = cc left.1 in
      (left.0, subst (λ (value : Option (Share T)). xs ≡ (index, value) ∷ rest xs) is has)

  -- the shares of a rest by their numbers
  pub rest-left : (whole : Rest T) → AreOf content room spots place z c whole → AreLeft content room spots place z Untouched c (λ number. Some (share_of whole.cell whole.spot whole.of whole.object number))
  rest-left whole is number below = (
    share_of whole.cell whole.spot whole.of whole.object number,
    refl,
    record {
      cell = ap (λ (x : Stored). x.cell) is.cell_is;
      number_is = refl;
      of_is = is.of_is;
      spot_is = is.spot_is;
      content_is = ap (λ (x : Stored). x.content) is.cell_is;
      room_is = ap (λ (x : Stored). x.room) is.cell_is;
    },
  )
