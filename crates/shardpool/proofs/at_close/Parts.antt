-- Lanes are taken apart one after the other.
use Rattle.std.proofs.Common.{◌≡◌, ⊎_elim, ℕ, ◌+◌, ◌<◌, List, [], ◌∷◌, ◌++◌, length, Option, Some, None, ap, sym, ◌∙◌, subst, arith, length-append, slice_get}
use Rattle.std.proofs.lemmas.List.{length_push}
use Rattle.std.proofs.lemmas.Option.{slice_get_within}
use Rattle.atomic_table.specs.declared.shared.Seat.{Seat}
use Rattle.poolsteps.specs.Share.{Share}
use Rattle.poolsteps.specs.declared.view.View.{View}
use Rattle.poolsteps.proofs.ViewLemmas.{entry-of}
use Rattle.shardpool.specs.declared.pool.LaneState.{LaneState}
use Rattle.shardpool.specs.Tokens.{LaneOf}
use Rattle.shardpool.specs.Partings.{IsParted, AreParted}

-- an entry of a list with one more, below the old length
old-entry : {A : Type 0} → (xs : List A) (x entry : A) (i : ℕ) → i < length xs → slice_get (xs ++ x ∷ []) i ≡ Some entry → slice_get xs i ≡ Some entry
old-entry xs x entry i low is = ⊎_elim
    (λ (old : slice_get xs i ≡ Some entry). old)
    (λ (new : (i ≡ length xs) × (x ≡ entry)). let at = new.0 in absurd (omega (arith, at)))
    (entry-of xs x entry i is)

-- and at it
last-entry : {A : Type 0} → (xs : List A) (x entry : A) (i : ℕ) → i ≡ length xs → slice_get (xs ++ x ∷ []) i ≡ Some entry → x ≡ entry
last-entry xs x entry i at is = ⊎_elim
    (λ (old : slice_get xs i ≡ Some entry). let low = slice_get_within xs i entry old in absurd (omega (arith, low)))
    (λ (new : (i ≡ length xs) × (x ≡ entry)). new.1)
    (entry-of xs x entry i is)

-- those taken apart before the last are fewer than all
pub below-all : (all front yielded more : List LaneOf) (last : LaneOf) → all ≡ front ++ last ∷ [] → yielded ++ more ≡ front → length yielded < length all
below-all all front yielded more last is split =
    let long = ap length is ∙ length_push front last in
    let parts = sym (length-append yielded more) ∙ ap length split in
    omega (arith, long, parts)

module _ {T : Type 0} (content : T → List ℕ) (room : T → ℕ) where
  -- before the first none is taken apart
  pub none-parted : (hands : List (Seat (Option (Share T)) View)) (states : List (LaneState T)) → length hands ≡ 0 → states ≡ [] → AreParted content room [] hands states
  none-parted hands states no_hand no_shelf = record {
    count = (no_hand, ap length no_shelf);
    each = λ index lane hand state is _ _. let nowhere : None ≡ Some lane = is in absurd (cc nowhere);
  }

  -- one more
  pub one-parted : {lanes : List LaneOf} {hands : List (Seat (Option (Share T)) View)} {states : List (LaneState T)} (hands_now : List (Seat (Option (Share T)) View))
      (shelves_now : List (LaneState T)) (lane : LaneOf) (hand : Seat (Option (Share T)) View) (state : LaneState T) → AreParted content room lanes hands states → IsParted content room lane hand state
      → hands_now ≡ hands ++ hand ∷ [] → shelves_now ≡ states ++ state ∷ [] → AreParted content room (lanes ++ lane ∷ []) hands_now shelves_now
  one-parted {lanes} {hands} {states} hands_now shelves_now lane hand state are is more_hands more_shelves =
      let all : AreParted content room (lanes ++ lane ∷ []) (hands ++ hand ∷ []) (states ++ state ∷ []) = record {
        count = (
          length_push hands hand ∙ (ap (λ (n : ℕ). n + 1) are.count.0 ∙ sym (length_push lanes lane)),
          length_push states state ∙ (ap (λ (n : ℕ). n + 1) are.count.1 ∙ sym (length_push lanes lane)),
        );
        each = λ index l h s at_lane at_hand at_shelf. ⊎_elim
            (λ (old : slice_get lanes index ≡ Some l).
            let low = slice_get_within lanes index l old in let hands_long = are.count.0 in let shelves_long = are.count.1 in
            are.each index l h s old (old-entry hands hand h index (omega arith) at_hand) (old-entry states state s index (omega arith) at_shelf))
            (λ (new : (index ≡ length lanes) × (lane ≡ l)).
            let a : hand ≡ h = last-entry hands hand h index (new.0 ∙ sym are.count.0) at_hand in
            let b : state ≡ s = last-entry states state s index (new.0 ∙ sym are.count.1) at_shelf in
            subst (λ (x : LaneOf). IsParted content room x h s) new.1
            (subst (λ (x : Seat (Option (Share T)) View). IsParted content room lane x s) a (subst (IsParted content room lane hand) b is)))
            (entry-of lanes lane l index at_lane);
      } in
      subst (λ (x : List (Seat (Option (Share T)) View)). AreParted content room (lanes ++ lane ∷ []) x shelves_now) (sym more_hands)
      (subst (AreParted content room (lanes ++ lane ∷ []) (hands ++ hand ∷ [])) (sym more_shelves) all)
