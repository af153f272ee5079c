-- What the lane lends, after each kind of call.
use Rattle.std.proofs.Common.{◌≡◌, ◌≢◌, ◌+◌, ◌-◌, ◌≤◌, ℕ, Bool, List, [], ◌∷◌, ◌++◌, Some, None, All, Contains, refl, sym, ap, ◌∙◌, subst, arith, eq-eqb, ne_eqb, length-append, if◌then◌else◌}
use Rattle.std.proofs.lemmas.List.Elements.{All-nil, All-head, All-tail, All-push, All-weaker, All-contains}
use Rattle.std.specs.List.Sorted.{IsPermutation}
use Rattle.std.proofs.lemmas.List.Sorted.{All-permutation, length_permutation, IsPermutation-to_front}
use mathlib.Core.Logic.{dite}
use native.Mathlib.Decide.{ℕ_discrete}
use Rattle.shardpool.specs.Tokens.{PoolOf, LaneOf}
use Rattle.shardpool.specs.Lanes.{holds, refs}
use Rattle.shardpool.specs.AfterCalls.{HoldsAsMany, HoldsOneMore, HoldsOneLess, AfterGet, AfterRelease}
use Rattle.shardpool.specs.Loans.{LoanOf, IsLent, KeepsLoans, KeepsOtherLoans}
use Rattle.lendings.specs.Lenders.{times, HaveNot, AreOut, IsOut}
use Rattle.lendings.proofs.Counting.{counts, counts-one, counts-none, times-cons, times-push, times-permuted, have-not, times-none, times-among}

module _ {T : Type 0} (content : T → List ℕ) (room : T → ℕ) where
  -- none
  pub out-none : (lane : LaneOf) → refs lane ≡ 0 → ((key : ℕ) → holds lane key ≤ refs lane) → AreOut content room lane []
  out-none lane none few = record {
    lent = All-nil (IsLent content room lane);
    single = λ key. omega arith;
    counted = λ key. (let low = few key in omega (arith, low, none));
    all = none;
  }

  -- in another order
  pub out-permuted : (lane : LaneOf) (loans others : List (LoanOf T)) → IsPermutation loans others → AreOut content room lane loans → AreOut content room lane others
  out-permuted lane loans others moved out = record {
    lent = All-permutation (IsLent content room lane) loans others moved out.lent;
    single = λ key. (let same = times-permuted key loans others moved in let few = out.single key in omega (arith, same, few));
    counted = λ key. out.counted key ∙ sym (times-permuted key loans others moved);
    all = out.all ∙ sym (length_permutation loans others moved);
  }

  -- after a call that keeps all references
  pub out-kept : (old new : LaneOf) (loans : List (LoanOf T)) → refs new ≡ refs old → HoldsAsMany old new → KeepsLoans content room old new
      → AreOut content room old loans → AreOut content room new loans
  out-kept old new loans refs_are held kept out = record {
    lent = All-weaker (IsLent content room old) (IsLent content room new) kept loans out.lent;
    single = out.single;
    counted = λ key. held key ∙ out.counted key;
    all = refs_are ∙ out.all;
  }

  -- one more
  pub out-more : (old new : LaneOf) (loans : List (LoanOf T)) (loan : LoanOf T) → HaveNot loan.key loans → refs new ≡ refs old + 1 → HoldsOneMore loan.key old new
      → IsLent content room new loan → KeepsLoans content room old new → AreOut content room old loans → AreOut content room new (loans ++ loan ∷ [])
  out-more old new loans loan none refs_are more lent kept out = record {
    lent = All-push (IsLent content room new) loans loan (All-weaker (IsLent content room old) (IsLent content room new) kept loans out.lent) lent;
    single = λ key. dite (ℕ_discrete loan.key key)
        (λ (same : loan.key ≡ key).
        let push = times-push key loans loan in let one = counts-one key loan same in
        let rest = times-none key loans (subst (λ (k : ℕ). HaveNot k loans) same none) in omega (arith, push, one, rest))
        (λ (other : loan.key ≢ key).
        let push = times-push key loans loan in let zero = counts-none key loan other in let few = out.single key in omega (arith, push, zero, few));
    counted = λ key. dite (ℕ_discrete loan.key key)
        (λ (same : loan.key ≡ key).
        let push = times-push key loans loan in let one = counts-one key loan same in let was = out.counted key in
        let is : holds new key ≡ holds old key + 1 = more key ∙ ap (λ (b : Bool). if b then holds old key + 1 else holds old key) (eq-eqb loan.key key same) in
        omega (arith, push, one, was, is))
        (λ (other : loan.key ≢ key).
        let push = times-push key loans loan in let zero = counts-none key loan other in let was = out.counted key in
        let is : holds new key ≡ holds old key = more key ∙ ap (λ (b : Bool). if b then holds old key + 1 else holds old key) (ne_eqb loan.key key other) in
        omega (arith, push, zero, was, is));
    all = refs_are ∙ (let was = out.all in omega (arith, was, length-append loans (loan ∷ [])));
  }

  -- ---- one less

  module _ (old : LaneOf) (loans : List (LoanOf T)) (loan : LoanOf T) (rest : List (LoanOf T)) (moved : IsPermutation loans (loan ∷ rest)) (out : AreOut content room old loans) where
    pub rest-times : (key : ℕ) → counts key loan + times key rest ≡ times key loans
    rest-times key = sym (times-cons key loan rest) ∙ times-permuted key loans (loan ∷ rest) moved

    -- it was the one of its key
    pub rest-none : HaveNot loan.key rest
    rest-none =
        let sum = rest-times loan.key in let one = counts-one loan.key loan refl in let few = out.single loan.key in
        have-not loan.key rest (omega (arith, sum, one, few))

    pub rest-lent : All (IsLent content room old) (loan ∷ rest)
    rest-lent = All-permutation (IsLent content room old) loans (loan ∷ rest) moved out.lent

    pub given-lent : IsLent content room old loan
    given-lent = All-head (IsLent content room old) loan rest rest-lent

    pub given-once : holds old loan.key ≡ 1
    given-once =
        let sum = rest-times loan.key in let one = counts-one loan.key loan refl in let few = out.single loan.key in let was = out.counted loan.key in
        omega (arith, sum, one, few, was)

    module _ (new : LaneOf) (refs_are : refs new + 1 ≡ refs old) (less : HoldsOneLess loan.key old new) (kept : KeepsOtherLoans content room loan.key old new) where
      pub out-less : AreOut content room new rest
      out-less = record {
        lent = λ k d low. kept _ (rest-none k d low) (All-tail (IsLent content room old) loan rest rest-lent k d low);
        single = λ key. (let sum = rest-times key in let few = out.single key in omega (arith, sum, few));
        counted = λ key. dite (ℕ_discrete loan.key key)
            (λ (same : loan.key ≡ key).
            let sum = rest-times key in let one = counts-one key loan same in let was = out.counted key in
            let is : holds new key ≡ holds old key - 1 = less key ∙ ap (λ (b : Bool). if b then holds old key - 1 else holds old key) (eq-eqb loan.key key same) in
            omega (arith, sum, one, was, is))
            (λ (other : loan.key ≢ key).
            let sum = rest-times key in let zero = counts-none key loan other in let was = out.counted key in
            let is : holds new key ≡ holds old key = less key ∙ ap (λ (b : Bool). if b then holds old key - 1 else holds old key) (ne_eqb loan.key key other) in
            omega (arith, sum, zero, was, is));
        all = (let was = out.all in let moved_len = length_permutation loans (loan ∷ rest) moved in omega (arith, was, moved_len, refs_are, length-append (loan ∷ []) rest));
      }

  -- ---- one that is out

  pub is-out : (lane : LaneOf) (loans : List (LoanOf T)) (loan : LoanOf T) (key : ℕ) → loan.key ≡ key → Contains loans loan → AreOut content room lane loans
      → IsOut content room key (record { lane = lane; loans = loans }) loan
  is-out lane loans loan key same among out = record {
    under = same;
    among = among;
    lent = All-contains (IsLent content room lane) loans loan out.lent among;
    once = (let some = times-among key loans loan among same in let few = out.single key in let was = out.counted key in omega (arith, some, few, was));
  }

  -- a key of which none is out has no loan of the lane
  pub none-held : (lane : LaneOf) (loans : List (LoanOf T)) (key : ℕ) → HaveNot key loans → AreOut content room lane loans → holds lane key ≡ 0
  none-held lane loans key none out = out.counted key ∙ times-none key loans none

  -- so a release of it keeps all
  pub kept-without : (old middle new : LaneOf) (loans : List (LoanOf T)) (key : ℕ) → HaveNot key loans → AreOut content room old loans → KeepsLoans content room old middle
      → KeepsOtherLoans content room key middle new → KeepsLoans content room old new
  kept-without old middle new loans key none out kept others loan lent =
      let zero = none-held old loans key none out in
      others loan (λ (same : loan.key ≡ key). let some = subst (λ (k : ℕ). 1 ≤ holds old k) same lent.held in absurd (omega (arith, zero, some))) (kept loan lent)

  -- ---- after a get of a key of which none is out

  pub out-missed : (pool : PoolOf) (key : ℕ) (old new : LaneOf) (loans : List (LoanOf T)) → AfterGet T pool key old new None → KeepsLoans content room old new
      → AreOut content room old loans → AreOut content room new loans
  out-missed pool key old new loans got kept out =
      let refs_are = got.refs in
      let same : refs new ≡ refs old = omega (arith, refs_are) in out-kept old new loans same (got.no_more refl) kept out

  module _ (pool : PoolOf) (key : ℕ) (old middle : LaneOf) (loans : List (LoanOf T)) (loan : LoanOf T) (none : HaveNot key loans)
      (got : AfterGet T pool key old middle (Some (record { key = key }))) (under : loan.key ≡ key) (lent : IsLent content room middle loan)
      (kept : KeepsLoans content room old middle) (out : AreOut content room old loans) where
    pub out-found : AreOut content room middle (loans ++ loan ∷ [])
    out-found =
        out-more old middle loans loan (subst (λ (k : ℕ). HaveNot k loans) (sym under) none) got.refs
        (subst (λ (k : ℕ). HoldsOneMore k old middle) (sym under) (got.one_more refl)) lent kept out

    to-front : IsPermutation (loans ++ loan ∷ []) (loan ∷ loans)
    to-front = IsPermutation-to_front loans loan

    pub found-once : holds middle loan.key ≡ 1
    found-once = given-once middle (loans ++ loan ∷ []) loan loans to-front out-found

    module _ (new : LaneOf) (released : AfterRelease T pool loan.key middle new) (others : KeepsOtherLoans content room loan.key middle new) where
      pub out-back : AreOut content room new loans
      out-back = out-less middle (loans ++ loan ∷ []) loan loans to-front out-found new released.refs released.one_less others

      pub kept-back : KeepsLoans content room old new
      kept-back = kept-without old middle new loans loan.key (subst (λ (k : ℕ). HaveNot k loans) (sym under) none) out kept others
