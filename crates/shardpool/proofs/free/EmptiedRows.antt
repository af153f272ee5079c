-- What a lane had seen guests return to a row is among the places that it gathers of it.
use Rattle.std.proofs.Common.{◌≡◌, ◌⊎◌, ⊎_elim, ℕ, ◌≤◌, true, false, List, [], ◌∷◌, ◌++◌, ap, sym, ◌∙◌, subst, append-nil}
use Rattle.std.proofs.lemmas.Bool.{cases_Bool}
use mathlib.Core.List.{IsPrefix}
use Rattle.keybits.specs.declared.shape.Shape.{Shape}
use Rattle.seqpool.specs.declared.act.Act.{Act}
use Rattle.seqpool.specs.declared.act.Act.TheVariants as acts
use Rattle.seqpool.specs.Pool.{Spot, Pool, has, fresh, pool_after, IsLegal}
use Rattle.seqpool.specs.Histories.{acts_of}
use Rattle.seqpool.proofs.Growth.{legal-front, pool-snoc, after-else}
use Rattle.steplaws.specs.Facts.{guest_home}
use Rattle.steplaws.specs.StepLaws.{row_of}
use Rattle.steplaws.proofs.HomePlaces.{home-same, returners-snoc, guest-part, guest-from, guest-same}
use Rattle.steplaws.proofs.Stays.{home-stays-law}
use Rattle.poolsteps.specs.Returned.{NoneGiven}
use Rattle.poolsteps.proofs.ViewLemmas.{none-behind, acts-between}

-- a place that a guest returned stays so while the lane of its shard makes no act
pub given-stays : (z : Shape) (seen between : List Act) (lane place : ℕ) → IsLegal z (seen ++ between) → acts_of lane between ≡ []
    → guest_home z seen lane place ≡ true → guest_home z (seen ++ between) lane place ≡ true
given-stays z seen between lane place legal none given =
    let was = guest-part z seen lane place given in
    let still = home-stays-law z seen between lane place legal none was.0 in
    guest-from z (seen ++ between) lane place still.0 (subst (λ (l : ℕ). z.lanes ≤ l) (sym still.1) was.1)

-- so too where the lane heard of it behind all that it did
pub given-heard : (z : Shape) (seen heard now : List Act) (lane place : ℕ) → IsPrefix seen heard → IsPrefix heard now → acts_of lane seen ≡ acts_of lane now → IsLegal z now
    → guest_home z heard lane place ≡ true → guest_home z now lane place ≡ true
given-heard z seen heard now lane place first then same legal given =
    let none : acts_of lane then.0 ≡ [] = none-behind lane heard then.0 now then.1 (sym (acts-between lane seen heard now first then same) ∙ same) in
    subst (λ (h : List Act). guest_home z h lane place ≡ true) then.1
    (given-stays z heard then.0 lane place (subst (IsLegal z) (sym then.1) legal) none given)

-- it stays so over a Collect of other places
beside : (z : Shape) (seen : List Act) (lane place : ℕ) (places : List ℕ) → has places place ≡ false
    → guest_home z (seen ++ acts.Collect lane places ∷ []) lane place ≡ guest_home z seen lane place
beside z seen lane place places isnt =
    let act : Act = acts.Collect lane places in
    guest-same z seen lane place (seen ++ act ∷ [])
    (home-same z seen lane place (seen ++ act ∷ [])
    (ap (λ (P : Pool). (P place).phase) (pool-snoc z fresh seen act) ∙ ap (λ (s : Spot). s.phase) (after-else z (pool_after z seen) act place isnt)))
    (ap (λ (f : ℕ → ℕ). f place) (returners-snoc (λ _. 0) seen act))

-- so where the row then has none, it was collected
pub given-taken : (z : Shape) (seen between made : List Act) (lane row : ℕ) (places : List ℕ) → IsLegal z ((seen ++ between) ++ made) → acts_of lane between ≡ []
    → (made ≡ []) ⊎ (made ≡ acts.Collect lane places ∷ []) → NoneGiven z ((seen ++ between) ++ made) lane row
    → (place : ℕ) → guest_home z seen lane place ≡ true → row_of place ≡ row → has places place ≡ true
given-taken z seen between made lane row places legal none either left place given here = ⊎_elim
    (λ (in_it : has places place ≡ true). in_it)
    (λ (isnt : has places place ≡ false).
    let still : guest_home z (seen ++ between) lane place ≡ true = given-stays z seen between lane place (legal-front z fresh (seen ++ between) made legal) none given in
    let after : guest_home z ((seen ++ between) ++ made) lane place ≡ true = ⊎_elim
    (λ (nothing : made ≡ []). ap (λ (h : List Act). guest_home z h lane place) (ap (λ (m : List Act). (seen ++ between) ++ m) nothing ∙ append-nil (seen ++ between)) ∙ still)
    (λ (one : made ≡ acts.Collect lane places ∷ []). ap (λ (m : List Act). guest_home z ((seen ++ between) ++ m) lane place) one
    ∙ (beside z (seen ++ between) lane place places isnt ∙ still)) either in
    let bad : true ≡ false = sym after ∙ left place here in absurd (cc bad))
    (cases_Bool (has places place))
