-- How the shares of a lane's rows go on standing where the rows do.
use Rattle.std.proofs.Common.{◌≡◌, ◌≢◌, ℕ, ◌<◌, List, length, Some, sym, ap, ◌∙◌, subst, length-set, get_or-set_other}
use Rattle.std.specs.Prelude.{slice_get, slice_set}
use Rattle.std.proofs.lemmas.Option.{slice_get_within, slice_get-get_or, get_or_from_slice_get}
use mathlib.Core.Logic.{dite}
use native.Mathlib.Decide.{ℕ_discrete}
use denote.RawPtr.{Ptr}
use Rattle.poolsteps.specs.Share.{Share}
use Rattle.poolsteps.specs.Spot.{Spot}
use Rattle.shardpool.specs.HeldKeys.{HeldKey}
use Rattle.shardpool.specs.Rows.{AreStanding}
use Rattle.shardpool.proofs.free.Stores.{stands-here}

-- what stands at another index stood there before
pub stood-else : {X : Type 0} (xs : List X) (i j : ℕ) (x y : X) → j ≢ i → slice_get (slice_set xs i x) j ≡ Some y → slice_get xs j ≡ Some y
stood-else xs i j x y other is =
    let within : j < length (slice_set xs i x) = slice_get_within (slice_set xs i x) j y is in
    let low : j < length xs = subst (λ (n : ℕ). j < n) (length-set xs i x) within in
    slice_get-get_or xs j y low ∙ ap Some (sym (get_or-set_other xs i j x y other) ∙ get_or_from_slice_get (slice_set xs i x) j y y is)

-- what stands at the index is what was written there
pub stood-here : {X : Type 0} (xs : List X) (i : ℕ) (x y : X) → slice_get (slice_set xs i x) i ≡ Some y → x ≡ y
stood-here xs i x y is =
    let within : i < length (slice_set xs i x) = slice_get_within (slice_set xs i x) i y is in
    let low : i < length xs = subst (λ (n : ℕ). i < n) (length-set xs i x) within in
    let both : Some x ≡ Some y = sym (stands-here xs i x low) ∙ is in cc both

module _ {T : Type 0} where
  -- a row whose share stands there may be written
  pub standing-set : {directory : Ptr} (rows : List (HeldKey T)) (i : ℕ) (row : HeldKey T) → AreStanding directory rows
      → ((s : Share T) → row.share ≡ Some s → s.spot ≡ record { directory = directory; index = i }) → AreStanding directory (slice_set rows i row)
  standing-set {directory} rows i row were here = λ at now s is share. dite (ℕ_discrete at i)
      (λ (same : at ≡ i).
      let row_is : row ≡ now = stood-here rows i row now (subst (λ (n : ℕ). slice_get (slice_set rows i row) n ≡ Some now) same is) in
      here s (ap (λ (r : HeldKey T). r.share) row_is ∙ share) ∙ ap (λ (n : ℕ). let spot : Spot = record { directory = directory; index = n } in spot) (sym same))
      (λ (other : at ≢ i). were at now s (stood-else rows i at row now other is) share)

  -- the same rows of the same directory
  pub standing-same : {old new : Ptr} {rows left : List (HeldKey T)} → left ≡ rows → new ≡ old → AreStanding old rows → AreStanding new left
  standing-same {old} {new} {rows} {left} same directory were =
      subst (λ (xs : List (HeldKey T)). AreStanding new xs) (sym same) (subst (λ (p : Ptr). AreStanding p rows) (sym directory) were)
