-- Places of which nothing is outside of the shape, and what is due in place of a publish.
use Rattle.std.proofs.Common.{◌≡◌, ◌<◌, ◌+◌, ℕ, true, false, List, [], Option, Some, IfSome, Contains, take, slice_get, get_or, arith, sym, subst}
use Rattle.std.proofs.lemmas.Option.{get_or_from_slice_get}
use mathlib.Core.Logic.{dite}
use native.Mathlib.Decide.{ℕ_discrete}
use Rattle.keybits.specs.declared.shape.Shape.{Shape}
use Rattle.keybits.specs.Keys.{place_of, tag_of}
use Rattle.keybits.specs.Places.{shard_of}
use Rattle.keybits.specs.Shapes.{is_place}
use Rattle.seqpool.specs.Pool.{Pool}
use Rattle.seqpool.specs.declared.act.Act.{Act}
use Rattle.seqpool.specs.declared.act.Act.TheVariants.{Publish}
use Rattle.explanations.specs.declared.reasons.Due.TheVariants.{General}
use Rattle.explanations.specs.Reasons.{next_key, IsRefused, IsPublishDue}

abbrev IsGood : Shape → ℕ → List ℕ → ℕ → ℕ → Type 0
IsGood z lane places index place = (is_place z place ≡ true) × (shard_of place ≡ lane) × (Contains (take index places) place → ⊥)

same-place : (z : Shape) (lane : ℕ) (places : List ℕ) (here : ℕ) → IsGood z lane places here (get_or places here 0)
    → (index place : ℕ) → index ≡ here → slice_get places index ≡ Some place → IsGood z lane places index place
same-place z lane places here good index place same at =
    let is : get_or places here 0 ≡ place = get_or_from_slice_get places here place 0 (subst (λ (i : ℕ). slice_get places i ≡ Some place) same at) in
    subst (λ (i : ℕ). IsGood z lane places i place) (sym same) (subst (λ (p : ℕ). IsGood z lane places here p) is good)

-- one place more is good
pub inside-more : (z : Shape) (lane : ℕ) (places : List ℕ) (here : ℕ)
    → ((index place : ℕ) → index < here → slice_get places index ≡ Some place → IsGood z lane places index place)
    → is_place z (get_or places here 0) ≡ true → shard_of (get_or places here 0) ≡ lane → (Contains (take here places) (get_or places here 0) → ⊥)
    → (index place : ℕ) → index < here + 1 → slice_get places index ≡ Some place → IsGood z lane places index place
inside-more z lane places here before is own once index place low at = dite (ℕ_discrete index here)
    (λ same. same-place z lane places here (is, own, once) index place same at)
    (λ other. before index place (omega (arith, low, other)) at)

-- where the next key is refused, no more is known
pub publish-general : (z : Shape) (history : List Act) (pool : Pool) (lane key next : ℕ) → next_key history (tag_of key) (place_of key) ≡ Some next
    → IsRefused z pool (Publish lane next [] false) → IsPublishDue z history pool lane key General
publish-general z history pool lane key next is refused =
    subst (λ (found : Option ℕ). IfSome found (λ n. IsRefused z pool (Publish lane n [] false))) (sym is) refused
