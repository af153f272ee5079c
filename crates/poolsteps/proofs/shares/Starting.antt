-- Share, before the first step.
use Rattle.poolsteps.specs.Spot.{Spot}
use Rattle.std.proofs.Common.{arith, ◌≡◌, ◌≢◌, ⊎_elim, ℕ, Bool, true, false, cond, eqb, List, refl, ap, sym, ◌∙◌, eq-eqb, eqb-true}
use Rattle.std.proofs.lemmas.Bool.{cases_Bool}
use Rattle.keybits.specs.Places.{shard_of}
use Rattle.keybits.proofs.ShapeLemmas.{is_place-parts}
use Rattle.poolsteps.specs.declared.view.Status.TheVariants.{Untouched, Emptied, Whole}
use Rattle.poolsteps.specs.Shares.{first_status}
use Rattle.poolsteps.specs.ShareLaws.{FirstShareLaw}

-- the lane of a place's shard emptied its slots
first-own : (place slot : ℕ) → first_status (shard_of place) place slot ≡ Emptied
first-own place slot = ap (λ (b : Bool). cond b Emptied Untouched) (eq-eqb (shard_of place) (shard_of place) refl)

-- no other lane touched them
first-touched : (lane place slot : ℕ) → first_status lane place slot ≢ Untouched → shard_of place ≡ lane
first-touched lane place slot n = ⊎_elim (λ (is : eqb (shard_of place) lane ≡ true). eqb-true (shard_of place) lane is)
    (λ (isnt : eqb (shard_of place) lane ≡ false). absurd (n (ap (λ (b : Bool). cond b Emptied Untouched) isnt)))
    (cases_Bool (eqb (shard_of place) lane))

first-not_whole : (b : Bool) → cond b Emptied Untouched ≡ Whole → ⊥
first-not_whole true e = cc e
first-not_whole false e = cc e

pub first-share-law : {T : Type 0} (content : T → List ℕ) (room : T → ℕ) (spots : ℕ → Spot) → FirstShareLaw content room spots
first-share-law content room spots z slots limits empty = record {
  untouched = λ place number inside below none.
      let bad : Emptied ≡ Untouched = sym (first-own place number) ∙ none (shard_of place) (let low = (is_place-parts z place inside).0 in omega arith) in absurd (cc bad);
  emptied = λ l place number less inside below e. empty place number inside below;
  whole = λ l place number less inside below e. absurd (first-not_whole (eqb (shard_of place) l) e);
  touched = λ l place number less below n. (first-touched l place number n, refl);
  owned = λ l place less a. refl;
  contents = λ place. tt;
}
