-- What calls did that end for good after so many steps.
use Rattle.std.specs.Prelude.{◌≡◌, ◌≢◌, ◌⊎◌, ◌+◌, ◌-◌, ◌<◌, ℕ, true, List, [], ◌∷◌, ◌++◌, length, None}
use Rattle.atomic_table.specs.Table.{Me}
use Rattle.keybits.specs.declared.shape.Shape.{Shape}
use Rattle.keybits.specs.declared.step.Step.{Step}
use Rattle.keybits.specs.Keys.{place_of}
use Rattle.keybits.specs.Places.{shard_of}
use Rattle.keybits.specs.Words.{generation_in}
use Rattle.seqpool.specs.declared.act.Act.{Act}
use Rattle.steplaws.specs.Calls.{Call, end_next, next_step, key_in, is_claimed, AreSteps}
use Rattle.poolsteps.specs.declared.view.View.{View}
use Rattle.poolsteps.specs.Views.{the_lane}
use Rattle.poolsteps.specs.Told.{Leaves}
use Rattle.poolsteps.specs.Returned.{Follows}
use Rattle.seatcalls.specs.Acted.{Acted}
use Rattle.seatcalls.specs.Called.{caller_of, Make, Did, AreEnd}

-- the lane made the first so many steps of a call, or all where it has no more: these steps, each by the step relation, the acts that they made, and nothing more
pub record CalledWithin {S : Type 0} (z : Shape) (call : Call) (limit : ℕ) (before after : Me S View) : Type 0 where
  pub steps : List Step
  pub made : List Act
  pub are : AreSteps (caller_of z before.0) call [] steps
  pub ends : (length steps ≡ limit) ⊎ ((length steps < limit) × (next_step (caller_of z before.0) call steps ≡ None))
  pub make : Make z (caller_of z before.0) call steps made
  pub acted : Acted z made before.0 after.0
  pub held : after.1 ≡ before.1
  pub stepped : after.0.steps ≡ before.0.steps + length steps

-- an END went on by these steps after the ones made so far, up to its last or to the limit
pub record GoesWithin {S : Type 0} (z : Shape) (place : ℕ) (done : List Step) (limit : ℕ) (before after : Me S View) : Type 0 where
  pub steps : List Step
  pub made : List Act
  pub looks : ℕ
  pub are : AreEnd (caller_of z before.0) place done steps
  pub ends : (length steps ≡ limit) ⊎ ((length steps < limit) × (end_next (caller_of z before.0) place (done ++ steps) ≡ None))
  pub make : (call : Call) → place_of (key_in call) ≡ place → Make z (caller_of z before.0) call steps made
  pub did : Did z place made (length steps) looks before after

-- the first so many steps of the return of a place, after a LEAVE and a CLAIM that succeeded below the last generation, at a place of another shard
abbrev pub GivesWithin : {S : Type 0} → Shape → ℕ → ℕ → Me S View → Me S View → Type 0
GivesWithin z place limit before after = (leave claim : Step) → is_claimed (generation_in leave.before) claim.before ≡ true
    → generation_in leave.before ≢ z.last_generation → shard_of place ≢ (the_lane before.0).lane
    → GoesWithin z place (leave ∷ claim ∷ []) limit before after

-- the first so many of what follows a CLAIM of this generation that succeeded
abbrev pub TailsWithin : {S : Type 0} → Shape → ℕ → ℕ → ℕ → Me S View → Me S View → Type 0
TailsWithin z place generation limit before after = (leave claim : Step) → generation_in leave.before ≡ generation
    → is_claimed generation claim.before ≡ true
    → GoesWithin z place (leave ∷ claim ∷ []) limit before after

-- the first so many of what follows a LEAVE that found this word
abbrev pub EndsWithin : {S : Type 0} → Shape → ℕ → ℕ → ℕ → Me S View → Me S View → Type 0
EndsWithin z place found limit before after = (leave : Step) → leave.before ≡ found → GoesWithin z place (leave ∷ []) limit before after

-- the first so many of a LEAVE of a key's place and what follows it: nothing where that is none
abbrev pub LeavesWithin : {S : Type 0} → Shape → ℕ → ℕ → Me S View → Me S View → Type 0
LeavesWithin {S = S} z key limit before after = ((limit ≡ 0) × (after ≡ before))
    ⊎ ((found : ℕ) × (between : Me S View) × (0 < limit) × Leaves z key before found between
    × EndsWithin z (place_of key) found (limit - 1) between after)

-- a FOLLOW, or nothing where no step may be made
abbrev pub FollowsWithin : {S : Type 0} → Shape → ℕ → Me S View → Me S View → Type 0
FollowsWithin z limit before after = ((limit ≡ 0) × (after ≡ before)) ⊎ ((found : ℕ) × (0 < limit) × Follows z before found after)
