-- Each publish is by the owner of its place's shard, as a history grows.
use Rattle.std.proofs.Common.{◌≡◌, ⊎_elim, ℕ, zero, suc, List, [], ◌∷◌, ◌++◌, length, slice_get, Option, Some, None, subst}
use Rattle.keybits.specs.Places.{shard_of}
use Rattle.keybits.specs.Keys.{place_of}
use Rattle.seqpool.specs.declared.act.Act.{Act}
use Rattle.seqpool.specs.declared.act.Act.TheVariants.{Publish, Get, Release, Clear, Reclaim, Home, Collect}
use Rattle.steplaws.specs.StepLaws.{with_act}
use Rattle.poolsteps.specs.Owners.{ArePublishedByOwners}
use Rattle.poolsteps.proofs.ViewLemmas.{entry-of}

-- the act is no publish, or one by the lane of its place's shard
abbrev pub IsByOwner : Act → Type 0
IsByOwner (Publish lane key content with_ref) = shard_of (place_of key) ≡ lane
IsByOwner (Get lane key reply) = Unit {0}
IsByOwner (Release lane key) = Unit {0}
IsByOwner (Clear lane key reply) = Unit {0}
IsByOwner (Reclaim lane key) = Unit {0}
IsByOwner (Home lane place) = Unit {0}
IsByOwner (Collect lane places) = Unit {0}

-- and so is the act of a step, if it made one
abbrev pub IsOwned : Option Act → Type 0
IsOwned None = Unit {0}
IsOwned (Some act) = IsByOwner act

-- with it each publish is still by its owner
pub owners-with : (history : List Act) (act : Option Act) → ArePublishedByOwners history → IsOwned act → ArePublishedByOwners (with_act history act)
owners-with history None owners owned = owners
owners-with history (Some act) owners owned = λ position lane key content with_ref at. ⊎_elim
    (λ (earlier : slice_get history position ≡ Some (Publish lane key content with_ref)). owners position lane key content with_ref earlier)
    (λ (last : (position ≡ length history) × (act ≡ Publish lane key content with_ref)). subst IsByOwner last.1 owned)
    (entry-of history act (Publish lane key content with_ref) position at)

-- an entry of a list is one of a longer list
entry-further : {A : Type 0} (list more : List A) (entry : A) (index : ℕ) → slice_get list index ≡ Some entry → slice_get (list ++ more) index ≡ Some entry
entry-further [] more entry index is = absurd (cc is)
entry-further (x ∷ list) more entry zero is = is
entry-further (x ∷ list) more entry (suc index) is = entry-further list more entry index is

-- so it is in each beginning of a history
pub owners-front : (front more : List Act) → ArePublishedByOwners (front ++ more) → ArePublishedByOwners front
owners-front front more owners = λ position lane key content with_ref at.
    owners position lane key content with_ref (entry-further front more (Publish lane key content with_ref) position at)

-- and before the first act
pub owners-none : ArePublishedByOwners []
owners-none = λ position lane key content with_ref at. absurd (cc at)
