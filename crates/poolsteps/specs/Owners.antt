-- Who publishes: the lane of a place's shard.
use Rattle.std.specs.Prelude.{◌≡◌, ℕ, Bool, List}
use Rattle.keybits.specs.Places.{shard_of}
use Rattle.keybits.specs.Keys.{place_of}
use Rattle.seqpool.specs.declared.act.Act.{Act}
use Rattle.seqpool.specs.declared.act.Act.TheVariants.{Publish}
use Rattle.seqpool.specs.Histories.{At}

-- each publish in a history is by the lane that owns the shard of the key's place
abbrev pub ArePublishedByOwners : List Act → Type 0
ArePublishedByOwners history = (position lane key : ℕ) (content : List ℕ) (with_ref : Bool)
    → At history position (Publish lane key content with_ref)
    → shard_of (place_of key) ≡ lane
