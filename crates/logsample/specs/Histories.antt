-- What a caller can conclude of keys.
use Rattle.std.specs.Prelude.{◌≡◌, ℕ, ◌+◌, ◌<◌, ◌≤◌, Bool, false, List, length, Option, None, IsNone, IsSome}
use mathlib.Core.List.{IsPrefix}
use Rattle.keybits.specs.declared.shape.Shape.{Shape}
use Rattle.keybits.specs.Keys.{place_of, generation_of}
use Rattle.seqpool.specs.declared.act.Act.{Act}
use Rattle.seqpool.specs.declared.act.Act.TheVariants.{Get}
use Rattle.seqpool.specs.Pool.{IsLegal}
use Rattle.seqpool.specs.Histories.{At}
use Rattle.shardpool.specs.Tokens.{LaneOf}
use Rattle.shardpool.specs.Creates.{GivesNone}
use Rattle.guards.specs.Guarded.{Uses}
use Rattle.guards.specs.Several.{Missed}
use Rattle.guards.specs.Seated.{CreatesSuch, Clears, Hears}
use Rattle.logsample.specs.declared.calls.LogFault.{LogFault}
use Rattle.logsample.specs.declared.calls.LogFault.TheVariants.{NoStatus, NoPlace, Memory, Unheard}
use Rattle.logsample.specs.declared.entries.Request.{Request}
use Rattle.logsample.specs.Requests.{content_of}

-- from then on nobody finds the key: in whatever history the pool goes on to, each later get of it finds none
abbrev pub NobodyFinds : Shape → List Act → ℕ → Type 0
NobodyFinds z seen key = (history : List Act) → IsPrefix seen history → IsLegal z history
    → (i lane : ℕ) (reply : Option (List ℕ)) → At history i (Get lane key reply) → length seen ≤ i → reply ≡ None

-- the key is that of the next use of a key's place
abbrev pub IsNext : ℕ → ℕ → Type 0
IsNext key last = (place_of key ≡ place_of last) × (generation_of key ≡ generation_of last + 1)

-- what the lane did where a request wasn't logged for this: nothing; a create that gave no place; or, where memory was refused for a path that had no room there, a create that gave one
abbrev pub LogsNothing : Request → LogFault → LaneOf → LaneOf → Type 0
LogsNothing request NoStatus old new = new ≡ old
LogsNothing request (NoPlace fault) old new = GivesNone old new
LogsNothing request Memory old new = CreatesSuch (λ entry. entry.path.room < length request.path.now) content_of
    (λ entry. entry.path.room) old new
LogsNothing request Unheard old new = ⊥

-- the lane heard of the key, looked at it, and cleared it, and did nothing more; where it saw nothing, its clear came behind another, and marked nothing
pub record Collects {A : Type 0} (z : Shape) (key : ℕ) (answer : Option A) (old new : LaneOf) : Type 0 where
  pub heard : LaneOf
  pub hears : Hears old heard
  pub looked : LaneOf
  pub uses : IsSome answer → Uses key heard looked
  pub misses : IsNone answer → Missed z key heard looked
  pub marked : Bool
  pub clears : Clears z key marked looked new
  pub behind : IsNone answer → marked ≡ false
