-- A call by a lane that was had, whatever it answered.
use Rattle.std.proofs.Common.{◌≡◌, Result, Ok, Err, inr}
use mathlib.Core.List.{IsPrefix}
use Rattle.shardpool.specs.Tokens.{LaneOf}
use Rattle.shardpool.specs.Lanes.{Owns}
use Rattle.poolffi.specs.declared.caller.Caller.{Caller}
use Rattle.poolffi.specs.declared.refusal.Refusal.{Refusal}
use Rattle.poolffi.specs.Callers.{pool_of, ByLane, ByAny}

pub by-lane : (call : LaneOf → LaneOf → Type 0) (old new : Caller) (before after : LaneOf) → new.store ≡ old.store → new.row ≡ old.row
    → Owns (pool_of old) before → IsPrefix old.note.book.seen before.book.seen → new.note.book.seen ≡ after.book.seen → call before after → ByLane old new call
by-lane call old new before after store row owns heard tells made = (
  store,
  row,
  record { before = before; after = after; owns = owns; heard = heard; calls = made; issued = rw store at new.issued; tells = tells },
)

pub by-any : {A : Type 0} (call : LaneOf → LaneOf → Result A Refusal → Type 0) (before after : Caller) (answer : Result A Refusal)
    → ByLane before after (λ old new. call old new answer) → ByAny call before after answer
by-any call before after (Ok reply) made = made
by-any call before after (Err refusal) made = inr made
