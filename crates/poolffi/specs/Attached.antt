-- What an export did with the slot of a pool that callers share.
use Rattle.std.specs.Prelude.{◌≡◌, ◌≢◌, ◌⊎◌, ℕ, List, [], ◌∷◌, Option, Some, None, Result, Ok, Err, IfOk}
use Rattle.keybits.specs.declared.shape.Shape.{Shape}
use Rattle.keybits.specs.declared.shape.ShapeFault.{ShapeFault}
use Rattle.keybits.specs.Shapes.{IsShape}
use Rattle.keybits.specs.ShapeFaults.{IsFirstWideFault}
use Rattle.shardpool.specs.declared.census.Census.{Census}
use Rattle.poolffi.specs.declared.caller.Caller.{Caller}
use Rattle.poolffi.specs.declared.found.Found.{Found}
use Rattle.poolffi.specs.declared.refusal.Refusal.{Refusal}
use Rattle.poolffi.specs.declared.refusal.Refusal.TheVariants.{Busy, Memory, Full, NoReference, Gone, References, Shared}
use Rattle.poolffi.specs.Callers.{pool_of, Puts, Gets, Shares, ClosesPool, ClosesNot}
use Rattle.poolffi.specs.declared.PoolCensus.{PoolCensus}
use Rattle.poolffi.specs.declared.attach.PoolLent.{PoolLent}
use Rattle.poolffi.specs.Exports.{AreCounts}

-- the code of a refusal; 2 is for a slot without a pool, 3 for one with a pool where none is to be, and 12 for a shape outside its limits
abbrev pub code_of : Refusal → ℕ
code_of Memory = 1
code_of Full = 4
code_of NoReference = 7
code_of Gone = 8
code_of References = 9
code_of Shared = 14
code_of Busy = 15

-- the code of an answer
abbrev pub answer_code : {A : Type 0} → Result A Refusal → ℕ
answer_code (Ok a) = 0
answer_code (Err refusal) = code_of refusal

-- the slot has no pool
abbrev pub HasNoPool : List Caller → Type 0
HasNoPool items = (caller : Caller) → items ≡ caller ∷ [] → ⊥

-- it has one
abbrev pub HasPool : List Caller → Type 0
HasPool items = (caller : Caller) × (items ≡ caller ∷ [])

-- a slot without a pool answers 2 and stays as it was; else its caller made the call, whose answer the code tells
abbrev pub CallsPool : {A : Type 0} → (Caller → Caller → Result A Refusal → Type 0) → List Caller → List Caller → ℕ → Type 0
CallsPool {A} R old new code = (HasNoPool old × (code ≡ 2) × (new ≡ old))
    ⊎ ((before after : Caller) × (old ≡ before ∷ []) × (new ≡ after ∷ []) × (answer : Result A Refusal) × (code ≡ answer_code answer)
    × R before after answer)

-- a put, whose key was written
abbrev pub PutsKey : List ℕ → ℕ → Caller → Caller → Result ℕ Refusal → Type 0
PutsKey bytes key before after answer = Puts bytes before after answer × IfOk answer (λ made. key ≡ made)

-- what was found is written: the address where there are bytes
abbrev pub AreTold : ℕ → Found → PoolLent → Type 0
AreTold key found lent = (lent.key ≡ key) × (lent.lane ≡ found.lane) × (lent.len ≡ found.len) × (found.len ≢ 0 → lent.at ≡ found.at)

-- a get, of which what was found was written
abbrev pub Lends : ℕ → PoolLent → Caller → Caller → Result Found Refusal → Type 0
Lends key lent before after answer = Gets key before after answer × IfOk answer (λ found. AreTold key found lent)

-- an attach of a shape: 3 where the slot has a pool; 12 for a shape with a fault; 1, for want of memory, for one within its limits; and 0 for a shape without a
-- fault, of which the slot then has a pool. At other codes it is as before
abbrev pub Attaches : Shape → List Caller → List Caller → ℕ → Type 0
Attaches shape old new code = ((code ≡ 3) × HasPool old × (new ≡ old))
    ⊎ (HasNoPool old
    × (((code ≡ 12) × ((fault : ShapeFault) × IsFirstWideFault shape fault) × (new ≡ old))
    ⊎ (((code ≡ 1) × IsShape shape × (new ≡ old))
    ⊎ ((code ≡ 0) × ((fault : ShapeFault) → IsFirstWideFault shape fault → ⊥)
    × ((caller : Caller) × (new ≡ caller ∷ []) × ((pool_of caller).shape ≡ shape))))))

-- a share: where the slot has no pool, 2, and where the other has one, 3, and both stay; else the other has a caller of the same pool, or stays, and the code tells why
abbrev pub SharesSlots : List Caller → List Caller → List Caller → List Caller → ℕ → Type 0
SharesSlots one other one_now other_now code = (HasNoPool one × (code ≡ 2) × (one_now ≡ one) × (other_now ≡ other))
    ⊎ ((HasPool one × HasPool other × (code ≡ 3) × (one_now ≡ one) × (other_now ≡ other))
    ⊎ ((before after : Caller) × (one ≡ before ∷ []) × (one_now ≡ after ∷ []) × HasNoPool other
    × (((code ≡ 0) × ((made : Caller) × (other_now ≡ made ∷ []) × Shares before after (Ok made)))
    ⊎ ((refusal : Refusal) × (code ≡ code_of refusal) × (other_now ≡ other) × Shares before after (Err refusal)))))

-- a slot without a pool answers 2; else it is empty, and its caller is no more
abbrev pub Unshares : List Caller → List Caller → ℕ → Type 0
Unshares old new code = (HasNoPool old × (code ≡ 2) × (new ≡ old)) ⊎ (HasPool old × (code ≡ 0) × (new ≡ []))

-- the slot has the caller again, or is empty
abbrev pub items_of : Option Caller → List Caller
items_of None = []
items_of (Some caller) = caller ∷ []

-- a detach: where the slot has no pool, 2, and it stays; else the pool is closed, and these are its counts; or it isn't, and the code tells why
abbrev pub Detaches : List Caller → List Caller → PoolCensus → ℕ → Type 0
Detaches old new census code = (HasNoPool old × (code ≡ 2) × (new ≡ old))
    ⊎ ((caller : Caller) × (old ≡ caller ∷ [])
    × (((code ≡ 0) × (new ≡ []) × ((counts : Census) × ClosesPool caller counts × AreCounts counts census))
    ⊎ ((refusal : Refusal) × (back : Option Caller) × (code ≡ code_of refusal) × (new ≡ items_of back) × ClosesNot caller back refusal)))
