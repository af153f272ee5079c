-- The codes of the exports.
use Rattle.std.specs.Prelude.{ℕ, Result, Ok, Err}
use Rattle.poolhandle.specs.declared.refusal.Refusal.{Refusal}
use Rattle.poolhandle.specs.declared.refusal.Refusal.TheVariants.{Memory, Full, Fillings, NoFilling, NoReference, Gone, References, OtherPool, Lanes, Room, Shared}

-- the code of a refusal; 2 is for a slot without a lane, 3 for one with a lane where none is to be, and 12 for a shape outside its limits
abbrev pub code_of : Refusal → ℕ
code_of Memory = 1
code_of Full = 4
code_of Fillings = 5
code_of NoFilling = 6
code_of NoReference = 7
code_of Gone = 8
code_of References = 9
code_of OtherPool = 10
code_of Lanes = 11
code_of Room = 13
code_of Shared = 14

-- the code of an answer
abbrev pub answer_code : {A : Type 0} → Result A Refusal → ℕ
answer_code (Ok a) = 0
answer_code (Err refusal) = code_of refusal
