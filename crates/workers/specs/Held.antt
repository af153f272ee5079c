-- What registers hold.
use Rattle.std.specs.Prelude.{Bool, true, false, List, Option, Some, None}
use Rattle.slotcell.specs.ByteBuf.{ByteBuf}
use Rattle.shardpool.specs.Tokens.{FillingOf, RefOf}
use Rattle.workers.specs.declared.registers.Register.{Register}
use Rattle.workers.specs.declared.registers.Held.{Held}
use Rattle.workers.specs.declared.registers.Held.TheVariants.{Empty, Filling, Reference}

-- whether it is nothing
abbrev pub is_empty : Held → Bool
is_empty Empty = true
is_empty (Filling filling) = false
is_empty (Reference reference) = false

-- the filling, where it is one
abbrev pub filling_in : Held → Option (FillingOf ByteBuf)
filling_in Empty = None
filling_in (Filling filling) = Some filling
filling_in (Reference reference) = None

-- the reference, where it is one
abbrev pub reference_in : Held → Option RefOf
reference_in Empty = None
reference_in (Filling filling) = None
reference_in (Reference reference) = Some reference

-- the first where something was taken, and the other where nothing was
abbrev pub where_some : {A : Type 0} → Option A → List Register → List Register → List Register
where_some (Some taken) registers other = registers
where_some None registers other = other
