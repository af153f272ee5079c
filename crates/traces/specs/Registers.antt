-- Registers of a lane: what they hold, and the last key that they had.
use Rattle.std.specs.Prelude.{◌==◌, ℕ, ◌+◌, List, [], ◌∷◌, Option, Some, None, slice_get, if◌then◌else◌}
use Rattle.keybits.specs.Keys.{place_of}
use Rattle.traces.specs.declared.script.Operand.{Operand}
use Rattle.traces.specs.declared.script.Operand.TheVariants.{Number, LastOf}
use Rattle.traces.specs.declared.registers.RegisterState.{RegisterState}
use Rattle.traces.specs.declared.registers.Holding.{Holding}
use Rattle.traces.specs.declared.registers.Holding.TheVariants.{Empty, Filling, Reference}

-- a register that had nothing yet
abbrev pub empty_register : RegisterState
empty_register = record { holding = Empty; last_key = None }

-- a register that holds this, and had this key last
abbrev pub register_with : Holding → Option ℕ → RegisterState
register_with holding last_key = record { holding = holding; last_key = last_key }

-- the register, or an empty one where there is none of this number
abbrev pub register_or_empty : Option RegisterState → RegisterState
register_or_empty (Some register) = register
register_or_empty None = empty_register

-- the register of this number
abbrev pub register_at : List RegisterState → ℕ → RegisterState
register_at registers number = register_or_empty (slice_get registers number)

-- the key that an operand names, where it names one
abbrev pub operand_key : List RegisterState → Operand → Option ℕ
operand_key registers (Number key) = Some key
operand_key registers (LastOf register) = (register_at registers register.number).last_key

-- 1 where what is held is a filling of this place, else 0
abbrev pub fills : ℕ → Holding → ℕ
fills place Empty = 0
fills place (Filling key content) = if place_of key == place then 1 else 0
fills place (Reference key content) = 0

-- 1 where what is held is a reference to this key, else 0
abbrev pub refers : ℕ → Holding → ℕ
refers key Empty = 0
refers key (Filling at content) = 0
refers key (Reference at content) = if at == key then 1 else 0

-- how many registers have a filling of this place
abbrev pub fillings : ℕ → List RegisterState → ℕ
fillings place [] = 0
fillings place (register ∷ more) = fills place register.holding + fillings place more

-- how many registers have a reference to this key
abbrev pub held_references : ℕ → List RegisterState → ℕ
held_references key [] = 0
held_references key (register ∷ more) = refers key register.holding + held_references key more
