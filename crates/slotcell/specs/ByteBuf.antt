-- What a contract sees of a `ByteBuf`.
use Rattle.std.specs.Prelude.{ℕ, List}

-- the bytes, and the room: how many bytes the buffer can hold in all without taking memory
pub record ByteBuf : Type 0 where
  pub bytes : List ℕ
  pub room : ℕ
