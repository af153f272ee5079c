-- What a portion owns says the same to every thread.
use mathlib.Core.Bool.{Bool, true, false}
use mathlib.Core.List.{[], ◌∷◌}
use base.Shift.{Keyless}
use denote.RattleType.{RattleType}
use denote.Param.Send.{IsSend, IsSync}
use denote.RawPtr.{Ptr}
use Rattle.std.specs.Prelude.{ℕ}
use Rattle.std_alloc.proofs.SendSync.{lies, seen}
use Rattle.poolsteps.specs.Portion.{returns_if, portion_owns}

module _ (T : RattleType) (s : IsSend T) where
  returns_keyless : (p : Ptr) (x : T.Denot) (a : ℕ) (y : Bool) → Keyless (returns_if T p x a y)
  returns_keyless p x a true = lies T s p x
  returns_keyless p x a false = tt

  pub portion_keyless : IsSync T → (p : Ptr) (x : T.Denot) (a name k : ℕ) (y : Bool) → Keyless (portion_owns T p x a name k y)
  portion_keyless shared p x a name k y = (((λ q c. tt), seen T shared p x (a ∷ [])), (tt, returns_keyless p x a y))
