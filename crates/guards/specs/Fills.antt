-- How a write to the object of a guard comes back.
use Rattle.std.specs.Prelude.{[]}
use Rattle.std.specs.Borrow.{Lends, Fml, RattleType, MutBor}
use mir.Syntax.{named}
use Rattle.slotcell.specs.declared.objects.Clear.{Ghosts}
use Rattle.shardpool.specs.Tokens.{FillingOf}
use Rattle.shardpool.specs.contracts.create.Filling as filling
use Rattle.guards.specs.declared.filling.FillGuard.{FillGuard}
use Rattle.guards.specs.contracts.filling.FillGuard.{the_row}

-- once the borrow `object` ends, the guard's filling has the last object written through it; the guard's lifetime is the second of the signature
abbrev pub LendsGuarded : (T : RattleType) (g : Ghosts T.Denot) → MutBor (FillGuard T.Denot (FillingOf T.Denot)) → MutBor T.Denot → Fml
LendsGuarded T g guard object =
    Lends (the_row (record { mir = named 1; lft = [] }) T (filling.the_row T) g) T guard object
    (λ x. record guard.now { filling = record guard.now.filling { object = x } })
