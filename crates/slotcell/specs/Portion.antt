-- What a `Portion` of a cell owns.
--     The cell's box is lent for a lifetime of its own, a. Whoever has the whole token of a can end it, and then has the box back.
--     The token has 2 ^ 63 equal parts. A portion has some of them, and one portion of a cell also has the right to the box.
--     A cell's name says for good what its lifetime, its address and its object are: two portions of one name are of one cell.
use Rattle.std.specs.Prelude.{ℕ, ◌+◌, ◌-◌, ◌^◌, ◌==◌, Bool, true, false, if◌then◌else◌, [], ◌∷◌}
use Rattle.std.specs.Coded.{Coded, coded×, coded_ℕ}
use base.FractionLaws.{Counts}
use base.Fml.{Lft, Share, Fml, ftrue, fsep, fex, flft, flent, fres}
use denote.RattleType.{RattleType}
use denote.Builtin.{RawPtr}
use denote.RawPtr.{Ptr}
use denote.Sharing.{said, beside, one, held}
use denote.Struct.Lending.{lent_at}
use Rattle.std.specs.declared.alloc.Global.{Global}
use Rattle.std.specs.contracts.impls.GlobalAllocator.TheImpl.{ghosts}
use Rattle.std_alloc.specs.Box.Ownership.{box_owns}

-- k of the 2 ^ 63 parts of the token of lifetime a
abbrev pub parts_owns : ℕ → ℕ → Fml
parts_owns a k = fex Share (λ q. fex (Counts 63 q k) (λ _. flft (a ∷ []) q))

-- the handle of the heap, of which there is one value
abbrev pub heap_handle : Global
heap_handle = record { memory = record { seal = tt } }

-- what a cell's name says: its lifetime, its address and its object
abbrev pub named_code : (R : RattleType) → Coded (ℕ × (Ptr × R.Denot))
named_code R = coded× coded_ℕ (coded× RawPtr.coded R.coded)

module _ (R : RattleType) (p : Ptr) (x : R.Denot) (a : ℕ) where
  -- the object's memory, and the right to free it
  abbrev pub boxed : Fml
  boxed = box_owns (ghosts.dealloc_token heap_handle) R p x

  -- the right to the box once a has ended
  abbrev pub returns_if : Bool → Fml
  returns_if true = flent (a ∷ []) boxed
  returns_if false = ftrue

  -- k parts, and the object to be read for as long as a lasts
  abbrev pub reads_owns : ℕ → Fml
  reads_owns k = fsep (parts_owns a k) (lent_at R p x (a ∷ []))

  -- the name says that this is its cell
  abbrev pub named : ℕ → Fml
  named name = fres name ((named_code R).code (a, (p, x)))

  abbrev pub portion_owns : ℕ → ℕ → Bool → Fml
  portion_owns name k owner = fsep (reads_owns k) (fsep (named name) (returns_if owner))

  -- what a `&` to a portion gives to read by: a share of its parts, and the object to be read
  abbrev pub reads_shares : Lft → Fml
  reads_shares = beside (one (λ q. flft (a ∷ []) q)) (held (a ∷ []) (lent_at R p x))

  -- what a `&` to a portion gives: that, and what the name says
  abbrev pub portion_shares : ℕ → Lft → Fml
  portion_shares name = beside reads_shares (said (named name))

-- share i of n has one of the 2 ^ 63 parts of its cell; the last one has all that the others leave
abbrev pub parts_of : ℕ → ℕ → ℕ
parts_of n i = if i + 1 == n then 2 ^ 63 - i else 1
