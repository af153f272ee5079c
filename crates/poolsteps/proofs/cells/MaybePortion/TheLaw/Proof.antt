-- A `&` to what may be a portion has what a `&` to the portion has, or nothing. Assumes `Logic`.
use Rattle.std.specs.Prelude.{Option, Some, None}
use seplogic.Ra.Ura.{Ura}
use base.Fml.{Lft, ftrue}
use types.Logic.{Logic}
use denote.RattleType.{RattleType}
use denote.RawPtr.{Ptr, RawPtr}
use denote.Sharing.{ShrLaws, said}
use denote.SharingLaws.{beside_shr_laws, said_shr_laws, nothing_shr_laws}
use Rattle.std.specs.Ptr.{ptr_add}
use Rattle.poolsteps.specs.Held.{Held, held_owns, held_shares}
use Rattle.poolsteps.specs.Portion.{reaches, portion_owns, portion_shares}
use denote.Param.Laws.{Laws}
use denote.Param.Shared.{copy_shared}
use denote.Struct.Laws.{field_copy}
use denote.Struct.Lending.{of_Lends, Lends, Lends-both, Lends-said, Lends-nothing}
use Rattle.core.specs.contracts.marker.PhantomData as marker
use Rattle.poolsteps.specs.contracts.cells.MaybePortion as C
use Rattle.poolsteps.proofs.cells.MaybePortion.TheLaw.Statement.{statement}
use Rattle.poolsteps.proofs.raw.PortionSteps.{shares_laws, portion_lends}

module _ (T : RattleType) (L : Laws T) where
  held_shares_laws : (held : Option (Held T.Denot)) → ShrLaws (held_shares T held)
  held_shares_laws None = nothing_shr_laws
  held_shares_laws (Some h) = beside_shr_laws _ _ (said_shr_laws (reaches T h.index) tt) (shares_laws T L (ptr_add T h.index h.base) h.object h.lifetime h.cell)

  held_lends : {M : Type 1} {𝓤 : Ura M} (𝓛 : Logic 𝓤) (held : Option (Held T.Denot)) (l : Lft) → Lends 𝓛 (held_owns T held) (held_shares T held) l
  held_lends 𝓛 None l = Lends-nothing 𝓛 ftrue l
  held_lends 𝓛 (Some h) l = let q : Ptr = ptr_add T h.index h.base in
      Lends-both 𝓛 (reaches T h.index) (portion_owns T q h.object h.lifetime h.cell h.parts h.owner) (said (reaches T h.index)) (portion_shares T q h.object h.lifetime h.cell) l
      (Lends-said 𝓛 (reaches T h.index) tt l) (portion_lends T L q h.object h.lifetime 𝓛 h.cell h.parts h.owner l)

pub shares : (T : RattleType) (L : Laws T) → statement T L
shares T L = of_Lends (C.struct T) (C.the_codes T.Denot T.coded (marker.the_row RawPtr).coded) (C.the_heap T) (C.the_lent T)
    (λ d p. held_shares_laws T L d.held) (copy_shared (marker.the_field RawPtr) (field_copy (marker.the_type RawPtr) tt), tt)
    (λ M 𝓤 𝓛 d p. held_lends T L 𝓛 d.held (C.the_row T).lives)
