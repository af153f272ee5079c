-- A `&` to a loose value reads it. Assumes `Logic`.
use mathlib.Core.List.{[], ◌++◌}
use base.Fml.{Incl-trans}
use contract.BorrowLft.{meet_⊑_left}
use denote.RattleType.{RattleType}
use base.Fraction.{full_share}
use denote.RawPtr.{Ptr, RawPtr, lies_at}
use denote.Sharing.{said}
use denote.SharingLaws.{beside_shr_laws, said_shr_laws}
use Rattle.std.specs.Ptr.{ptr_add}
use Rattle.poolsteps.specs.Portion.{reaches}
use denote.Param.Laws.{Laws}
use denote.Shares.{Shares-less}
use denote.Param.Shared.{copy_shared}
use denote.Struct.Laws.{field_copy}
use denote.Struct.Lending.{of_Lends, Lends-lies, Lends-both, Lends-said, lent_at, lent_at_shr_laws}
use Rattle.core.specs.contracts.marker.PhantomData as marker
use Rattle.poolsteps.specs.contracts.memory.Loose as C
use Rattle.poolsteps.proofs.memory.Loose.TheLaw.Statement.{statement}

pub shares : (R : RattleType) (L : Laws R) → statement R L
shares R L = of_Lends (C.struct R) (C.the_codes R.Denot R.coded (marker.the_row RawPtr).coded) (C.the_heap R) (C.the_lent R)
    (λ d p. beside_shr_laws _ _ (said_shr_laws (reaches R d.index) tt) (lent_at_shr_laws R L.shr_laws (ptr_add R d.index d.base) d.object)) (copy_shared (marker.the_field RawPtr) (field_copy (marker.the_type RawPtr) tt), tt)
    (λ M 𝓤 𝓛 d p. let l = (C.the_row R).lives in
    let q : Ptr = ptr_add R d.index d.base in Lends-both 𝓛 (reaches R d.index) (lies_at R full_share q d.object) (said (reaches R d.index)) (lent_at R q d.object) l (Lends-said 𝓛 (reaches R d.index) tt l)
    (Lends-lies 𝓛 R l q d.object (Shares-less 𝓛 R R.lives l (Incl-trans (meet_⊑_left (R.lives ++ []) _) (meet_⊑_left R.lives [])) (L.shares 𝓛) d.object)))
